-- `hex::reading::has_record` meets its contract: the tests of a record, those of its frame first.
use Prim.Native.Nat.{ℕ, ◌+◌, ◌*◌, ◌-◌, ◌/◌, ◌%◌, ◌<◌}
use mathlib.Core.Path.{◌≡◌, sym, ap, ◌∙◌}
use mathlib.Core.Bool.{Bool, true, false, ◌&&◌}
use mathlib.Core.List.{List}
use native.Mathlib.Omega.{arith}
use lib.Dec.{eqb}
use lib.ListN.{length, get_or, take, drop, length-drop}
use lib.Seq.{length-take-le}
use Rattle.board.specs.Hex.{bytes_in, bytes_of, all_bytes, sum_of, count_of, has_record}
use Rattle.intel_hex.proofs.Parsing.{in-take}
use Rattle.intel_hex.proofs.Fronts.{no_room, no-colon, no-feed, framed}
use Rattle.intel_hex.proofs.reading.has_record.Goals as goal
use Rattle.intel_hex.proofs.reading.has_record.Goals.{then-text-end-via-then-text-end, then-text-end-via-else-text-end+then-text-ne58, then-text-end-via-else-text-end+else-text-ne58+then-text-end-ne10}

pub returns-then-text-end : goal.returns-then-text-end
returns-then-text-end c =
    let t = c.args.text.now in
    elim c.then-text-end.branch [
      | then-text-end-via-then-text-end w ↦ no_room t c.requires.1 w.if-text-end.true
      | then-text-end-via-else-text-end+then-text-ne58 w ↦ no-colon t w.if-text-ne58.true
      | then-text-end-via-else-text-end+else-text-ne58+then-text-end-ne10 w ↦ no-feed t c.requires.1 w.if-text-end-ne10.true
    ]

-- What is lent of the record is its bytes.
lent-bytes : {count : ℕ} (text : List ℕ) → count ≡ count_of text → 2 * count + 11 < length text →
    bytes_in (length (take (2 * count + 11 - 1) (drop 1 text)) / 2) (take (2 * count + 11 - 1) (drop 1 text)) ≡ bytes_of text
lent-bytes {count} text c h =
    let n : 2 * count + 11 - 1 ≡ 2 * (count + 5) = omega arith in
    let half : length (take (2 * count + 11 - 1) (drop 1 text)) / 2 ≡ count + 5 =
    omega (arith, length-take-le (2 * count + 11 - 1) (drop 1 text) (omega (arith, length-drop 1 text))) in
    (λ i. bytes_in (half i) (take (n i) (drop 1 text))) ∙ in-take (count + 5) (drop 1 text) ∙ ap (λ (k : ℕ). bytes_in (k + 5) (drop 1 text)) c

-- A text that has a record's frame: the characters lent of it, and the bytes that they write.
module _ {count : ℕ} (text : List ℕ) (c : count ≡ count_of text) (h : 2 * count + 11 < length text) (colon : get_or text 0 0 ≡ 58) (end : get_or text (2 * count + 11) 0 ≡ 10) where
  abbrev lent : List ℕ
  lent = take (2 * count + 11 - 1) (drop 1 text)

  abbrev bytes : List ℕ
  bytes = bytes_in (length lent / 2) lent

  -- There is a record where all are bytes and their sum is right.
  whole : all_bytes bytes && eqb (sum_of bytes % 256) 0 ≡ has_record text
  whole =
      ap (λ (l : List ℕ). all_bytes l && eqb (sum_of l % 256) 0) (lent-bytes text c h) ∙ framed text colon (ap (λ (n : ℕ). get_or text (2 * n + 11) 0) (sym c) ∙ end)

  summed : {n : ℕ} → all_bytes bytes ≡ true → n ≡ sum_of bytes → eqb (n % 256) 0 ≡ has_record text
  summed {n} a e = (λ i. sym a i && eqb (e i % 256) 0) ∙ whole

  stray : all_bytes bytes ≡ false → false ≡ has_record text
  stray a = ap (λ (all : Bool). all && eqb (sum_of bytes % 256) 0) (sym a) ∙ whole

pub returns-in-Some : goal.returns-in-Some
returns-in-Some c =
    let e = c.in-Some.ensures in summed c.args.text.now c.requires.1 c.if-text-end.false c.if-text-ne58.false c.if-text-end-ne10.false e.0 e.1

pub returns-in-None : goal.returns-in-None
returns-in-None c = stray c.args.text.now c.requires.1 c.if-text-end.false c.if-text-ne58.false c.if-text-end-ne10.false c.in-None.ensures
