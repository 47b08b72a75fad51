use Prim.Native.Nat.{ℕ, ◌*◌, ◌/◌, ◌≤◌, ◌<◌}
use mathlib.Core.Path.{◌≡◌, sym, ap, ◌∙◌}
use mathlib.Core.List.{List, []}
use mathlib.Core.Bool.{true}
use native.Mathlib.Omega.{arith}
use lib.ListN.{length, get_or, take, drop, length-drop}
use lib.Seq.{length-take-le}
use borrow.Author.Rules.{rules}
use Rattle.std.specs.Simd.{first_chunks}
use Rattle.board.specs.Hex.{bytes_in, all_bytes, word_of}
use Rattle.intel_hex.proofs.Chunks.{chunk_at}
use Rattle.intel_hex.proofs.Parsing.{in-take}
use Rattle.intel_hex.proofs.Whole.{all-part, words-begin, words_more, words-end}
use Rattle.intel_hex.proofs.storing.store_words.Goals as goal

module _ {chunks : List (List ℕ)} (digits : List ℕ) (i : ℕ) (e : chunks ≡ first_chunks 16 (length digits / 16) digits) (h : i < length digits / 16) where
  -- The digits of word `i`.
  word : get_or chunks i [] ≡ take 16 (drop (16 * i) digits)
  word = ap (λ l. get_or l i []) e ∙ chunk_at 16 (length digits / 16) digits i [] h

  sixteen : 16 ≤ length (get_or chunks i [])
  sixteen = omega (arith, ap length word, length-take-le 16 (drop (16 * i) digits) (omega (arith, length-drop (16 * i) digits)))

  -- The bytes that they write.
  bytes : bytes_in 8 (get_or chunks i []) ≡ bytes_in 8 (drop (16 * i) digits)
  bytes = ap (bytes_in 8) word ∙ in-take 8 (drop (16 * i) digits)

  all : all_bytes (bytes_in (8 * (length digits / 16)) digits) ≡ true → all_bytes (bytes_in 8 (get_or chunks i [])) ≡ true
  all a =
      let two : 2 * (8 * i) ≡ 16 * i = omega arith in
      ap all_bytes (bytes ∙ ap (λ (k : ℕ). bytes_in 8 (drop k digits)) (sym two)) ∙ all-part (8 * (length digits / 16)) digits a (8 * i) 8 (omega arith)

pub loop-i-init : goal.loop-i-init
loop-i-init c = words-begin _ _ _ _

pub word_of-requires : goal.word_of-requires
word_of-requires c =
    let d = c.args.digits.now in
    let f = c.as_chunks.ensures.front in
    let h : c.loop-i.i < length d / 16 = omega (arith, c.loop-i-test.true, c.as_chunks.ensures.front_len) in
    (sixteen d c.loop-i.i f h, all d c.loop-i.i f h c.requires.0)

pub loop-i-preserved : goal.loop-i-preserved
loop-i-preserved c =
    let d = c.args.digits.now in
    let h : c.loop-i.i < length d / 16 = omega (arith, c.loop-i-test.true, c.as_chunks.ensures.front_len) in
    words_more c.loop-i.invariant h c.requires.1 (search rules) (c.word_of.ensures ∙ ap word_of (bytes d c.loop-i.i c.as_chunks.ensures.front h))

pub returns : goal.returns
returns c = words-end c.loop-i.invariant (omega (arith, c.loop-i-test.false, c.as_chunks.ensures.front_len))
