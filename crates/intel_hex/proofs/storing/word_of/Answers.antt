-- `hex::storing::word_of` meets its contract: a word is its two halves.
use Prim.Native.Nat.{ℕ, ◌-◌, ◌<◌}
use mathlib.Core.Path.{◌≡◌, sym, ap, subst, ◌∙◌}
use mathlib.Core.List.{List}
use mathlib.Core.Bool.{true}
use native.Mathlib.Omega.{arith}
use lib.ListN.{length, take, drop, length-drop}
use Rattle.board.specs.Hex.{bytes_in, all_bytes, word_of}
use Rattle.intel_hex.proofs.Parsing.{tail}
use Rattle.intel_hex.proofs.Whole.{all-part, halves-write, half-under}
use Rattle.intel_hex.proofs.storing.word_of.Goals as goal

-- Both halves' characters are digits.
low-bytes : (text : List ℕ) → all_bytes (bytes_in 8 text) ≡ true → all_bytes (bytes_in 4 text) ≡ true
low-bytes text e = all-part 8 text e 0 4 (omega arith)

high-bytes : (text : List ℕ) → all_bytes (bytes_in 8 text) ≡ true → all_bytes (bytes_in 4 (drop 8 text)) ≡ true
high-bytes text e = all-part 8 text e 4 4 (omega arith)

pub half_of-requires : goal.half_of-requires
half_of-requires c = (omega (arith, c.requires.0), low-bytes c.args.text.now c.requires.1)

pub half_of-requires-2 : goal.half_of-requires-2
half_of-requires-2 c =
    let t = c.args.text.now in (
      omega (arith, ap length (tail 8 t), length-drop 8 t, c.requires.0),
      subst (λ (u : List ℕ). all_bytes (bytes_in 4 u) ≡ true) (sym (tail 8 t)) (high-bytes t c.requires.1),
    )

-- What the second call answers.
high : {half : ℕ} (text : List ℕ) → half ≡ word_of (bytes_in 4 (take (length text - 8) (drop 8 text))) → half ≡ word_of (bytes_in 4 (drop 8 text))
high text e = e ∙ ap (λ (u : List ℕ). word_of (bytes_in 4 u)) (tail 8 text)

-- Both are halves.
both : {low above : ℕ} (text : List ℕ) → all_bytes (bytes_in 8 text) ≡ true → low ≡ word_of (bytes_in 4 text) →
    above ≡ word_of (bytes_in 4 (take (length text - 8) (drop 8 text))) → (low < 4294967296) × (above < 4294967296)
both text all l h =
    (omega (arith, l, half-under text (low-bytes text all)), omega (arith, high text h, half-under (drop 8 text) (high-bytes text all)))

pub overflow_mul-result : goal.overflow_mul-result
overflow_mul-result c = record { fits = omega (arith, both c.args.text.now c.requires.1 c.half_of.ensures c.half_of-2.ensures) }

pub overflow_add-result : goal.overflow_add-result
overflow_add-result c = record { fits = omega (arith, both c.args.text.now c.requires.1 c.half_of.ensures c.half_of-2.ensures) }

pub returns : goal.returns
returns c = omega (arith, c.half_of.ensures, high c.args.text.now c.half_of-2.ensures, halves-write c.args.text.now)
