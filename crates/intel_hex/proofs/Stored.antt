-- Bytes stored into a row, one after the other.
use Prim.Native.Nat.{ℕ, suc, ◌+◌, ◌*◌, ◌-◌, ◌/◌, ◌≤◌, ◌<◌}
use mathlib.Core.Path.{◌≡◌, refl, sym, ap, ◌∙◌}
use mathlib.Core.List.{List, [], ◌∷◌, ◌++◌}
use mathlib.Core.Bool.{true}
use native.Mathlib.Omega.{arith}
use lib.ListN.{length, get_or, drop, set, length-set}
use Rattle.board.specs.Hex.{byte_of, bytes_in, all_bytes}
use Rattle.intel_hex.specs.Storing.{shifted_in, stored}
use Rattle.intel_hex.proofs.Parsing.{in-at, in-length, in-next}
use Rattle.intel_hex.proofs.Fronts.{all-at}

-- The length stays.
pub stored-length : (row : List ℕ) (at : ℕ) (bytes : List ℕ) → length (stored row at bytes) ≡ length row
unfolding stored
stored-length row at [] = refl
stored-length row at (b ∷ bytes) = stored-length (set row (at / 8) (shifted_in (get_or row (at / 8) 0) b)) (at + 1) bytes ∙ length-set row (at / 8) (shifted_in (get_or row (at / 8) 0) b)

-- Bytes stored behind others.
pub stored-append : (row : List ℕ) (at : ℕ) (xs ys : List ℕ) → stored row at (xs ++ ys) ≡ stored (stored row at xs) (at + length xs) ys
unfolding stored
stored-append row at [] ys = let z : at ≡ at + 0 = omega arith in ap (λ (i : ℕ). stored row i ys) z
stored-append row at (x ∷ xs) ys =
    let z : at + 1 + length xs ≡ at + length (x ∷ xs) = omega arith in
    let next = set row (at / 8) (shifted_in (get_or row (at / 8) 0) x) in
    stored-append next (at + 1) xs ys ∙ ap (λ (i : ℕ). stored (stored next (at + 1) xs) i ys) z

-- Of the bytes of a text that all are bytes each is one.
pub text-byte : (n : ℕ) (text : List ℕ) (k : ℕ) → all_bytes (bytes_in n text) ≡ true → k < n → byte_of (get_or text (2 * k) 0) (get_or text (2 * k + 1) 0) < 256
text-byte n text k e h = omega (arith, all-at (bytes_in n text) k e (omega (arith, in-length n text)), in-at n text k h)

-- The first `k` bytes of a text are stored into a row.
pub record Filled (n : ℕ) (text row : List ℕ) (from k : ℕ) (now : List ℕ) : Type 0 where
  pub within : k ≤ n
  pub size : length now ≡ length row
  pub rest : stored now (from + k) (bytes_in (n - k) (drop (2 * k) text)) ≡ stored row from (bytes_in n text)

-- None of them yet.
pub filled-begins : (n : ℕ) (text row : List ℕ) (from : ℕ) → Filled n text row from 0 row
filled-begins n text row from =
    let m : n - 0 ≡ n = omega arith in
    let f : from + 0 ≡ from = omega arith in
    record { within = omega arith; size = refl; rest = (λ i. stored row (f i) (bytes_in (m i) text)) }

-- One more.
pub filled_more : {n : ℕ} {text row : List ℕ} {from k byte : ℕ} {now : List ℕ} → Filled n text row from k now → k < n →
    byte ≡ byte_of (get_or text (2 * k) 0) (get_or text (2 * k + 1) 0) →
    Filled n text row from (k + 1) (set now ((from + k) / 8) (shifted_in (get_or now ((from + k) / 8) 0) byte))
unfolding stored
filled_more {n} {text} {row} {from} {k} {byte} {now} f h e =
    let w = (from + k) / 8 in
    let m : n - k ≡ suc (n - (k + 1)) = omega arith in
    let a : from + (k + 1) ≡ from + k + 1 = omega arith in
    let tail = bytes_in (n - (k + 1)) (drop (2 * (k + 1)) text) in
    record {
      within = omega arith;
      size = length-set now w (shifted_in (get_or now w 0) byte) ∙ f.size;
      rest = (λ i. stored (set now w (shifted_in (get_or now w 0) (e i))) (a i) tail)
          ∙ ap (stored now (from + k)) (sym (ap (λ (m : ℕ). bytes_in m (drop (2 * k) text)) m ∙ in-next (n - (k + 1)) text k)) ∙ f.rest;
    }

-- All of them.
pub filled-ends : {n : ℕ} {text row : List ℕ} {from k : ℕ} {now : List ℕ} → Filled n text row from k now → n ≤ k → now ≡ stored row from (bytes_in n text)
unfolding stored bytes_in
filled-ends {n} {text} {row} {from} {k} {now} f h =
    let m : n - k ≡ 0 = omega arith in
    sym (ap (λ (m : ℕ). stored now (from + k) (bytes_in m (drop (2 * k) text))) m) ∙ f.rest
