-- `hex::writing::put_record` meets its contract: the record's parts stand one behind the other.
use Prim.Native.Nat.{ℕ, ◌/◌, ◌%◌, ◌<◌}
use mathlib.Core.Path.{◌≡◌, ap}
use mathlib.Core.List.{List, [], ◌∷◌}
use native.Mathlib.Omega.{arith}
use lib.ListN.{get_or}
use Rattle.std.specs.Int.{w16, to_be_bytes}
use Rattle.text.specs.Ascii.{':'}
use Rattle.board.specs.Hex.{bytes_text}
use Rattle.intel_hex.proofs.Written.{low_sum, record-parts, written_as, follows}
use Rattle.intel_hex.proofs.writing.put_record.Goals as goal

-- The two bytes of the address.
bytes : {pair : List ℕ} (address : ℕ) → address < 65536 → pair ≡ to_be_bytes w16 address → (get_or pair 0 0 ≡ address / 256) × (get_or pair 1 0 ≡ address % 256)
bytes address h e = (omega (arith, ap (λ (l : List ℕ). get_or l 0 0) e), omega (arith, ap (λ (l : List ℕ). get_or l 1 0) e))

pub overflow_add-high-3 : goal.overflow_add-high-3
overflow_add-high-3 c =
    let a = c.args in
    let b = bytes a.address (omega arith) c.to_be_bytes.ensures in record { fits = omega (arith, c.byte_sum.ensures, low_sum 8 a.v) }

pub overflow_add-high-4 : goal.overflow_add-high-4
overflow_add-high-4 c =
    let a = c.args in
    let b = bytes a.address (omega arith) c.to_be_bytes.ensures in record { fits = omega (arith, c.byte_sum.ensures, c.byte_sum-2.ensures, low_sum 8 a.v, low_sum 8 a.w) }

pub returns : goal.returns
returns c =
    let a = c.args in
    let b = bytes a.address (omega arith) c.to_be_bytes.ensures in
    let head = written_as c.put_head.ensures.0 (λ i. ':' ∷ bytes_text (16 ∷ b.0 i ∷ b.1 i ∷ 0 ∷ [])) in
    let one = follows head c.put_word.ensures.0 (omega arith) in
    let two = follows one c.put_word-2.ensures.0 (omega arith) in
    let all = follows two c.put_tail.ensures.0 (omega arith) in
    (written_as all (record-parts a.address a.v a.w _ (omega (arith, c.byte_sum.ensures, c.byte_sum-2.ensures))), omega arith)
