-- A walk over the lines that hold cells meets every cell's mark.
use Prim.Native.Nat.{ℕ, ◌+◌, ◌-◌, ◌*◌, ◌%◌, ◌≤◌}
use mathlib.Core.Path.{◌≡◌, sym, ap, ◌∙◌}
use mathlib.Core.Bool.{Bool, ◌||◌, or_assoc}
use mathlib.Core.List.{List}
use native.Mathlib.Omega.{arith}
use lib.Dec.{ltb}
use lib.ListN.{get_or}
use Rattle.predicate.specs.Passing.{any_under}
use Rattle.line.specs.declared.Field.TheVariants.{Mark}
use Rattle.line.specs.Cell.{cell_line, field_offset, field_of}
use Rattle.line.proofs.Part.{lent, field-read}
use Rattle.board.specs.Board.{shaped, cells}
use Rattle.checks.specs.Marks.{later_at}
use Rattle.checks.proofs.Tests.{under_more}

-- Two numbers more under the bound.
under-two-more : (n : ℕ) (test : ℕ → Bool) → any_under (n + 1 + 1) test ≡ any_under n test || (test n || test (n + 1))
under-two-more n test =
    under_more (n + 1) test
    ∙ ap (λ (found : Bool). found || test (n + 1)) (under_more n test)
    ∙ or_assoc (any_under n test) (test n) (test (n + 1))

-- The mark of cell `c` is greater than the epoch.
abbrev later : ℕ → List ℕ → ℕ → Bool
later epoch row c = ltb epoch (field_of row c Mark)

-- Some cell of lines 1 to `lines` has such a mark.
abbrev pub later_within : ℕ → List ℕ → ℕ → Bool
later_within epoch row lines = any_under (cells (shaped lines)) (later epoch row)

-- A mark that is read in the part lent for a cell's line is the cell's.
part-mark : (epoch : ℕ) (row : List ℕ) (l c half : ℕ) → l ≡ cell_line c → half ≡ c % 2 → later_at epoch (lent row l) half ≡ later epoch row c
part-mark epoch row l c half e h =
    ap (ltb epoch) (field-read row c Mark e (ap (λ (n : ℕ). get_or (lent row l) (3 * n + field_offset Mark) 0) h))

-- What is found before a line, and in it, is what is found up to it.
pub line-walked : (epoch : ℕ) (row : List ℕ) (l : ℕ) → 1 ≤ l →
    later_within epoch row (l - 1) || (later_at epoch (lent row l) 0 || later_at epoch (lent row l) 1) ≡ later_within epoch row (l + 1 - 1)
line-walked epoch row l h =
    let n = cells (shaped (l - 1)) in
    rw (part-mark epoch row l n 0 (omega arith) (omega arith), part-mark epoch row l (n + 1) 1 (omega arith) (omega arith))
    (sym (under-two-more n (later epoch row)) ∙ ap (λ (k : ℕ). any_under k (later epoch row)) (let e : n + 1 + 1 ≡ cells (shaped (l + 1 - 1)) = omega arith in e))
