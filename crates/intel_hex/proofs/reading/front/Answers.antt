-- `hex::reading::front` meets its contract: the parts of the record are the ones that its tests ask for.
use Prim.Native.Nat.{ℕ}
use mathlib.Core.Path.{◌≡◌, sym, ◌∙◌}
use mathlib.Core.List.{List}
use mathlib.Core.Bool.{Bool, true}
use native.Mathlib.Omega.{arith}
use Rattle.board.specs.Hex.{count_of, type_of, address_of, has_record}
use Rattle.intel_hex.proofs.Fronts.{no-byte, front-none, front-short, Parts, front-end, front-data, front-other}
use Rattle.intel_hex.proofs.reading.front.Goals as goal

pub returns-then-text-lt12 : goal.returns-then-text-lt12
returns-then-text-lt12 c = front-short c.args.address c.args.text.now c.if-text-lt12.true

pub returns-in_err-count : goal.returns-in_err-count
returns-in_err-count c = c.from_residual.ensures ∙ front-none c.args.address c.args.text.now (no-byte c.args.text.now 0 (omega arith) c.in_err-count.ensures)

pub returns-in_err-here : goal.returns-in_err-here
returns-in_err-here c = c.from_residual-in_err-here.ensures ∙ front-none c.args.address c.args.text.now c.in_err-here.ensures

pub returns-in_err-kind : goal.returns-in_err-kind
returns-in_err-kind c = c.from_residual-in_err-kind.ensures ∙ front-none c.args.address c.args.text.now c.in_err-kind.ensures

pub returns-then-not-has_record : goal.returns-then-not-has_record
returns-then-not-has_record c = front-none c.args.address c.args.text.now (sym c.has_record.ensures ∙ c.if-not-has_record.true)

-- The parts that were read.
parts : {address count type here : ℕ} {text : List ℕ} {found : Bool} → found ≡ has_record text → found ≡ true → count ≡ count_of text → type ≡ type_of text →
    here ≡ address_of text → Parts address text count type here
parts f e n k h = record { there = sym f ∙ e; counted = n; typed = k; located = h }

pub returns-then-kind-count : goal.returns-then-kind-count
returns-then-kind-count c = front-end _ _ (parts c.has_record.ensures c.if-not-has_record.false c.in_ok-count.ensures c.in_ok-kind.ensures c.in_ok-here.ensures) c.if-kind-count.true

pub returns-then-kind-count-2 : goal.returns-then-kind-count-2
returns-then-kind-count-2 c = front-data _ _ (parts c.has_record.ensures c.if-not-has_record.false c.in_ok-count.ensures c.in_ok-kind.ensures c.in_ok-here.ensures) c.if-kind-count.false c.if-kind-count-2.true

pub returns : goal.returns
returns c = front-other _ _ (parts c.has_record.ensures c.if-not-has_record.false c.in_ok-count.ensures c.in_ok-kind.ensures c.in_ok-here.ensures) c.if-kind-count.false c.if-kind-count-2.false
