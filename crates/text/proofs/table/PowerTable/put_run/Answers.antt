use Rattle.std.proofs.Common.{◌≡◌, ℕ, ◌+◌, ◌-◌, ◌*◌, ◌/◌, ◌%◌, ◌^◌, ◌≤◌, List, get_or, set, sym, subst, arith}
use Rattle.text.specs.Ascii.{'0'}
use Rattle.text.specs.Powers.{PowersOfTen}
use Rattle.text.proofs.TenTimes.{power_at}
use Rattle.text.proofs.Running.{DigitRun, run-begins, run_more, run_ends, countable}
use Rattle.text.proofs.table.PowerTable.put_run.Goals as goal

pub loop-k-init : goal.loop-k-init
loop-k-init c = run-begins c.requires.0

-- The table's entry is the power of ten of its place.
entry : {table : List ℕ} (k from : ℕ) → PowersOfTen table → k ≤ from → from ≤ 19 → get_or table (k - 1) 0 ≡ 10 ^ (k - 1)
entry k from table high first = power_at table (k - 1) (omega arith)

pub counted-left-requires : goal.counted-left-requires
counted-left-requires c =
    let l = c.loop-k in
    let p = c.requires in
    countable _ (entry l.k _ c.args.self.tenfold l.invariant.high p.0.first) p.0 l.invariant c.loop-k-test.true

pub overflow_mul-scale : goal.overflow_mul-scale
overflow_mul-scale c =
    let l = c.loop-k in
    let p = c.requires in
    record { fits = omega (arith, (countable _ (entry l.k _ c.args.self.tenfold l.invariant.high p.0.first) p.0 l.invariant c.loop-k-test.true).3) }

pub loop-k-preserved : goal.loop-k-preserved
loop-k-preserved c =
    let l = c.loop-k in
    let p = c.requires in
    let a = c.args in
    let power = entry l.k _ a.self.tenfold l.invariant.high p.0.first in
    let r = c.counted-left.result in
    let next : r ≡ l.left % (a.scale * 10 ^ (l.k - 1)) + l.left / (a.scale * 10 ^ (l.k - 1)) =
    subst (λ (n : ℕ). r ≡ l.left % (a.scale * n) + l.left / (a.scale * n)) power c.counted-left.ensures in
    let place : a.end - (l.k - 1) - 1 ≡ a.end - l.k = omega arith in
    subst (λ (i : ℕ). DigitRun a.out.now a.end a.from a.to a.scale a.s (set l.out i ('0' + r % 16)) (r - r % 16) (l.k - 1)) (sym place)
    (run_more r p.0 p.1 p.2 l.invariant c.loop-k-test.true next)

pub returns : goal.returns
returns c = run_ends c.loop-k.invariant (omega arith)
