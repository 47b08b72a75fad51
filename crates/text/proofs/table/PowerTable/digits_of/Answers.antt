use Rattle.std.proofs.Common.{◌≡◌, ℕ, suc, ◌-◌, ◌^◌, ◌<◌, ◌≤◌, length, subst, arith, rules}
use Rattle.text.specs.Numbers.{number_text}
use Rattle.text.proofs.Numbers.{number-width, number-long, number-some, word_width}
use Rattle.text.proofs.TenTimes.{power_at}
use Rattle.text.proofs.table.PowerTable.digits_of.Goals as goal

pub loop-k-init : goal.loop-k-init
loop-k-init c = omega (arith, number-some c.args.n)

-- A number below a power has no more digits than that has zeros.
no_more : (n k : ℕ) → 0 < k → n < 10 ^ k → k ≤ length (number_text n) → k ≡ length (number_text n)
no_more n k some below least =
    let place : k ≡ suc (k - 1) = omega arith in
    omega (arith, number-width (k - 1) n (subst (λ (i : ℕ). n < 10 ^ i) place below))

pub returns-then-n-self : goal.returns-then-n-self
returns-then-n-self c =
    let k = c.loop-k.k in
    no_more c.args.n k (omega arith) (omega (arith, power_at c.args.self.tenfold k (omega arith))) c.loop-k.invariant

pub loop-k-preserved : goal.loop-k-preserved
loop-k-preserved c =
    let k = c.loop-k.k in
    omega (arith, number-long k c.args.n (omega (arith, power_at c.args.self.tenfold k (omega arith))))

pub returns : goal.returns
returns c = omega (arith, word_width c.args.n (search rules))
