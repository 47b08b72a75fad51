-- `text::digits::put_digits` meets its contract: a 1 and nineteen digits, or as many digits as the number has.
use Rattle.std.proofs.Common.{◌≡◌, ℕ, ◌-◌, ◌^◌, ◌<◌, ◌≤◌, List, length, get_or, sym, subst, arith, rules}
use native.Mathlib.Decide.{dec_lt}
use Rattle.text.specs.Numbers.{number_text}
use Rattle.text.specs.Powers.{PowersOfTen}
use Rattle.text.specs.Writing.{Put}
use Rattle.text.proofs.Numbers.{number-some, number-width}
use Rattle.text.proofs.Places.{number-below, twenty-written, number-written}
use Rattle.text.proofs.TenTimes.{power_at}
use Rattle.text.proofs.digits.put_digits.Goals as goal
use Rattle.text.proofs.digits.put_digits.Goals.{then-digits-eq20, else-digits-eq20}

-- The table's last entry.
last-power : {table : List ℕ} → PowersOfTen table → get_or table 19 0 ≡ 10 ^ 19
last-power table = power_at table 19 (omega arith)

-- A number of twenty digits reaches it.
reached : {table : List ℕ} (n digits : ℕ) → PowersOfTen table → digits ≡ length (number_text n) → digits ≡ 20 → get_or table 19 0 ≤ n
reached n digits table all twenty =
    elim (dec_lt n (10 ^ 19)) [ yes below ↦ absurd (omega (arith, number-width 18 n below)) | no least ↦ omega (arith, last-power table) ]

pub overflow_sub-n : goal.overflow_sub-n
overflow_sub-n c = reached c.args.n c.digits_of-digits.result c.requires.0 c.digits_of-digits.ensures c.if-digits-eq20.true

pub put_places-requires-else-digits-eq20 : goal.put_places-requires-else-digits-eq20
put_places-requires-else-digits-eq20 c =
    let n = c.args.n in
    let d = c.digits_of-digits in (
      omega (arith, d.ensures, number-some n),
      omega (arith, d.ensures, c.if-digits-eq20.false, number-width 19 n (search rules)),
      subst (λ (k : ℕ). n < 10 ^ k) (sym d.ensures) (number-below n),
      omega (arith, d.ensures, c.requires.1),
      c.requires.2,
    )

pub returns : goal.returns
returns c =
    let a = c.args in
    let d = c.digits_of-digits in
    elim c.if-digits-eq20.branch [
      | then-digits-eq20 w ↦
          let high = reached a.n d.result c.requires.0 d.ensures w.if-digits-eq20.true in
          let twenty = twenty-written a.n _ (last-power c.requires.0) high (search rules) (omega (arith, d.ensures, w.if-digits-eq20.true, c.requires.1)) c.requires.2 w.put_places.ensures in
          subst (λ (k : ℕ). Put a.out.now (a.end - k) (number_text a.n) c.if-digits-eq20.out a.end) (sym w.if-digits-eq20.true)
          (subst (λ (out : List ℕ). Put a.out.now (a.end - 20) (number_text a.n) out a.end) (sym w.out-is) twenty)
      | else-digits-eq20 w ↦
          subst (λ (out : List ℕ). Put a.out.now (a.end - d.result) (number_text a.n) out a.end) (sym w.out-is)
          (number-written a.n d.result d.ensures w.put_places-else-digits-eq20.ensures)
    ]
