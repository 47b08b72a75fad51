use Rattle.std.proofs.Common.{◌≡◌, ℕ, ◌+◌, ◌-◌, ◌/◌, ◌%◌, ◌<◌, ◌≤◌, List, [], ◌∷◌, ◌++◌, length, set, sym, refl, ap, ◌∙◌, subst, append_assoc, append-nil, arith, length-append, length-set}
use Rattle.text.specs.Ascii.{'0'}
use Rattle.text.specs.Numbers.{number_text}
use Rattle.text.specs.Writing.{put}
use Rattle.text.proofs.Numbers.{number-one, number_more, number-some}
use Rattle.text.proofs.Writing.{put-none, put-set, put-before}
use Rattle.text.proofs.number.put_divided.Invariants.{WrittenDigits}
use Rattle.text.proofs.number.put_divided.Goals as goal

-- The last digit of the rest, written before those that are.
one_more : (row whole : List ℕ) (end : ℕ) (out : List ℕ) (at : ℕ) (rest : List ℕ) (digit : ℕ) → 0 < at → end ≤ length row →
    WrittenDigits row whole end out at (rest ++ (digit ∷ [])) → WrittenDigits row whole end (set out (at - 1) digit) (at - 1) rest
one_more row whole end out at rest digit low high w =
    let here : at - 1 + length (digit ∷ []) ≡ at = omega arith in
    record {
      digits = digit ∷ w.digits;
      ends = omega (arith, w.ends);
      holds = put-set out (at - 1) digit (omega (arith, w.size, w.ends))
          ∙ ap (λ (l : List ℕ). put l (at - 1) (digit ∷ [])) (w.holds ∙ ap (λ (k : ℕ). put row k w.digits) (sym here))
          ∙ put-before row (at - 1) (digit ∷ []) w.digits (omega (arith, w.ends));
      all = w.all ∙ append_assoc rest (digit ∷ []) w.digits;
      size = length-set out (at - 1) digit ∙ w.size;
    }

-- There is room before what is written.
room : {row whole : List ℕ} {end : ℕ} {out : List ℕ} {at : ℕ} (left : ℕ) → WrittenDigits row whole end out at (number_text left) → length whole ≤ end → 0 < at
room left w h = omega (arith, w.ends, ap length w.all, length-append (number_text left) w.digits, number-some left)

pub loop-left-init : goal.loop-left-init
loop-left-init c =
    record { digits = []; ends = omega arith; holds = put-none c.args.out.now c.args.end; all = sym (append-nil (number_text c.args.n)); size = refl }

pub overflow_sub-at : goal.overflow_sub-at
overflow_sub-at c = room c.loop-left.left c.loop-left.invariant c.requires.0

pub bounds-out-at : goal.bounds-out-at
bounds-out-at c = omega (arith, room c.loop-left.left c.loop-left.invariant c.requires.0, c.loop-left.invariant.ends, c.loop-left.invariant.size)

pub loop-left-preserved : goal.loop-left-preserved
loop-left-preserved c =
    let a = c.args in
    let l = c.loop-left in
    let digit = '0' + l.left % 10 in
    one_more a.out.now (number_text a.n) a.end l.out l.at (number_text (l.left / 10)) digit
    (room l.left l.invariant c.requires.0) c.requires.1
    (subst (WrittenDigits a.out.now (number_text a.n) a.end l.out l.at) (number_more l.left (omega arith)) l.invariant)

pub overflow_sub-at-2 : goal.overflow_sub-at-2
overflow_sub-at-2 c = room c.loop-left.left c.loop-left.invariant c.requires.0

pub bounds-out-at-2 : goal.bounds-out-at-2
bounds-out-at-2 c = omega (arith, room c.loop-left.left c.loop-left.invariant c.requires.0, c.loop-left.invariant.ends, c.loop-left.invariant.size)

pub shape_of-out : goal.shape_of-out
shape_of-out c = length-set c.loop-left.out (c.loop-left.at - 1) ('0' + c.loop-left.left) ∙ c.loop-left.invariant.size

pub returns : goal.returns
returns c =
    let a = c.args in
    let l = c.loop-left in
    let done =
    one_more a.out.now (number_text a.n) a.end l.out l.at [] ('0' + l.left)
    (room l.left l.invariant c.requires.0) c.requires.1
    (subst (WrittenDigits a.out.now (number_text a.n) a.end l.out l.at) (number-one l.left (omega arith)) l.invariant) in
    record { ends = sym (ap (λ (t : List ℕ). l.at - 1 + length t) done.all ∙ done.ends); holds = done.holds ∙ ap (put a.out.now (l.at - 1)) (sym done.all) }
