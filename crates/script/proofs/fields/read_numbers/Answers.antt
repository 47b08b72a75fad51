use Prim.Native.Nat.{ℕ, ◌+◌}
use mathlib.Core.Path.{◌≡◌, sym, ap, ◌∙◌}
use mathlib.Core.List.{List, [], ◌∷◌, ◌++◌}
use native.Mathlib.Omega.{arith}
use lib.Dec.{eqb}
use lib.ListN.{length, drop, drop_of_length-le}
use borrow.Author.Rules.{rules}
use Rattle.std.proofs.Common.{tests, length-append}
use Rattle.std.proofs.lemmas.List.{length_push}
use Rattle.std.proofs.lemmas.Iterator.Consumers.{YieldsList-turn, YieldsList-end, YieldsList-at}
use Rattle.std.proofs.lemmas.Iterator.Adapters.{YieldsList-from_skip}
use Rattle.std.proofs.lemmas.Iterator.Splits.{YieldsList-from_slice_split}
use Rattle.text.specs.Numbers.{value}
use Rattle.script.specs.Grammar.{fields}
use Rattle.script.proofs.SplitLaws.{yields-fields, next-field}
use Rattle.script.proofs.NumberLaws.{numbers_from, numbers-start, numbers-end, numbers-break, numbers-full, numbers_more, number-none, number-some}
use Rattle.script.proofs.fields.read_numbers.Goals as goal

pub loop-field-init : goal.loop-field-init
loop-field-init c =
    let fs = drop 1 (fields c.args.line.now) in
    (rw c.new-numbers.ensures (omega arith), numbers-start fs ∙ ap (λ (ns : List ℕ). numbers_from ns fs) (sym c.new-numbers.ensures))

pub returns-in_err-decimal : goal.returns-in_err-decimal
returns-in_err-decimal c =
    let turn = YieldsList-turn (yields-fields c.args.line.now (YieldsList-at c.into_iter-field-iterator.ensures.into_iter_gives (YieldsList-from_skip 1 (YieldsList-at c.skip-field-items.ensures.source (YieldsList-from_slice_split _ (λ b. eqb b 9) c.args.line.now c.split.ensures.rest c.split.ensures.done c.split.ensures.closure (λ x b q k. search (rules, tests)))) c.skip-field-items.ensures.count))) c.loop-field.yielded _ c.loop-field.yielded_by _ _ c.in-Some.field c.in-Some.is c.next.ensures.steps in
    let next = next-field (drop 1 (fields c.args.line.now)) (length c.loop-field.yielded) c.in-Some.field.now turn in
    let l = c.loop-field in
    c.from_residual.ensures
    ∙ sym (l.invariant.1 ∙ ap (numbers_from l.numbers) next
    ∙ numbers-break l.numbers c.in-Some.field.now _ (number-none c.in-Some.field.now (sym c.in_err-decimal.ensures)))

pub loop-field-preserved : goal.loop-field-preserved
loop-field-preserved c =
    let turn = YieldsList-turn (yields-fields c.args.line.now (YieldsList-at c.into_iter-field-iterator.ensures.into_iter_gives (YieldsList-from_skip 1 (YieldsList-at c.skip-field-items.ensures.source (YieldsList-from_slice_split _ (λ b. eqb b 9) c.args.line.now c.split.ensures.rest c.split.ensures.done c.split.ensures.closure (λ x b q k. search (rules, tests)))) c.skip-field-items.ensures.count))) c.loop-field.yielded _ c.loop-field.yielded_by _ _ c.in-Some.field c.in-Some.is c.next.ensures.steps in
    let next = next-field (drop 1 (fields c.args.line.now)) (length c.loop-field.yielded) c.in-Some.field.now turn in
    let l = c.loop-field in
    let fs = drop 1 (fields c.args.line.now) in
    let f = c.in-Some.field.now in
    let read = number-some f c.in_ok-decimal.field-0 (sym c.in_ok-decimal.ensures) in
    let pushed = c.in_ok-push.ensures in
    let grown : c.push.new.self ≡ l.numbers ++ value f ∷ [] = pushed.1 ∙ ap (λ (n : ℕ). l.numbers ++ n ∷ []) (sym read.1) in (
      rw grown (omega (arith, length-append l.numbers (value f ∷ []), pushed.0)),
      l.invariant.1 ∙ ap (numbers_from l.numbers) next ∙ numbers_more l.numbers f (drop (length l.yielded + 1) fs) read.0
          ∙ ap (λ (k : ℕ). numbers_from (l.numbers ++ value f ∷ []) (drop k fs)) (sym (length_push l.yielded c.in-Some.field))
          ∙ ap (λ (ns : List ℕ). numbers_from ns (drop (length (l.yielded ++ c.in-Some.field ∷ [])) fs)) (sym grown),
    )

pub returns-in_err-push : goal.returns-in_err-push
returns-in_err-push c =
    let turn = YieldsList-turn (yields-fields c.args.line.now (YieldsList-at c.into_iter-field-iterator.ensures.into_iter_gives (YieldsList-from_skip 1 (YieldsList-at c.skip-field-items.ensures.source (YieldsList-from_slice_split _ (λ b. eqb b 9) c.args.line.now c.split.ensures.rest c.split.ensures.done c.split.ensures.closure (λ x b q k. search (rules, tests)))) c.skip-field-items.ensures.count))) c.loop-field.yielded _ c.loop-field.yielded_by _ _ c.in-Some.field c.in-Some.is c.next.ensures.steps in
    let next = next-field (drop 1 (fields c.args.line.now)) (length c.loop-field.yielded) c.in-Some.field.now turn in
    let l = c.loop-field in
    c.from_residual-in_err-push.ensures
    ∙ sym (l.invariant.1 ∙ ap (numbers_from l.numbers) next ∙ numbers-full l.numbers c.in-Some.field.now _ c.in_err-push.ensures)

pub returns : goal.returns
returns c =
    let fs = drop 1 (fields c.args.line.now) in
    let l = c.loop-field in
    let all = YieldsList-end (yields-fields c.args.line.now (YieldsList-at c.into_iter-field-iterator.ensures.into_iter_gives (YieldsList-from_skip 1 (YieldsList-at c.skip-field-items.ensures.source (YieldsList-from_slice_split _ (λ b. eqb b 9) c.args.line.now c.split.ensures.rest c.split.ensures.done c.split.ensures.closure (λ x b q k. search (rules, tests)))) c.skip-field-items.ensures.count))) l.yielded _ l.yielded_by _ _ c.in-None.is c.next.ensures.steps in
    sym (l.invariant.1 ∙ ap (numbers_from l.numbers) (drop_of_length-le fs (omega (arith, all.1))) ∙ numbers-end l.numbers l.invariant.0)
