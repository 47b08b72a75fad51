use Prim.Native.Nat.{ℕ}
use mathlib.Core.Path.{refl, sym, ap, ◌∙◌}
use native.Mathlib.Omega.{arith}
use lib.Dec.{eqb}
use lib.ListN.{length, drop, drop_of_length-le}
use borrow.Author.Rules.{rules}
use Rattle.std.proofs.Common.{tests}
use Rattle.std.proofs.lemmas.List.{length_push}
use Rattle.std.proofs.lemmas.Iterator.Consumers.{YieldsList-turn, YieldsList-end, YieldsList-at}
use Rattle.std.proofs.lemmas.Iterator.Adapters.{YieldsList-from_skip}
use Rattle.std.proofs.lemmas.Iterator.Splits.{YieldsList-from_slice_split}
use Rattle.script.specs.Grammar.{fields}
use Rattle.script.proofs.SplitLaws.{yields-fields, next-field}
use Rattle.script.specs.Reasons.{fields_reason}
use Rattle.std.specs.Option.{is_some}
use Rattle.script.proofs.NumberLaws.{number-is, number-not}
use Rattle.script.proofs.ReasonLaws.{fields-end, fields-break, fields-go-on}
use Rattle.script.proofs.reasons.why_fields.Goals as goal

pub loop-field-init : goal.loop-field-init
loop-field-init c = refl

pub returns-then-is_none : goal.returns-then-is_none
returns-then-is_none c =
    let turn = YieldsList-turn (yields-fields c.args.line.now (YieldsList-at c.into_iter-field-iterator.ensures.into_iter_gives (YieldsList-from_skip 1 (YieldsList-at c.skip-field-items.ensures.source (YieldsList-from_slice_split _ (λ b. eqb b 9) c.args.line.now c.split.ensures.rest c.split.ensures.done c.split.ensures.closure (λ x b q k. search (rules, tests)))) c.skip-field-items.ensures.count))) c.loop-field.yielded _ c.loop-field.yielded_by _ _ c.in-Some.field c.in-Some.is c.next.ensures.steps in
    let next = next-field (drop 1 (fields c.args.line.now)) (length c.loop-field.yielded) c.in-Some.field.now turn in
    c.why_no_number.ensures
    ∙ sym (c.loop-field.invariant ∙ ap fields_reason next
    ∙ fields-break c.in-Some.field.now _ (number-not c.in-Some.field.now (ap is_some (sym c.decimal.ensures) ∙ c.if-is_none.ensures)))

pub loop-field-preserved : goal.loop-field-preserved
loop-field-preserved c =
    let turn = YieldsList-turn (yields-fields c.args.line.now (YieldsList-at c.into_iter-field-iterator.ensures.into_iter_gives (YieldsList-from_skip 1 (YieldsList-at c.skip-field-items.ensures.source (YieldsList-from_slice_split _ (λ b. eqb b 9) c.args.line.now c.split.ensures.rest c.split.ensures.done c.split.ensures.closure (λ x b q k. search (rules, tests)))) c.skip-field-items.ensures.count))) c.loop-field.yielded _ c.loop-field.yielded_by _ _ c.in-Some.field c.in-Some.is c.next.ensures.steps in
    let next = next-field (drop 1 (fields c.args.line.now)) (length c.loop-field.yielded) c.in-Some.field.now turn in
    let fs = drop 1 (fields c.args.line.now) in
    c.loop-field.invariant ∙ ap fields_reason next ∙ fields-go-on c.in-Some.field.now _ (number-is c.in-Some.field.now (ap is_some (sym c.decimal.ensures) ∙ c.if-is_none.ensures))
    ∙ ap (λ (k : ℕ). fields_reason (drop k fs)) (sym (length_push c.loop-field.yielded c.in-Some.field))

pub returns : goal.returns
returns c =
    let fs = drop 1 (fields c.args.line.now) in
    let l = c.loop-field in
    let all = YieldsList-end (yields-fields c.args.line.now (YieldsList-at c.into_iter-field-iterator.ensures.into_iter_gives (YieldsList-from_skip 1 (YieldsList-at c.skip-field-items.ensures.source (YieldsList-from_slice_split _ (λ b. eqb b 9) c.args.line.now c.split.ensures.rest c.split.ensures.done c.split.ensures.closure (λ x b q k. search (rules, tests)))) c.skip-field-items.ensures.count))) l.yielded _ l.yielded_by _ _ c.in-None.is c.next.ensures.steps in
    sym (l.invariant ∙ ap fields_reason (drop_of_length-le fs (omega (arith, all.1))) ∙ fields-end)
