-- `script::reasons::why_unknown` meets its contract.
use mathlib.Core.Path.{◌≡◌, sym, ◌∙◌}
use mathlib.Core.Bool.{true, false}
use lib.Dec.{ltb}
use lib.ListN.{length}
use borrow.Author.Tests.{lt-ltb, le-ltb}
use Rattle.predicate.proofs.Bools.{chosen, passed_over}
use Rattle.text.specs.Ascii.{blank}
use Rattle.script.specs.declared.Reason.TheVariants.{Long, ByteOrderMark, CarriageReturn, Blanks}
use Rattle.script.specs.Reasons.{carriage_return, stands_in, byte_order_mark, form_reason, unknown_reason}
use Rattle.script.proofs.SplitLaws.{stands_any}
use Rattle.script.proofs.reasons.why_unknown.Goals as goal

pub returns-then-line-gt79 : goal.returns-then-line-gt79
unfolding unknown_reason
returns-then-line-gt79 c = let s = c.args.line.now in sym (chosen (ltb 79 (length s)) Long _ (lt-ltb 79 (length s) c.if-line-gt79.true))

pub returns-then-begins_marked : goal.returns-then-begins_marked
unfolding unknown_reason
returns-then-begins_marked c =
    let s = c.args.line.now in
    sym (passed_over (ltb 79 (length s)) Long _ (le-ltb 79 (length s) c.if-line-gt79.false)
    ∙ chosen (byte_order_mark s) ByteOrderMark _ (sym c.if-begins_marked.ensures))

pub returns-then-contains : goal.returns-then-contains
unfolding unknown_reason
returns-then-contains c =
    let s = c.args.line.now in
    let has : stands_in carriage_return s ≡ true = sym (stands_any carriage_return s) ∙ sym c.contains.ensures.value ∙ c.if-contains.true in
    sym (passed_over (ltb 79 (length s)) Long _ (le-ltb 79 (length s) c.if-line-gt79.false)
    ∙ passed_over (byte_order_mark s) ByteOrderMark _ (sym c.if-begins_marked.ensures)
    ∙ chosen (stands_in carriage_return s) CarriageReturn _ has)

pub returns-then-contains-2 : goal.returns-then-contains-2
unfolding unknown_reason
returns-then-contains-2 c =
    let s = c.args.line.now in
    let has : stands_in carriage_return s ≡ false = sym (stands_any carriage_return s) ∙ sym c.contains.ensures.value ∙ c.if-contains.false in
    let has2 : stands_in blank s ≡ true = sym (stands_any blank s) ∙ sym c.contains-else-contains.ensures.value ∙ c.if-contains-2.true in
    sym (passed_over (ltb 79 (length s)) Long _ (le-ltb 79 (length s) c.if-line-gt79.false)
    ∙ passed_over (byte_order_mark s) ByteOrderMark _ (sym c.if-begins_marked.ensures)
    ∙ passed_over (stands_in carriage_return s) CarriageReturn _ has
    ∙ chosen (stands_in blank s) Blanks _ has2)

pub returns-else-contains-2 : goal.returns-else-contains-2
unfolding unknown_reason
returns-else-contains-2 c =
    let a = c.args in
    let s = a.line.now in
    let has : stands_in carriage_return s ≡ false = sym (stands_any carriage_return s) ∙ sym c.contains.ensures.value ∙ c.if-contains.false in
    let has2 : stands_in blank s ≡ false = sym (stands_any blank s) ∙ sym c.contains-else-contains.ensures.value ∙ c.if-contains-2.false in
    c.why_form.ensures
    ∙ sym (passed_over (ltb 79 (length s)) Long _ (le-ltb 79 (length s) c.if-line-gt79.false)
    ∙ passed_over (byte_order_mark s) ByteOrderMark _ (sym c.if-begins_marked.ensures)
    ∙ passed_over (stands_in carriage_return s) CarriageReturn _ has
    ∙ passed_over (stands_in blank s) Blanks (form_reason a.program s) has2)
