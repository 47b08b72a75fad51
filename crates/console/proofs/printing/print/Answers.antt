-- `console::printing::print` meets its contract: the page's own bytes are the front of the text row.
use Rattle.std.proofs.Common.{refl, ◌∙◌, rules}
use Rattle.page.proofs.Theorems.{page-holds}
use Rattle.board.specs.Next.{lent}
use Rattle.causes.proofs.Guard.{no_refusal_is_taken}
use Rattle.console.proofs.Refused.{none_printed, no_value}
use Rattle.console.proofs.Pages.{refused-printed, taken-printed}
use Rattle.console.proofs.printing.print.Goals as goal

pub returns-in_err-page : goal.returns-in_err-page
returns-in_err-page c =
    let a = c.args in
    let e = c.from_residual.ensures.1 in record {
      prints = none_printed _ _ _ e ∙ refused-printed (lent a.state a.memory.now a.cache.now) a.row.now _ _ _ (search rules) c.in_err-page.ensures.performed (no_refusal_is_taken _);
      within = no_value _ _ _ e;
    }

pub returns : goal.returns
returns c =
    let a = c.args in
    let both = taken-printed (lent a.state a.memory.now a.cache.now) a.row.now _ _ _ (search rules) c.in_ok-page.ensures.performed c.page_bytes.result refl c.page_bytes.ensures (λ l h. (page-holds.lines a.cache.now (search rules) l h).size) in
    record { prints = both.0; within = both.1 }
