-- Proves what is claimed of a page.
use Rattle.page.specs.Statements.{PageHolds}
use Rattle.page.proofs.Ordering.{before-total, each-once, in_order, one-order}
use Rattle.page.proofs.Texts.{page-lines}

pub page-holds : PageHolds
page-holds = record { order = before-total; once = each-once; rising = in_order; only = one-order; lines = page-lines }
