-- `text::table::powers` meets its contract: the whole table passes the test.
use Rattle.std.proofs.Common.{refl}
use Rattle.text.proofs.TenTimes.{tenfold, is-table}
use Rattle.text.proofs.table.powers.Goals as goal

pub returns : goal.returns
unfolding tenfold
returns c = is-table refl refl refl
