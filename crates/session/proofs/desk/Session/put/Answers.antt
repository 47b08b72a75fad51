-- `Session::put` meets its contract.
use Rattle.std.proofs.Common.{◌∙◌, rules}
use Rattle.session.proofs.Acts.{by_parts}
use Rattle.session.proofs.TextWork.{put-shown}
use Rattle.session.proofs.desk.Session.put.Goals as goal

pub returns-clause-does : goal.returns-clause-does
returns-clause-does c =
    by_parts _ _ _ c.answered-2.ensures
    ∙ put-shown c.args.self c.args.rows.now c.args.at c.args.byte c.if-at-self.false (search rules) c.if-byte-gt255.false
