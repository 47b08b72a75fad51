-- `Session::print` meets its contract: the text row is the first bytes of an array, all of them 0xAA.
use Rattle.std.proofs.Common.{refl, ◌∙◌, rules}
use Rattle.causes.specs.Refusals.{answer_number}
use Rattle.session.specs.Session.{desk_of}
use Rattle.session.proofs.Acts.{shown_as}
use Rattle.session.proofs.Pages.{page-shown}
use Rattle.session.proofs.desk.Session.print.Goals as goal

pub returns : goal.returns
returns c =
    let page = c.page-page in
    shown_as refl c.told.ensures refl
    ∙ page-shown (desk_of c.args.self c.args.rows.now) c.args.room (answer_number page.result) c.bytes_checksum.result _ page.new.text _ (search rules) refl
    page.ensures.performed c.bytes_checksum.ensures
