-- `Ongoing::end_line` meets its contract: each part of the answer is the line's, and a line that is no call leaves what was carried.
use Rattle.std.proofs.Common.{ℕ, [], ◌++◌, take, sym, refl, ap, ◌∙◌, rules}
use Rattle.script.specs.Answers.{letter_of}
use Rattle.script.specs.declared.Line.TheVariants as line
use Rattle.script.specs.declared.Shown.TheVariants.{Unknown, Nothing}
use Rattle.console.specs.declared.progress.Misread.{Misread}
use Rattle.session.specs.Session.{desk_of}
use Rattle.session.specs.Lines.{done, left}
use Rattle.console.specs.Transcript.{following}
use Rattle.console.specs.Pieces.{carried}
use Rattle.session.proofs.Acts.{acted}
use Rattle.console.proofs.LineEnds.{line-ends, ends_as}
use Rattle.console.proofs.progress.Ongoing.end_line.Goals as goal

pub returns-in-Unknown-clause-ends : goal.returns-in-Unknown-clause-ends
returns-in-Unknown-clause-ends c =
    let a = c.args in
    let p = a.self in
    let buffers = a.buffers.now in
    let asked = c.read_line-asked in
    let number = following p.number in
    let text = take 80 (take p.begun buffers.line.now ++ a.rest.now) in
    let d = desk_of p.session buffers.rows in
    let did = acted line.Unknown d (done d Unknown Nothing) c.in-Unknown.is refl in
    ends_as (line-ends a.program d p.number p.misread text number _ asked.result.line asked.result.why _
    refl asked.ensures.means asked.ensures.reasons did refl c.put_answer-end.ensures.0 c.put_answer-end.ensures.1 (search rules))
    (sym (ap (λ (m : Misread). carried d number m []) c.tally.ensures))

pub returns-clause-ends : goal.returns-clause-ends
returns-clause-ends c =
    let a = c.args in
    let p = a.self in
    let buffers = a.buffers.now in
    let asked = c.read_line-asked in
    let number = following p.number in
    let act = c.act-done in
    let letter = c.letter-letter in
    let wrote = c.put_answer-end-2 in
    let text = take 80 (take p.begun buffers.line.now ++ a.rest.now) in
    let d = desk_of p.session buffers.rows in
    let did = left act.result act.new.rows in
    let heads = letter.ensures ∙ ap (λ (first : ℕ). letter_of first act.result.answer) asked.ensures.begins in
    ends_as (line-ends a.program d p.number p.misread text number letter.result asked.result.line asked.result.why did
    refl asked.ensures.means asked.ensures.reasons act.ensures.does heads {out = buffers.out.now} {at = a.at}
    wrote.ensures.0 wrote.ensures.1 (search rules))
    (sym (ap (λ (m : Misread). carried did.desk number m []) c.tally-2.ensures))
