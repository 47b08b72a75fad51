-- A line's end: what is written for it, and that 80 bytes of it are enough.
use Rattle.std.proofs.Common.{◌≡◌, ℕ, ◌+◌, ◌≤◌, Bool, true, eqb, List, [], ◌++◌, length, get_or, take, sym, refl, ap, ◌∙◌, subst, arith, get_or-take}
use Rattle.predicate.proofs.Bools.{on, chosen, passed_over}
use Rattle.script.specs.declared.Line.{Line}
use Rattle.script.specs.Grammar.{meaning}
use Rattle.script.specs.declared.Reason.{Reason}
use Rattle.script.specs.declared.Shown.{Shown}
use Rattle.script.specs.declared.Shown.TheVariants as shown
use Rattle.script.specs.Answers.{answer_text, letter_of}
use Rattle.script.specs.Reasons.{reason, reason_number}
use Rattle.text.specs.Writing.{Put}
use Rattle.script.proofs.NumberLaws.{meaning-kept}
use Rattle.script.proofs.ReasonLaws.{reason_kept}
use Rattle.text.proofs.Writing.{put_front}
use Rattle.script.specs.declared.Program.{Program}
use Rattle.console.specs.declared.answers.LineAsked.{LineAsked}
use Rattle.console.specs.declared.progress.Misread.{Misread}
use Rattle.session.specs.Session.{Desk}
use Rattle.session.specs.Lines.{Done, carried_out}
use Rattle.console.specs.Transcript.{following, line_text, misread, tallied}
use Rattle.console.specs.Pieces.{Carried, carried, Fed, leaving, ended, LineRead, LineEnds}

-- ---- what is written

-- What is tallied does not go by the reason where a line was tallied before.
tallied-why : (m : Misread) (number : ℕ) (w v : ℕ) (a : Shown) → (eqb m.lines 0 ≡ true → w ≡ v) → tallied m number w a ≡ tallied m number v a
tallied-why m number w v shown.Unknown same =
    on (λ (x : Misread). x ≡ tallied m number v shown.Unknown) (eqb m.lines 0) (misread 1 number w) (misread (following m.lines) m.first m.why)
    (λ t. ap (misread 1 number) (same t) ∙ sym (chosen (eqb m.lines 0) _ _ t))
    (λ t. sym (passed_over (eqb m.lines 0) _ _ t))
tallied-why m number w v shown.Nothing same = refl
tallied-why m number w v (shown.Number x) same = refl

module _ (program : Program) (desk : Desk) (n : ℕ) (m : Misread) (text : List ℕ) (number letter : ℕ) (k : Line) (why : ℕ) (d : Done)
    (counts : number ≡ following n) (means : k ≡ meaning program text)
    (reasons : eqb m.lines 0 ≡ true → why ≡ reason_number (reason program text (meaning program text))) (did : d ≡ carried_out k desk) where
  -- The text of an answer whose parts are the line's.
  line-text : letter ≡ letter_of (get_or text 0 0) d.answer → answer_text number letter d.answer d.value ≡ line_text program (following n) desk text
  line-text heads =
      ap (λ (x : ℕ). answer_text x letter d.answer d.value) counts
      ∙ ap (λ (x : ℕ). answer_text (following n) x d.answer d.value) heads
      ∙ ap (λ (x : Done). answer_text (following n) (letter_of (get_or text 0 0) x.answer) x.answer x.value) (did ∙ ap (λ (x : Line). carried_out x desk) means)

  -- What a line leaves.
  line-leaves : carried d.desk number (tallied m number why d.answer) [] ≡ (ended program (carried desk n m text)).after
  line-leaves =
      let same : d ≡ carried_out (meaning program text) desk = did ∙ ap (λ (x : Line). carried_out x desk) means in
      ap (λ (x : Done). carried x.desk number (tallied m number why x.answer) []) same
      ∙ ap (λ (x : ℕ). carried (carried_out (meaning program text) desk).desk x (tallied m x why (carried_out (meaning program text) desk).answer) [])
      counts
      ∙ ap (λ (x : Misread). carried (carried_out (meaning program text) desk).desk (following n) x [])
      (tallied-why m (following n) why (reason_number (reason program text (meaning program text))) (carried_out (meaning program text) desk).answer reasons)

  -- A line's end, once its answer is written behind the others.
  pub line-ends : letter ≡ letter_of (get_or text 0 0) d.answer → {out written : List ℕ} {at end : ℕ} →
      Put out at (answer_text number letter d.answer d.value) written end → end ≤ at + 65 → at + 80 ≤ length out →
      LineEnds (ended program (carried desk n m text)) (carried d.desk number (tallied m number why d.answer) []) out at written end
  line-ends heads {out} {written} {at} {end} puts short room =
      record {
        leaves = line-leaves;
        writes = put_front puts (omega (arith, puts.ends)) ∙ ap (λ (t : List ℕ). take at out ++ t) (line-text heads);
        within = short;
      }

-- ---- 80 bytes of a line

-- A line's reason by its first 80 bytes.
reason-of-kept : (program : Program) (text : List ℕ) →
    reason_number (reason program (take 80 text) (meaning program (take 80 text))) ≡ reason_number (reason program text (meaning program text))
reason-of-kept program text =
    ap (λ (r : Reason). reason_number r)
    (reason_kept program text (meaning program (take 80 text)) ∙ ap (λ (k : Line). reason program text k) (meaning-kept program text))

-- A line is read by its first 80 bytes.
pub reads_kept : {program : Program} {wanted : Bool} {text : List ℕ} {asked : LineAsked} → LineRead program wanted text asked →
    LineRead program wanted (take 80 text) asked
reads_kept {program} {wanted} {text} {asked} r =
    record {
      means = r.means ∙ sym (meaning-kept program text);
      begins = r.begins ∙ sym (get_or-take 80 text 0 0 (omega arith));
      reasons = λ t. r.reasons t ∙ sym (reason-of-kept program text);
    }

-- A line's end by its first 80 bytes.
pub ended-kept : (program : Program) (desk : Desk) (n : ℕ) (m : Misread) (text : List ℕ) →
    ended program (carried desk n m (take 80 text)) ≡ ended program (carried desk n m text)
ended-kept program desk n m text =
    let end : ℕ → ℕ → Done → Fed =
    λ letter why d. leaving (carried d.desk (following n) (tallied m (following n) why d.answer) [])
    (answer_text (following n) letter d.answer d.value) in
    let d = carried_out (meaning program text) desk in
    let why = reason_number (reason program text (meaning program text)) in
    let kept = reason_number (reason program (take 80 text) (meaning program (take 80 text))) in
    ap (λ (k : Line). end (letter_of (get_or (take 80 text) 0 0) (carried_out k desk).answer) kept (carried_out k desk)) (meaning-kept program text)
    ∙ ap (λ (r : ℕ). end (letter_of (get_or (take 80 text) 0 0) d.answer) r d) (reason-of-kept program text)
    ∙ ap (λ (first : ℕ). end (letter_of first d.answer) why d) (get_or-take 80 text 0 0 (omega arith))

-- A line's end that leaves the same by another name.
pub ends_as : {should : Fed} {after other : Carried} {out written : List ℕ} {at end : ℕ} → LineEnds should after out at written end → after ≡ other →
    LineEnds should other out at written end
ends_as {should} {after} {other} {out} {written} {at} {end} e same = subst (λ (x : Carried). LineEnds should x out at written end) same e
