-- What a piece leaves and what is written to it: two pieces one after the other, a line's end, the rest of a piece.
use Rattle.std.proofs.Common.{◌≡◌, ℕ, zero, suc, ◌+◌, ◌-◌, ◌<◌, ◌≤◌, Bool, true, false, cond, eqb, List, [], ◌∷◌, ◌++◌, length, take, drop, sym, refl, ap, ◌∙◌, append_assoc, append-nil, arith, length-drop, length-take, length-take-le, take_all, take-take, take-add, eq-eqb, ne_eqb}
use lib.Seq.{take-length}
use Rattle.predicate.proofs.Bools.{chosen, passed_over}
use Rattle.console.specs.Bytes.{index_of, index_after}
use Rattle.text.specs.Ascii.{feed}
use Rattle.script.specs.declared.Program.{Program}
use Rattle.session.specs.declared.desk.Session.{Session}
use Rattle.console.specs.declared.progress.Misread.{Misread}
use Rattle.console.specs.declared.progress.Buffers.{Buffers}
use Rattle.console.specs.declared.progress.Ongoing.{Ongoing}
use Rattle.session.specs.Session.{desk_of}
use Rattle.session.proofs.Acts.{desk_in}
use Rattle.console.specs.Pieces.{Carried, carried, Fed, leaving, kept, ended, byte_fed, and_then, fed, finished, carried_by, carried_in, LineEnds, Stops}

-- ---- the bytes kept of a line

-- The first bytes taken again.
pub take_again : (n : ℕ) (u z : List ℕ) → take n (take n u ++ z) ≡ take n (u ++ z)
take_again zero u z = refl
take_again (suc n) [] z = refl
take_again (suc n) (a ∷ u) z = ap (λ (l : List ℕ). a ∷ l) (take_again n u z)

-- Bytes kept one after the other.
kept-kept : (p : Carried) (x y : List ℕ) → kept (kept p x) y ≡ kept p (x ++ y)
kept-kept p x y =
    ap (carried p.desk p.number p.misread) (take_again 80 (p.begun ++ x) y ∙ ap (take 80) (append_assoc p.begun x y))

-- At most 80 bytes are kept of a line that goes on.
kept-short : (p : Carried) (x : List ℕ) → length (kept p x).begun ≤ 80
kept-short p x = omega (arith, length-take 80 (p.begun ++ x))

-- No bytes more.
pub kept-none : (p : Carried) → length p.begun ≤ 80 → kept p [] ≡ p
kept-none p h = ap (carried p.desk p.number p.misread) (ap (take 80) (append-nil p.begun) ∙ take_all 80 p.begun h)

-- ---- pieces

-- No bytes leave all as it was.
pub fed-none : (program : Program) (p : Carried) → fed program p [] ≡ leaving p []
unfolding fed
fed-none program p = refl

-- Two pieces one after the other are one.
pub fed-append : (program : Program) (p : Carried) (x y : List ℕ) → fed program p (x ++ y) ≡ and_then (fed program p x) (fed program (fed program p x).after y)
unfolding fed
fed-append program p [] y = refl
fed-append program p (b ∷ bs) y =
    let first = byte_fed program p b in
    let then = fed program first.after bs in
    let last = fed program then.after y in
    ap (and_then first) (fed-append program first.after bs y)
    ∙ ap (leaving last.after) (sym (append_assoc first.text then.text last.text))

-- A piece with no line feed is kept.
pub rest-fed : (program : Program) (p : Carried) (s : List ℕ) → index_of feed s ≡ length s → length p.begun ≤ 80 → fed program p s ≡ leaving (kept p s) []
unfolding fed index_of index_after
rest-fed program p [] e h = ap (λ (q : Carried). leaving q []) (sym (kept-none p h))
rest-fed program p (b ∷ bs) e h = by-test (eqb b feed) (λ i. rest-fed program (kept p (b ∷ [])) bs i (kept-short p (b ∷ []))) e
  where
    by-test : (t : Bool) → (index_of feed bs ≡ length bs → fed program (kept p (b ∷ [])) bs ≡ leaving (kept (kept p (b ∷ [])) bs) []) →
        index_after t (index_of feed bs) ≡ suc (length bs) →
        and_then (cond t (ended program p) (leaving (kept p (b ∷ [])) [])) (fed program (cond t (ended program p) (leaving (kept p (b ∷ [])) [])).after bs) ≡ leaving (kept p (b ∷ bs)) []
    by-test true again e = absurd (omega arith)
    by-test false again e =
        ap (and_then (leaving (kept p (b ∷ [])) [])) (again (omega arith))
        ∙ ap (λ (q : Carried). leaving q []) (kept-kept p (b ∷ []) bs)

-- A piece up to its first line feed ends a line.
pub line-fed : (program : Program) (p : Carried) (s : List ℕ) → index_of feed s < length s → length p.begun ≤ 80 →
    fed program p (take (suc (index_of feed s)) s) ≡ ended program (kept p (take (index_of feed s) s))
unfolding fed index_of index_after
line-fed program p [] e h = absurd (omega arith)
line-fed program p (b ∷ bs) e h = by-test (eqb b feed) (λ i. line-fed program (kept p (b ∷ [])) bs i (kept-short p (b ∷ []))) e
  where
    by-test : (t : Bool) →
        (index_of feed bs < length bs → fed program (kept p (b ∷ [])) (take (suc (index_of feed bs)) bs) ≡ ended program (kept (kept p (b ∷ [])) (take (index_of feed bs) bs))) →
        index_after t (index_of feed bs) < suc (length bs) →
        and_then (cond t (ended program p) (leaving (kept p (b ∷ [])) [])) (fed program (cond t (ended program p) (leaving (kept p (b ∷ [])) [])).after (take (index_after t (index_of feed bs)) bs)) ≡ ended program (kept p (take (index_after t (index_of feed bs)) (b ∷ bs)))
    by-test true again e =
        ap (leaving (ended program p).after) (append-nil (ended program p).text) ∙ ap (ended program) (sym (kept-none p h))
    by-test false again e =
        ap (and_then (leaving (kept p (b ∷ [])) [])) (again (omega arith))
        ∙ ap (ended program) (kept-kept p (b ∷ []) (take (index_of feed bs) bs))

-- ---- what the code does with a piece

module _ (program : Program) (first reached : Carried) (text piece : List ℕ) (at : ℕ) (so_far : leaving reached text ≡ fed program first (take at piece)) (short : length reached.begun ≤ 80) where
  -- A further part of the piece.
  further : (more : List ℕ) (does : Fed) → fed program reached more ≡ does →
      leaving does.after (text ++ does.text) ≡ fed program first (take at piece ++ more)
  further more does e =
      sym (fed-append program first (take at piece) more
      ∙ ap (λ (f : Fed). and_then f (fed program f.after more)) (sym so_far)
      ∙ ap (and_then (leaving reached text)) e)

  -- A line more.
  pub line-more : (stop : ℕ) → stop ≡ at + index_of feed (drop at piece) → stop < length piece →
      {after : Carried} {out written : List ℕ} {from end : ℕ} → text ≡ take from out →
      LineEnds (ended program (kept reached (take (stop - at) (drop at piece)))) after out from written end →
      leaving after (take end written) ≡ fed program first (take (stop + 1) piece)
  line-more stop e h {after} {out} {written} {from} {end} same ends =
      let s = drop at piece in
      let k = index_of feed s in
      let width : stop - at ≡ k = omega arith in
      let does : Fed = ended program (kept reached (take k s)) in
      let far : stop + 1 ≡ at + suc k = omega arith in
      let inside : k < length s = omega (arith, length-drop at piece) in
      let made : ended program (kept reached (take (stop - at) s)) ≡ does = ap (λ (n : ℕ). ended program (kept reached (take n s))) width in
      ap (λ (x : Carried). leaving x (take end written)) (ends.leaves ∙ ap (λ (f : Fed). f.after) made)
      ∙ ap (leaving does.after) (ends.writes ∙ ap (λ (f : Fed). take from out ++ f.text) made ∙ ap (λ (t : List ℕ). t ++ does.text) (sym same))
      ∙ further (take (suc k) s) does (line-fed program reached s inside short)
      ∙ ap (fed program first) (sym (ap (λ (n : ℕ). take n piece) far ∙ take-add at (suc k) piece))

  -- The rest of the piece, in which no line ends.
  pub rest_more : (stop : ℕ) → at ≤ length piece → stop ≡ at + index_of feed (drop at piece) → stop ≡ length piece → {after : Carried} →
      after ≡ kept reached (take (stop - at) (drop at piece)) → leaving after text ≡ fed program first (take stop piece)
  rest_more stop h e all {after} keeps =
      let s = drop at piece in
      let size : length s ≡ index_of feed s = omega (arith, length-drop at piece) in
      let far : stop ≡ at + length s = omega (arith, length-drop at piece) in
      let part : take (stop - at) s ≡ s = take_all (stop - at) s (omega arith) in
      ap (λ (x : Carried). leaving x text) (keeps ∙ ap (kept reached) part)
      ∙ ap (leaving (kept reached s)) (sym (append-nil text))
      ∙ further s (leaving (kept reached s) []) (rest-fed program reached s (sym size) short)
      ∙ ap (fed program first) (sym (ap (λ (n : ℕ). take n piece) far ∙ take-add at (length s) piece ∙ ap (λ (l : List ℕ). take at piece ++ l) (take-length s)))

-- The part of a piece that is used up, and the part that is used up of what is left.
pub used-more : (program : Program) (first reached after : Carried) (piece : List ℕ) (used more : ℕ) →
    reached ≡ (fed program first (take used piece)).after → more ≤ length (take (length piece - used) (drop used piece)) →
    after ≡ (fed program reached (take more (take (length piece - used) (drop used piece)))).after →
    after ≡ (fed program first (take (used + more) piece)).after
used-more program first reached after piece used more so_far fits e =
    let rest = drop used piece in
    let part : take more (take (length piece - used) rest) ≡ take more rest = take-take more (length piece - used) rest (omega (arith, length-take (length piece - used) rest)) in
    e
    ∙ ap (λ (t : List ℕ). (fed program reached t).after) part
    ∙ ap (λ (p : Carried). (fed program p (take more rest)).after) so_far
    ∙ sym (ap (λ (f : Fed). f.after) (ap (fed program first) (take-add used more piece) ∙ fed-append program first (take used piece) (take more rest)))

-- What is carried once more bytes of a line are kept, whatever the arrays hold: `line` before, `after` then.
pub kept_in : (k p : Ongoing) (memory cache text line after rest : List ℕ) →
    (k.session ≡ p.session) × (k.number ≡ p.number) × (k.misread ≡ p.misread) × (take k.begun after ≡ take 80 (take p.begun line ++ rest)) →
    carried_in k memory cache text after ≡ kept (carried_in p memory cache text line) rest
kept_in k p memory cache text line after rest w =
    let desk = (carried_in p memory cache text line).desk in
    ap (λ (s : Session). carried (desk_in s memory cache text) k.number k.misread (take k.begun after)) w.0
    ∙ ap (λ (n : ℕ). carried desk n k.misread (take k.begun after)) w.1
    ∙ ap (λ (x : Misread). carried desk p.number x (take k.begun after)) w.2
    ∙ ap (carried desk p.number p.misread) w.3

-- The same of the buffers' arrays.
pub kept_by : (k p : Ongoing) (buffers : Buffers) (after rest : List ℕ) →
    (k.session ≡ p.session) × (k.number ≡ p.number) × (k.misread ≡ p.misread) × (take k.begun after ≡ take 80 (take p.begun buffers.line.now ++ rest)) →
    carried (desk_of k.session buffers.rows) k.number k.misread (take k.begun after) ≡ kept (carried_by p buffers) rest
kept_by k p buffers after rest w =
    let rows = buffers.rows in
    kept_in k p rows.memory.now rows.cache.now rows.text.now buffers.line.now after rest w

-- At most 80 bytes are kept.
pub begun-short : (p : Ongoing) (line : List ℕ) → length (take p.begun line) ≤ 80
begun-short p line = omega (arith, p.begun_within, length-take p.begun line)

-- ---- after the input

-- No line is begun, whatever the arrays hold.
pub none_in : (program : Program) (p : Ongoing) (memory cache text line : List ℕ) → p.begun ≡ 0 →
    leaving (carried_in p memory cache text line) [] ≡ finished program (carried_in p memory cache text line)
none_in program p memory cache text line z =
    let none : length (take p.begun line) ≡ 0 = ap (λ (k : ℕ). length (take k line)) z in
    sym (chosen (eqb (length (take p.begun line)) 0) _ _ (eq-eqb _ 0 none))

-- The same of the buffers' arrays.
pub none_last : (program : Program) (p : Ongoing) (buffers : Buffers) → p.begun ≡ 0 →
    leaving (carried_by p buffers) [] ≡ finished program (carried_by p buffers)
none_last program p buffers z =
    let rows = buffers.rows in
    none_in program p rows.memory.now rows.cache.now rows.text.now buffers.line.now z

-- The line begun ends by the line feed that it lacks.
pub line-last : (program : Program) (p : Ongoing) (buffers : Buffers) → length buffers.line.now ≡ 80 → (p.begun ≡ 0 → ⊥) →
    {f : Fed} {used written : ℕ} → f ≡ fed program (carried_by p buffers) (take used (feed ∷ [])) → Stops (feed ∷ []) used written →
    f ≡ finished program (carried_by p buffers)
unfolding fed
line-last program p buffers size some {f} {used} {written} e' stops =
    let from = carried_by p buffers in
    let begun : length (take p.begun buffers.line.now) ≡ p.begun = length-take-le p.begun buffers.line.now (omega (arith, p.begun_within)) in
    let whole : used ≡ 1 = omega (arith, stops.used-within, stops.goes_on (omega arith)) in
    e'
    ∙ ap (λ (n : ℕ). fed program from (take n (feed ∷ []))) whole
    ∙ ap (leaving (ended program from).after) (append-nil (ended program from).text)
    ∙ sym (passed_over (eqb (length (take p.begun buffers.line.now)) 0) _ _ (ne_eqb _ 0 (λ z. some (sym begun ∙ z))))
