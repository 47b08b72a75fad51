-- THE THEOREMS: every statement of `specs/Statements.antt`, proved. DEMAND 3 is `demand3`.
use Prim.Native.Nat.{ℕ, ◌+◌, ◌<◌}
use mathlib.Core.Path.{◌≡◌, refl, sym, ap, subst, ◌∙◌}
use mathlib.Core.Logic.{inl, inr}
use mathlib.Core.Bool.{Bool, true, false, cond, true≢false}
use native.Mathlib.Omega.{arith}
use borrow.Author.Tests.{leb-false, eqb-true, eqb-false}
use Rattle.board.specs.declared.Phase.{Phase}
use Rattle.board.specs.declared.Phase.TheVariants.{Off, Formatting, Recovering, Running}
use Rattle.board.specs.declared.Call.TheVariants.{FormatStart, RecoveryStart, Request, Read}
use Rattle.board.specs.Board.{Board, Shape, shaped, shape_of, cells, epoch_of, lines_of, workers_of}
use Rattle.board.specs.State.{is_running, is_formatting, dirty_count}
use Rattle.board.specs.Causes.{causes}
use Rattle.board.specs.Next.{Taken, next, value_of}
use Rattle.board.specs.Location.{Location, cell, Has}
use Rattle.board.specs.Machine.{Machine, beginning, format_steps}
use Rattle.board.specs.Sequence.{Begins, formatted, recovery_started, Run, cut_run, cuts, History, begun, further, rose, last_checkpoint, recovery_steps}
use Rattle.board.specs.Statements.{Reads, ReadsAll, ReadsCheckpointed, Recovered, Recovery, CutAndRecovered, AlikeWhere, Demand3, Demand3ByCheckpoints, LastCheckpoint, HeaderSizes, RecoveredSizes, Completes, format_step_in, Completion, steps_from, FormatEnds, RecoveryEnds, CheckpointEnds, AwayHoldsUpNone, GoesAndComes, RecoveryStarts, OwnMemory, RequestAnswers, WriteBackAnswers, ReadAnswers, HistoryBegins, HasRecovery, UpdateEnds, SingleStores, SpareWords, FormatSpare}
use Rattle.predicate.proofs.Bools.{on, not-off}
use Rattle.board.proofs.Invariant.{Inv}
use Rattle.board.proofs.Laws.Taken.{stands_at, passed, performed-number, performed-value, performed-taken, performing, same_lines}
use Rattle.board.proofs.Laws.Takes.{all-takes}
use Rattle.board.proofs.Laws.Reading.{in-phase, read-current}
use Rattle.board.proofs.Checkpoint.Run.{is-running}
use Rattle.board.proofs.Keeps.Every.{carried, history-inv}
use Rattle.board.proofs.Keeps.Away
use Rattle.board.proofs.Keeps.Request as Requests
use Rattle.board.proofs.Recovery.Finishes.{RecoveryDone, recovers}
use Rattle.board.proofs.Keeps.RecoveryStart.{recovery-kept}
use Rattle.board.proofs.Recovery.Starts.{start-taken, start-answer}
use Rattle.board.proofs.Format.Ends as FormatSteps
use Rattle.board.proofs.Recovery.Ends as RecoverySteps
use Rattle.board.proofs.Checkpoint.Ends as CheckpointSteps
use Rattle.board.proofs.Updates
use Rattle.board.proofs.Answers
use Rattle.board.proofs.Stores
use Rattle.board.proofs.Spare as SparePart

-- ---- 1. reads

-- A taken read is made of a running board.
read-running : (c : ℕ) (b : Board) → Taken (Read c) b → is_running b.state.phase ≡ true
unfolding stands_at causes
read-running c b t = not-off (is_running b.state.phase) (passed (Read c) b t 2)

-- A taken read is of a cell.
read_cell_lem : (c : ℕ) (b : Board) → Taken (Read c) b → c < cells (shape_of b.state)
unfolding stands_at causes
read_cell_lem c b t = leb-false (cells (shape_of b.state)) c (passed (Read c) b t 7)

-- DEMAND 2: a read gives the machine's current value.
pub reads : Reads
unfolding value_of
reads r h d c value b p =
    let i = history-inv r h in
    let t = (performed-taken (Read c) r.board p refl).0 in
    let on = is-running r.board.state.phase (read-running c r.board t) in
    let same = (in-phase r i d Running on).0.own.shape in
    performed-value (Read c) r.board p ∙ read-current r i d on c (subst (λ (σ : Shape). c < cells σ) same (read_cell_lem c r.board t))

-- ---- 2. recovery

-- What a recovered board's reads return.
pub done-reads : (m : Machine) {σ : Shape} {w : ℕ} (b : Board) → RecoveryDone σ w m.checkpointed b → ReadsCheckpointed m b
unfolding value_of
done-reads m b d c h number value b' p =
    let r = d.reads c (subst (λ (τ : Shape). c < cells τ) d.shape h) in
    (performed-number (Read c) b p ∙ r.0, performed-value (Read c) b p ∙ r.1)

-- After any history a finished recovery reads the checkpointed values.
pub recovery : Recovery
recovery r h b e = done-reads r.machine b (recovers r (history-inv r h) b e)

-- One more cut is one more thing that happens.
cut-history : {r : Run} {b : Board} → History r → (e : CutAndRecovered r b) → History (cut_run e.state e.cache r)
cut-history h e = further h (cuts e.state e.cache e.same_length)

-- Two boards read alike exactly when the values are equal that they read.
alike : (values others : Location → ℕ) (b d : Board) → b.state.lines ≡ d.state.lines → ReadsAll values b → ReadsAll others d → AlikeWhere values b others d
alike values others b d same x y c h p q v u b' d' first second =
    let e = (x c h p v b' first).1 in
    let f = (y c (subst (λ (l : ℕ). c < cells (shaped l)) same h) q u d' second).1 in
    (λ g. sym e ∙ g ∙ f, λ g. e ∙ g ∙ sym f)

-- DEMAND 3: two boards, any histories, one more cut each, and finished recoveries.
pub demand3 : Demand3
demand3 r s hr hs b d er es =
    let x : ReadsCheckpointed r.machine b = recovery _ (cut-history hr er) b er.recovered in
    let y : ReadsCheckpointed s.machine d = recovery _ (cut-history hs es) d es.recovered in
    (x, y, λ same. alike r.machine.checkpointed s.machine.checkpointed b d same x y)

-- The last checkpoint stays where memory's epoch does, and is the current one where it rises.
last-stays : (format : Bool) (r r' : Run) (xs : Location → ℕ) → Completes format r r' → (c : Location) → Has r'.machine.shape c →
    (Has r.machine.shape c → xs c ≡ r.machine.checkpointed c) → cond (rose r r') r'.machine.current xs c ≡ r'.machine.checkpointed c
last-stays format r r' xs done c h before = go format done
  where
    old : ℕ
    old = epoch_of r.board.memory

    new : ℕ
    new = epoch_of r'.board.memory

    by-rise : (new ≡ old + 1 → r'.machine.current c ≡ r'.machine.checkpointed c) → ((new ≡ old + 1 → ⊥) → xs c ≡ r'.machine.checkpointed c) →
        cond (rose r r') r'.machine.current xs c ≡ r'.machine.checkpointed c
    by-rise f g =
        on (λ (x : Location → ℕ). x c ≡ r'.machine.checkpointed c) (rose r r') r'.machine.current xs (λ t. f (eqb-true new (old + 1) t)) (λ t. g (eqb-false new (old + 1) t))

    inside : r'.machine.shape ≡ r.machine.shape → Has r.machine.shape c
    inside e = subst (λ (σ : Shape). Has σ c) e h

    go : (f : Bool) → Completes f r r' → cond (rose r r') r'.machine.current xs c ≡ r'.machine.checkpointed c
    go false (inl u) = by-rise (λ e. absurd (omega (arith, u.epoch))) (λ o. before (inside u.board.shape) ∙ sym (u.values c (inside u.board.shape)))
    go false (inr u) = by-rise (λ e. u.current c (inside u.board.shape) ∙ sym (u.values c (inside u.board.shape))) (λ o. absurd (o u.epoch))
    go true (inl u) = by-rise (λ e. absurd (omega (arith, u.epoch))) (λ o. before (inside u.shape) ∙ sym (u.values c (inside u.shape)))
    go true (inr u) = by-rise (λ e. u.current c ∙ sym (u.values c)) (λ o. absurd (o (omega (arith, u.before, u.epoch))))

-- A history begins with equal current and checkpointed values.
begins-equal : (b : Board) (m : Machine) → Begins b m → (c : Location) → m.current c ≡ m.checkpointed c
begins-equal b m (formatted l w value d d' b' p takes) c = refl
begins-equal b m (recovery_started value d b' p) c = refl

-- The checkpointed values are the current ones where memory's epoch last rose.
pub last-checkpoint : LastCheckpoint
unfolding last_checkpoint
last-checkpoint r (begun {b = b} {m = m} h) c p = begins-equal b m h c
last-checkpoint r (further {r = q} h e) c p =
    last-stays (format_step_in e) q r (last_checkpoint h) (carried (history-inv q h) e).completion c p (λ i. last-checkpoint q h c i)

-- What a recovered board reads is the last checkpoint of its history.
reads-last : (r : Run) (h : History r) (b : Board) → CutAndRecovered r b → ReadsAll (last_checkpoint h) b
reads-last r h b e c low number value b' p =
    let done = recovers _ (history-inv _ (cut-history h e)) b e.recovered in
    let x = recovery _ (cut-history h e) b e.recovered c low number value b' p in
    (x.0, x.1 ∙ sym (last-checkpoint r h (cell c) (subst (λ (τ : Shape). c < cells τ) done.shape low)))

-- DEMAND 3 by the histories alone.
pub demand3-by-checkpoints : Demand3ByCheckpoints
demand3-by-checkpoints r s h k b d e f =
    let x = reads-last r h b e in
    let y = reads-last s k d f in
    (x, y, λ same. alike (last_checkpoint h) (last_checkpoint k) b d same x y)

-- L and W are the header's.
pub header-sizes : HeaderSizes
header-sizes r h e =
    record { header = header; lines = λ d f. (lines r.board.state.phase refl d f).0; workers = λ d f. (lines r.board.state.phase refl d f).1 }
  where
    i : Inv r
    i = history-inv r h

    header : lines_of r.board.memory ≡ r.machine.shape.lines
    header = same_lines (i.kept e).header.shape

    lines : (p : Phase) → r.board.state.phase ≡ p → r.crashed ≡ false → is_formatting r.board.state.phase ≡ false →
        (r.board.state.lines ≡ lines_of r.board.memory) × (r.board.state.workers ≡ workers_of r.board.memory)
    lines Off q d f = absurd (in-phase r i d Off q)
    lines Formatting q d f = absurd (true≢false (sym (ap is_formatting q) ∙ f))
    lines Recovering q d f = (same_lines (in-phase r i d Recovering q).0.underway.own.shape ∙ sym header, (in-phase r i d Recovering q).0.sizes.workers)
    lines Running q d f = (same_lines (in-phase r i d Running q).0.own.shape ∙ sym header, (in-phase r i d Running q).0.rows.sizes.workers)

-- L and W survive a recovery.
pub recovered-sizes : RecoveredSizes
recovered-sizes r h b e =
    let i = history-inv r h in
    let done = recovers r i b e in
    (same_lines (done.shape ∙ sym (recovery-kept r i (performed-taken RecoveryStart r.board e.begun refl).0).header.shape), done.workers)

-- ---- 3. completion

-- The machine's checkpoint is complete when the new epoch's number is in memory.
pub completion : Completion
completion r r' h e = (carried (history-inv r h) e).completion

-- ---- 4. progress

-- InFormat, recoveries, checkpoints and updates end, workers that are away or not; workers go and come; and recovery can be started.
pub format-ends : FormatEnds
format-ends = FormatSteps.format-ends

pub recovery-ends : RecoveryEnds
recovery-ends = RecoverySteps.recovery-ends

pub checkpoint-ends : CheckpointEnds
checkpoint-ends r h d e on first wait = (CheckpointSteps.checkpoint-ends r (history-inv r h) d e on wait (dirty_count r.board.state + 3) (omega arith)).0

pub away-holds-up-none : AwayHoldsUpNone
away-holds-up-none r h = CheckpointSteps.checkpoint-ends r (history-inv r h)

pub goes-and-comes : GoesAndComes
goes-and-comes r h = Away.goes-and-comes r (history-inv r h)

pub recovery-starts : RecoveryStarts
recovery-starts r h e = start-taken r (history-inv r h) e

pub own-memory : OwnMemory
own-memory r h number value b p = performed-number RecoveryStart r.board p ∙ start-answer r (history-inv r h)

pub request-answers : RequestAnswers
request-answers r h d e off number value b p = performed-number Request r.board p ∙ Requests.request-answer r (history-inv r h) d e off

pub write-back-answers : WriteBackAnswers
write-back-answers r h = Answers.write-back-answers r (history-inv r h)

pub read-answers : ReadAnswers
read-answers r h = Answers.read-answers r (history-inv r h)

pub update-ends : UpdateEnds
update-ends r h = Updates.update-ends r (history-inv r h)

-- So there are histories, and finished recoveries.
pub history-begins : HistoryBegins
history-begins = (by-format, λ b t. recovery_started _ b _ (performing RecoveryStart b t refl refl))
  where
    by-format : (l w : ℕ) (b : Board) → Taken (FormatStart l w) b → (b' : Board) × Begins b' (beginning (shaped l))
    by-format l w b t =
        let start = next (FormatStart l w) b in
        (steps_from (format_steps l) start, formatted l w _ b start _ (performing (FormatStart l w) b t refl refl) (all-takes (format_steps l) start (format-ends l w b t).0))

-- Where a recovery's start is taken there is a finished recovery.
pub recovery-from : (r : Run) → Taken RecoveryStart r.board → (b : Board) × Recovered r b
recovery-from r t =
    let start = next RecoveryStart r.board in
    let n = recovery_steps r.board.memory in
    (steps_from n start, record { value = value_of RecoveryStart r.board; start = start; begun = performing RecoveryStart r.board t refl refl; ended = all-takes n start (recovery-ends r.board t).0 })

pub has-recovery : HasRecovery
has-recovery r h e = recovery-from r (recovery-starts r h e)

-- ---- 5. single stores

-- A call stores at most one word of the cache or one line of memory; words 6 and 7 stay.
pub single-stores : SingleStores
single-stores = Stores.single-stores

pub spare-words : SpareWords
spare-words = SparePart.spare-words

pub format-spare : FormatSpare
format-spare = SparePart.format-spare
