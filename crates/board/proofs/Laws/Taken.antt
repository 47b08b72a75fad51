-- A taken call: no test of its rows of the cause table stands, each read by its number; and the other way round.
use Prim.Native.Nat.{ℕ, ◌≤◌, ◌<◌}
use mathlib.Core.Path.{◌≡◌, refl, sym, ap, subst, ◌∙◌}
use mathlib.Core.List.{List, [], ◌∷◌, flatten}
use mathlib.Core.Bool.{Bool, true, false, cond, not, ◌&&◌, ◌||◌}
use native.Mathlib.Omega.{arith}
use lib.Dec.{leb, ltb, eqb}
use lib.ListN.{length}
use borrow.Author.Tests.{ltb-true, ltb-false, leb-true, eq-eqb, ne_eqb, le-leb, lt-ltb, le-ltb}
use Rattle.bitset.specs.Words.{strays}
use Rattle.locks.specs.Holders.{held_from}
use Rattle.line.specs.declared.Field.TheVariants.{Mark}
use Rattle.line.specs.Cell.{field_of}
use Rattle.board.specs.declared.State.{State}
use Rattle.board.specs.declared.Condition.{Condition}
use Rattle.board.specs.declared.Phase.{Phase}
use Rattle.board.specs.declared.Call.{Call}
use Rattle.board.specs.declared.Call.TheVariants.{FormatStart, RecoveryStart, Step, Update, RestartPoint, Advance, Request, WriteBack, Read, GoAway, ComeBack, Count, TakeLock, GiveBackLock}
use Rattle.board.specs.Board.{Board, Shape, shape_of, shape_in, cells, row_words, shape_outside, workers_outside, outside}
use Rattle.board.specs.State.{condition_of, updates, any_worker, is_running}
use Rattle.board.specs.Causes.{Cause, check, guarded, no_cell, causes, first_standing, cause, bad_record, bad_rows, later_mark, place_past, not_on, not_recovering_or_running, not_running}
use Rattle.board.specs.Effects.{effect}
use Rattle.board.specs.Machine.{feed}
use Rattle.board.specs.Sequence.{Run, taken_call}
use Rattle.board.specs.Locks.{allows}
use Rattle.board.specs.Changes.{Changes}
use Rattle.board.specs.Refusals.{refusals, any_asks, asked, all_asked}
use Rattle.board.specs.Next.{Taken, taken, next, Kind, starts_format, starts_recovery, stepping, writing, counting, other, reading, profile, kind, is_start, is_step, value_of, Outcome, Performed}
use Rattle.predicate.proofs.Bools.{split, chosen, passed_over, or_left, or_right, or-none, and_left, and_right, and_both, and-not, and-if, not-off, not_on_lem}
use Rattle.predicate.proofs.Passing.{none-under, under_none}
use Rattle.board.proofs.Invariant.{RecordInv, Lengths}

-- ---- a call's causes

-- Whether a cause of the given number stands.
unfoldable pub stands_at : ℕ → List Cause → Bool
stands_at n [] = false
stands_at n (k ∷ ks) = cond (eqb k.number n) k.stands (stands_at n ks)

-- No row of the table has the number 0.
unfoldable pub numbered : List Cause → Bool
numbered [] = true
numbered (k ∷ ks) = ltb 0 k.number && numbered ks

-- No row of the table stands.
unfoldable pub Clear : List Cause → Type 0
Clear [] = Unit {0}
Clear (k ∷ ks) = (k.stands ≡ false) × Clear ks

-- Where no cause is given, no row stands.
pub first-clear : (ks : List Cause) → numbered ks ≡ true → first_standing ks ≡ 0 → Clear ks
unfolding numbered first_standing Clear
first-clear [] p e = tt
first-clear (k ∷ ks) p e =
    let off : k.stands ≡ false = split k.stands
    (λ on. absurd (zero_number k.number (and_left (ltb 0 k.number) (numbered ks) p) (sym (chosen k.stands k.number (first_standing ks) on) ∙ e)))
    (λ off. off) in
    (off, first-clear ks (and_right (ltb 0 k.number) (numbered ks) p) (sym (passed_over k.stands k.number (first_standing ks) off) ∙ e))
  where
    zero_number : (n : ℕ) → ltb 0 n ≡ true → n ≡ 0 → ⊥
    zero_number n p e = omega (arith, ltb-true 0 n p)

-- Where no row stands, no cause is given.
pub clear_first : (ks : List Cause) → Clear ks → first_standing ks ≡ 0
unfolding first_standing Clear
clear_first [] c = refl
clear_first (k ∷ ks) c = passed_over k.stands k.number (first_standing ks) c.0 ∙ clear_first ks c.1

-- Where no row stands, none of any number does.
pub clear_at : (ks : List Cause) → Clear ks → (n : ℕ) → stands_at n ks ≡ false
unfolding stands_at Clear
clear_at [] c n = refl
clear_at (k ∷ ks) c n =
    split (eqb k.number n)
    (λ t. chosen (eqb k.number n) k.stands (stands_at n ks) t ∙ c.0)
    (λ f. passed_over (eqb k.number n) k.stands (stands_at n ks) f ∙ clear_at ks c.1 n)

-- The phase's test that a call of each kind must pass.
abbrev pub phase_bars : Kind → Board → Bool
phase_bars starts_format b = false
phase_bars starts_recovery b = false
phase_bars stepping b = not_on b
phase_bars writing b = not_recovering_or_running b
phase_bars counting b = not_running b
phase_bars other b = not_running b
phase_bars (reading c) b = not_running b

-- The call of a kind that has only one.
abbrev pub OfKind : Kind → Call → Type 0
OfKind starts_format k = (l : ℕ) × (w : ℕ) × (k ≡ FormatStart l w)
OfKind starts_recovery k = k ≡ RecoveryStart
OfKind stepping k = k ≡ Step
OfKind writing k = (l : ℕ) × (k ≡ WriteBack l)
OfKind counting k = k ≡ Count
OfKind other k = Unit {0}
OfKind (reading c) k = k ≡ Read c

-- What a call's rows of the table and its kind have in common with every other call's.
pub record Entered (k : Call) : Type 0 where
  -- every row has a number other than 0
  pub numbers : (b : Board) → numbered (causes k b) ≡ true
  -- the row of cause 2 is that of the kind
  pub phase : (b : Board) → stands_at 2 (causes k b) ≡ phase_bars (kind k) b
  -- the kind tells the call
  pub named : OfKind (kind k) k

-- The rows of a table from the first of number `n` on.
unfoldable pub onward : ℕ → List Cause → List Cause
onward n [] = []
onward n (k ∷ ks) = cond (eqb k.number n) (k ∷ ks) (onward n ks)

-- A call that looks at a running board and changes nothing, neither record nor rows nor what the machine knows. This is all that the proofs ask of it.
pub record Quiet (k : Call) : Type 0 where
  pub entry : Entered k
  pub start : is_start (kind k) ≡ false
  pub step : is_step (kind k) ≡ false
  pub allowed : (p : Phase) → allows p (kind k) ≡ is_running p
  pub barred : (b : Board) → phase_bars (kind k) b ≡ not_running b
  pub own : Board → List Cause
  pub table : (b : Board) → causes k b ≡ guarded (not_running b) b (own b)
  pub nine : (b : Board) → onward 9 (causes k b) ≡ []
  pub leaves : (b : Board) → effect k b ≡ b
  pub after : (r : Run) → taken_call k (effect k r.board) r ≡ record { board = r.board; machine = r.machine; crashed = r.crashed && true; erased = r.erased }
  pub changes : (b : Board) → Changes k b b
  pub rows : (b : Board) → asked (profile k).index 0 refusals && all_asked (profile k).index (causes k b) ≡ true

-- A call by what it does: a quiet one, or one of those that change something. Proofs about every call go by it, so that a quiet call is one line here and
-- none elsewhere.
pub data ByEffect : Call → Type 0 where
  quiet : {k : Call} → Quiet k → ByEffect k
  the_format : (l w : ℕ) → ByEffect (FormatStart l w)
  the_recovery : ByEffect RecoveryStart
  the_step : ByEffect Step
  the_update : (w c v : ℕ) → ByEffect (Update w c v)
  the_restart : (w v : ℕ) → ByEffect (RestartPoint w v)
  the_advance : (w : ℕ) → ByEffect (Advance w)
  the_request : ByEffect Request
  the_write_back : (l : ℕ) → ByEffect (WriteBack l)
  the_going : (w : ℕ) → ByEffect (GoAway w)
  the_coming : (w : ℕ) → ByEffect (ComeBack w)
  the_taking : (w k : ℕ) → ByEffect (TakeLock w k)
  the_giving : (w k : ℕ) → ByEffect (GiveBackLock w k)

-- Every call is one of these.
pub by-effect : (k : Call) → ByEffect k
unfolding numbered stands_at causes onward effect feed flatten refusals any_asks asked all_asked
by-effect (FormatStart l w) = the_format l w
by-effect RecoveryStart = the_recovery
by-effect Step = the_step
by-effect (Update w c v) = the_update w c v
by-effect (RestartPoint w v) = the_restart w v
by-effect (Advance w) = the_advance w
by-effect Request = the_request
by-effect (WriteBack l) = the_write_back l
by-effect (Read c) =
    quiet (record {
      entry = record { numbers = λ b. refl; phase = λ b. refl; named = refl };
      start = refl;
      step = refl;
      allowed = λ p. refl;
      barred = λ b. refl;
      own = λ b. check 7 (no_cell b.state c) ∷ [];
      table = λ b. refl;
      nine = λ b. refl;
      leaves = λ b. refl;
      after = λ r. refl;
      changes = λ b. refl;
      rows = λ b. refl;
    })
by-effect (GoAway w) = the_going w
by-effect (ComeBack w) = the_coming w
by-effect Count =
    quiet (record {
      entry = record { numbers = λ b. refl; phase = λ b. refl; named = refl };
      start = refl;
      step = refl;
      allowed = λ p. refl;
      barred = λ b. refl;
      own = λ b. [];
      table = λ b. refl;
      nine = λ b. refl;
      leaves = λ b. refl;
      after = λ r. refl;
      changes = λ b. refl;
      rows = λ b. refl;
    })
by-effect (TakeLock w k) = the_taking w k
by-effect (GiveBackLock w k) = the_giving w k

enters : {k : Call} → ByEffect k → Entered k
unfolding numbered stands_at causes
enters (quiet q) = q.entry
enters (the_format l w) = record { numbers = λ b. refl; phase = λ b. refl; named = (l, w, refl) }
enters the_recovery = record { numbers = λ b. refl; phase = λ b. refl; named = refl }
enters the_step = record { numbers = λ b. refl; phase = λ b. refl; named = refl }
enters (the_update w c v) = record { numbers = λ b. refl; phase = λ b. refl; named = tt }
enters (the_restart w v) = record { numbers = λ b. refl; phase = λ b. refl; named = tt }
enters (the_advance w) = record { numbers = λ b. refl; phase = λ b. refl; named = tt }
enters the_request = record { numbers = λ b. refl; phase = λ b. refl; named = tt }
enters (the_write_back l) = record { numbers = λ b. refl; phase = λ b. refl; named = (l, refl) }
enters (the_going w) = record { numbers = λ b. refl; phase = λ b. refl; named = tt }
enters (the_coming w) = record { numbers = λ b. refl; phase = λ b. refl; named = tt }
enters (the_taking w k) = record { numbers = λ b. refl; phase = λ b. refl; named = tt }
enters (the_giving w k) = record { numbers = λ b. refl; phase = λ b. refl; named = tt }

entered : (k : Call) → Entered k
entered k = enters (by-effect k)

-- Every row of every call has a number other than 0.
pub table-numbered : (k : Call) (b : Board) → numbered (causes k b) ≡ true
table-numbered k = (entered k).numbers

-- A taken call passes the test of every number. (`unfolding stands_at causes` opens the test.)
pub passed : (k : Call) (b : Board) → Taken k b → (n : ℕ) → stands_at n (causes k b) ≡ false
unfolding cause
passed k b t n = clear_at (causes k b) (first-clear (causes k b) (table-numbered k b) t) n

-- A taken call passes the phase's test of its kind.
pub phase-passed : (k : Call) (b : Board) → Taken k b → phase_bars (kind k) b ≡ false
phase-passed k b t = sym ((entered k).phase b) ∙ passed k b t 2

-- A call of a kind that has only one is that call.
pub of-kind : (k : Call) (d : Kind) → kind k ≡ d → OfKind d k
of-kind k d e = subst (λ (x : Kind). OfKind x k) e (entered k).named

-- A call that passes every test is taken. (`unfolding Clear causes` opens what is to be shown.)
pub take : (k : Call) (b : Board) → Clear (causes k b) → Taken k b
unfolding cause
take k b c = clear_first (causes k b) c

-- ---- what a call leaves

-- A taken call does its step.
pub taken_next : (k : Call) (b : Board) → Taken k b → next k b ≡ effect k b
unfolding next
taken_next k b t = chosen (taken k b) (effect k b) b (eq-eqb (cause k b) 0 t)

-- A refused call leaves the board.
pub refused-next : (k : Call) (b : Board) → (Taken k b → ⊥) → next k b ≡ b
unfolding next
refused-next k b o = passed_over (taken k b) (effect k b) b (ne_eqb (cause k b) 0 o)

-- The run after a call that is taken.
abbrev pub after_taken : Call → Run → Run
after_taken k r = taken_call k (effect k r.board) r

-- ---- what a contract says

module _ (k : Call) (b : Board) {b' : Board} {number value : ℕ} (p : Performed k b number value b') where
  -- The number given back.
  pub performed-number : number ≡ cause k b
  performed-number = ap (λ (o : Outcome). o.number) p

  -- The value given back.
  pub performed-value : value ≡ value_of k b
  performed-value = ap (λ (o : Outcome). o.value) p

  -- The board left where the number is 0.
  pub performed-taken : number ≡ 0 → Taken k b × (b' ≡ effect k b)
  performed-taken z =
      let t : Taken k b = sym performed-number ∙ z in
      (t, ap (λ (o : Outcome). o.board) p ∙ taken_next k b t)

  -- The board left where it is not.
  pub performed-refused : (number ≡ 0 → ⊥) → b' ≡ b
  performed-refused o = ap (λ (o : Outcome). o.board) p ∙ refused-next k b (λ t. o (performed-number ∙ t))

-- A call is performed where its outcome is the one it must have.
pub performing : (k : Call) (b : Board) → Taken k b → {value : ℕ} {b' : Board} → value ≡ value_of k b → b' ≡ next k b → Performed k b 0 value b'
performing k b t v e = λ i. record { number = sym t i; value = v i; board = e i }

-- ---- the tests of limits, record and rows

-- A shape within its limits.
pub shape-in : (σ : Shape) → shape_outside σ ≡ false → (1 ≤ σ.lines) × (σ.lines ≤ 511)
shape-in σ e =
    let l = σ.lines in
    let t = not-off (leb 1 l && leb l 511) e in
    (leb-true 1 l (and_left (leb 1 l) (leb l 511) t), leb-true l 511 (and_right (leb 1 l) (leb l 511) t))

-- And back.
pub in-shape : (σ : Shape) → (1 ≤ σ.lines) × (σ.lines ≤ 511) → shape_outside σ ≡ false
in-shape σ h =
    let l = σ.lines in
    not_on_lem (leb 1 l && leb l 511) (and_both (leb 1 l) (leb l 511) (le-leb 1 l h.0) (le-leb l 511 h.1))

-- Shape and W within the limits.
pub record Limits (σ : Shape) (w : ℕ) : Type 0 where
  pub shape : shape_outside σ ≡ false
  pub lines : σ.lines ≤ 511
  pub some : 1 ≤ w
  pub eight : w ≤ 8
  pub fewer : w < cells σ

pub limits-in : (σ : Shape) (w : ℕ) → outside σ w ≡ false → Limits σ w
limits-in σ w e =
    let shape = or_left (shape_outside σ) (workers_outside σ w) e in
    let t = not-off (leb 1 w && leb w 8 && ltb w (cells σ)) (or_right (shape_outside σ) (workers_outside σ w) e) in
    let u = and_left (leb 1 w && leb w 8) (ltb w (cells σ)) t in
    record {
      shape = shape;
      lines = (shape-in σ shape).1;
      some = leb-true 1 w (and_left (leb 1 w) (leb w 8) u);
      eight = leb-true w 8 (and_right (leb 1 w) (leb w 8) u);
      fewer = ltb-true w (cells σ) (and_right (leb 1 w && leb w 8) (ltb w (cells σ)) t);
    }

-- And back.
pub in-limits : (σ : Shape) (w : ℕ) → shape_outside σ ≡ false → 1 ≤ w → w ≤ 8 → w < cells σ → outside σ w ≡ false
in-limits σ w shape some eight fewer =
    or-none (shape_outside σ) (workers_outside σ w) shape
    (not_on_lem (leb 1 w && leb w 8 && ltb w (cells σ))
    (and_both (leb 1 w && leb w 8) (ltb w (cells σ)) (and_both (leb 1 w) (leb w 8) (le-leb 1 w some) (le-leb w 8 eight)) (lt-ltb w (cells σ) fewer)))

-- Rows of the right lengths pass.
pub rows-fine : (σ : Shape) (b : Board) → Lengths σ b.memory b.cache → bad_rows σ.lines b ≡ false
rows-fine σ b z =
    let n = row_words σ.lines in
    or-none (not (eqb (length b.cache) n)) (not (eqb (length b.memory) n))
    (not_on_lem (eqb (length b.cache) n) (eq-eqb _ _ z.cache.size))
    (not_on_lem (eqb (length b.memory) n) (eq-eqb _ _ z.memory.size))

-- Where no mark is later than the epoch, each is at most the epoch.
pub later-bounds : (e : ℕ) (row : List ℕ) → later_mark e row ≡ false → (c : ℕ) → c < cells (shape_in row) → field_of row c Mark ≤ e
later-bounds e row p c h = ltb-false e (field_of row c Mark) (none-under _ (λ k. ltb e (field_of row k Mark)) p c (omega arith))

-- And back.
pub bounds-later : (e : ℕ) (row : List ℕ) → ((c : ℕ) → c < cells (shape_in row) → field_of row c Mark ≤ e) → later_mark e row ≡ false
bounds-later e row bounded =
    under_none (cells (shape_in row)) (λ c. ltb e (field_of row c Mark)) (λ c h. le-ltb e (field_of row c Mark) (bounded c h))

-- No worker under W has a condition that passes the test.
pub none-worker : (s : State) (test : Condition → Bool) → ((w : ℕ) → w < s.workers → test (condition_of s w) ≡ false) → any_worker s test ≡ false
none-worker s test f =
    under_none 8 (λ i. ltb i s.workers && test (condition_of s i)) (λ i h. and-if (ltb i s.workers) (test (condition_of s i)) (λ t. f i (ltb-true i s.workers t)))

-- A state record within its bounds passes.
pub record-fine : (σ : Shape) (s : State) → RecordInv σ s → strays s.dirty σ.lines ≡ false → place_past s.phase s ≡ false →
    ((w : ℕ) → w < s.workers → updates (leb (cells σ)) (condition_of s w) ≡ false) → bad_record s ≡ false
unfolding bad_record
record-fine σ s own n p u =
    let back = sym own.shape in
    or-none _ (any_worker s (updates (leb (cells (shape_of s)))))
    (or-none _ (place_past s.phase s)
    (or-none (outside (shape_of s) s.workers || strays s.dirty s.lines) (held_from s.holders s.workers)
    (or-none (outside (shape_of s) s.workers) (strays s.dirty s.lines)
    (subst (λ (τ : Shape). outside τ s.workers ≡ false) back own.limits)
    (subst (λ (τ : Shape). strays s.dirty τ.lines ≡ false) back n))
    own.holders)
    p)
    (subst (λ (τ : Shape). any_worker s (updates (leb (cells τ))) ≡ false) back (none-worker s (updates (leb (cells σ))) u))

-- Each worker under W is one of the eight.
pub own-seat : {σ : Shape} (s : State) {w : ℕ} → RecordInv σ s → w < s.workers → w < length s.worker
own-seat {σ} s own h = omega (arith, own.eight, (limits-in σ s.workers own.limits).eight)

-- Shapes that are one have one L.
pub same_lines : {σ τ : Shape} → σ ≡ τ → σ.lines ≡ τ.lines
same_lines e = ap (λ (σ : Shape). σ.lines) e

-- What a state record that passes its test has: shape and W within the limits, no bit but of lines 1 to L, no lock's holder past W, its place within bounds.
pub record RecordPasses (s : State) : Type 0 where
  pub limits : outside (shape_of s) s.workers ≡ false
  pub bits : strays s.dirty s.lines ≡ false
  pub holders : held_from s.holders s.workers ≡ false
  pub place : place_past s.phase s ≡ false

pub record-within : (s : State) → bad_record s ≡ false → RecordPasses s
unfolding bad_record
record-within s e =
    let limits = outside (shape_of s) s.workers in
    let bits = strays s.dirty s.lines in
    let held = held_from s.holders s.workers in
    let past = place_past s.phase s in
    let four : limits || bits || held || past ≡ false = or_left (limits || bits || held || past) (any_worker s (updates (leb (cells (shape_of s))))) e in
    let three : limits || bits || held ≡ false = or_left (limits || bits || held) past four in
    let two : limits || bits ≡ false = or_left (limits || bits) held three in
    record { limits = or_left limits bits two; bits = or_right limits bits two; holders = or_right (limits || bits) held three; place = or_right (limits || bits || held) past four }

-- Its W is at most 8.
pub eight-within : (s : State) → bad_record s ≡ false → s.workers ≤ 8
eight-within s e = (limits-in (shape_of s) s.workers (record-within s e).limits).eight

-- Nor has a worker under W an update of a cell that is not there.
pub record-cells : (s : State) → bad_record s ≡ false → (w : ℕ) → w < s.workers → updates (leb (cells (shape_of s))) (condition_of s w) ≡ false
unfolding bad_record
record-cells s e w h =
    let test = updates (leb (cells (shape_of s))) in
    let none : any_worker s test ≡ false = or_right (outside (shape_of s) s.workers || strays s.dirty s.lines || held_from s.holders s.workers || place_past s.phase s) (any_worker s test) e in
    and-not (ltb w s.workers) (test (condition_of s w))
    (none-under 8 (λ i. ltb i s.workers && test (condition_of s i)) none w (omega (arith, eight-within s e)))
    (lt-ltb w s.workers h)
