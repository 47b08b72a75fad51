-- A checkpoint's step: what is left of its acts, by the first of them, and what the machine sees of it.
use Prim.Native.Nat.{ℕ, zero, suc, ◌+◌, ◌-◌, ◌≤◌, ◌<◌}
use mathlib.Core.Path.{◌≡◌, refl, sym, ap, subst, ◌∙◌}
use mathlib.Core.Logic.{◌⊎◌, inl, inr, ⊎_elim}
use mathlib.Core.List.Memᴰ
use mathlib.Core.List.{List, [], ◌∷◌, map, Memᴰ}
use mathlib.Core.Bool.{Bool, true, false, cond, not, ◌&&◌, ◌||◌, true≢false}
use native.Mathlib.Omega.{arith}
use native.Mathlib.Decide.{dec_lt, ℕ_discrete}
use lib.Dec.{ltb, eqb}
use lib.ListN.{length, get_or, drop, length-map, length-append, length-drop, get_or-append}
use lib.Seq.{get_or-append-add, drop-cons, drop-drop, drop-append-add}
use borrow.Author.Tests.{ltb-false, lt-ltb, eq-eqb, ne_eqb}
use Rattle.predicate.specs.Passing.{count_under, numbers_under}
use Rattle.predicate.proofs.Bools.{chosen, passed_over, or_left, or_right, and-not, and-off-right, not-off, not_on_lem}
use Rattle.predicate.proofs.Passing.{none-under, count_less, nth-found, nth-one}
use Rattle.predicate.proofs.Rising.{under-length, under_at}
use Rattle.bitset.specs.Words.{capacity, contains, nth}
use Rattle.bitset.proofs.Words.{size-count}
use Rattle.board.specs.declared.Phase.{Phase}
use Rattle.board.specs.declared.Phase.TheVariants.{Running}
use Rattle.board.specs.declared.Call.TheVariants.{Step}
use Rattle.board.specs.Board.{Board}
use Rattle.board.specs.State.{condition_of, quiescent, any_worker, is_running, placed, dirty_count}
use Rattle.board.specs.Checkpoint.{Act, write_line, store_epoch, write_header, release, line_acts, last_acts, planned, progress, acts, stores_epoch}
use Rattle.board.specs.Causes.{causes, place_past}
use Rattle.board.specs.Effects.{perform_act, perform_first, step, effect}
use Rattle.board.specs.Machine.{Machine, marked_count, counted, completed, dropped, checkpoint_step, stepped, beginning, finishes_format, feed}
use Rattle.board.specs.Sequence.{Run}
use Rattle.board.proofs.Invariant.{AllQuiescent}
use Rattle.board.proofs.Laws.Taken.{stands_at, passed, after_taken, record-within, eight-within}
use Rattle.board.specs.Next.{Taken}

-- ---- the acts by their places

-- There is one act a dirty line.
line-acts-length : (b : Board) → length (line_acts b) ≡ dirty_count b.state
line-acts-length b = length-map (numbers_under (dirty_count b.state)) (λ p. write_line (nth b.state.dirty p)) ∙ under-length (dirty_count b.state)

-- "With n entries that is n+3 steps."
pub planned-length : (b : Board) → length (planned b) ≡ dirty_count b.state + 3
planned-length b = length-append (line_acts b) last_acts ∙ omega (arith, line-acts-length b)

-- So many are left as were not taken.
pub acts-length : (b : Board) → length (acts b) ≡ dirty_count b.state + 3 - progress b.state
unfolding acts
acts-length b = length-drop (progress b.state) (planned b) ∙ ap (λ (n : ℕ). n - progress b.state) (planned-length b)

-- At a place before the epoch's store stands the write-back of the dirty line of that rank.
planned-line : (b : Board) (p : ℕ) → p < dirty_count b.state → get_or (planned b) p release ≡ write_line (nth b.state.dirty p)
planned-line b p h =
    let f : ℕ → Act = λ k. write_line (nth b.state.dirty k) in
    let ns = numbers_under (dirty_count b.state) in
    get_or-append (line_acts b) last_acts release p (omega (arith, line-acts-length b))
    ∙ map_at f ns p (omega (arith, under-length (dirty_count b.state)))
    ∙ ap f (under_at (dirty_count b.state) p h)
  where
    map_at : (f : ℕ → Act) (ns : List ℕ) (k : ℕ) → k < length ns → get_or (map f ns) k release ≡ f (get_or ns k 0)
    map_at f [] k h = absurd (omega arith)
    map_at f (n ∷ ns) zero h = refl
    map_at f (n ∷ ns) (suc k) h = map_at f ns k (omega arith)

-- ---- what is left

-- What is left of a checkpoint, by the act that comes next.
pub data Remains (b : Board) : List Act → Type 0 where
  line_next : (later : List Act) → progress b.state < dirty_count b.state → 3 ≤ length later →
      Remains b (write_line (nth b.state.dirty (progress b.state)) ∷ later)
  epoch_next : Remains b (store_epoch ∷ write_header ∷ release ∷ [])
  header_next : Remains b (write_header ∷ release ∷ [])
  release_next : Remains b (release ∷ [])

-- Something is left up to the release.
pub remains : (b : Board) → 0 < length (acts b) → Remains b (acts b)
unfolding acts
remains b h =
    elim (dec_lt p n) [
      | yes q ↦
          let later = drop (suc p) (planned b) in
          subst (Remains b) (sym (drop-cons (planned b) p release (omega (arith, planned-length b)) ∙ ap {B = List Act} (λ (a : Act). a ∷ later) (planned-line b p q)))
          (line_next later q (omega (arith, planned-length b, length-drop (suc p) (planned b))))
      | no o ↦ behind (p - n) (omega arith) (omega (arith, planned-length b, length-drop p (planned b)))
    ]
  where
    p : ℕ
    p = progress b.state

    n : ℕ
    n = dirty_count b.state

    -- Behind the dirty lines the last three acts are left, or some of them.
    dropped-last : (k : ℕ) → n + k ≡ p → drop p (planned b) ≡ drop k last_acts
    dropped-last k e =
        ap (λ (i : ℕ). drop i (planned b)) (let q : p ≡ length (line_acts b) + k = omega (arith, line-acts-length b) in q)
        ∙ drop-append-add (line_acts b) last_acts k

    behind : (k : ℕ) → n + k ≡ p → k < 3 → Remains b (drop p (planned b))
    behind zero e l = subst (Remains b) (sym (dropped-last 0 e)) epoch_next
    behind (suc zero) e l = subst (Remains b) (sym (dropped-last 1 e)) header_next
    behind (suc (suc zero)) e l = subst (Remains b) (sym (dropped-last 2 e)) release_next
    behind (suc (suc (suc k))) e l = absurd (omega arith)

-- THE LAW of the list: an act that goes on to the next place leaves the rest.
pub acts-next : (b : Board) {a : Act} {later : List Act} (memory cache : List ℕ) → b.state.requested ≡ true → acts b ≡ a ∷ later →
    acts (record { state = placed b.state (b.state.place + 1) b.state.undo; memory = memory; cache = cache }) ≡ later
unfolding acts
acts-next b memory cache on e =
    let s = b.state in
    ap (λ (k : ℕ). drop k (planned b)) (chosen s.requested (s.place + 1) 0 on ∙ sym (ap (λ (k : ℕ). k + 1) (chosen s.requested s.place 0 on)))
    ∙ sym (drop-drop 1 (progress s) (planned b))
    ∙ ap (drop 1) e

-- What stands at a place of a list is in it.
at-member : (xs : List Act) {a : Act} (k : ℕ) → k < length xs → get_or xs k release ≡ a → Memᴰ a xs
at-member [] k h e = absurd (omega arith)
at-member (x ∷ xs) zero h e = Memᴰ.head (sym e)
at-member (x ∷ xs) (suc k) h e = Memᴰ.tail (at-member xs k (omega arith) e)

-- Before the first step every dirty line is to be written.
pub dirty-pending : (b : Board) (i : ℕ) → progress b.state ≡ 0 → contains b.state.dirty i ≡ true → i < capacity → Memᴰ (write_line i) (acts b)
unfolding acts nth
dirty-pending b i z t h =
    let f = contains b.state.dirty in
    let rank = count_under i f in
    let under = count_less i capacity f h t in
    let low : rank < dirty_count b.state = omega (arith, size-count b.state.dirty) in
    let found : nth b.state.dirty rank ≡ i = sym (nth-one {n = capacity} {m = capacity} f i (nth b.state.dirty rank) (record { passes = t; rank = refl; within = h }) (nth-found capacity f rank under)) in
    subst (λ (k : ℕ). Memᴰ (write_line i) (drop k (planned b))) (sym z)
    (at-member (planned b) rank (omega (arith, planned-length b)) (planned-line b rank low ∙ ap write_line found))

-- None is, once the epoch's store comes next.
pub none-pending : (i : ℕ) → Memᴰ (write_line i) (store_epoch ∷ write_header ∷ release ∷ []) → ⊥
none-pending i m = ⊎_elim (λ (e : write_line i ≡ store_epoch). not_line store_epoch refl e) (λ n. ⊎_elim (λ (e : write_line i ≡ write_header). not_line write_header refl e) (λ k. not_line release refl (Memᴰ.eq_of_singleton k)) (Memᴰ.cases_cons n)) (Memᴰ.cases_cons m)
  where
    is_line : Act → Bool
    is_line (write_line l) = true
    is_line store_epoch = false
    is_line write_header = false
    is_line release = false

    not_line : (a : Act) → is_line a ≡ false → write_line i ≡ a → ⊥
    not_line a off e = true≢false (ap is_line e ∙ off)

-- A write-back that is to come is the next act's, or a later one's.
pub pending_next : (i l : ℕ) (later : List Act) → Memᴰ (write_line i) (write_line l ∷ later) → (i ≡ l) ⊎ Memᴰ (write_line i) later
pending_next i l later m = ⊎_elim (λ (e : write_line i ≡ write_line l). inl (ap line_in e)) inr (Memᴰ.cases_cons m)
  where
    line_in : Act → ℕ
    line_in (write_line k) = k
    line_in store_epoch = 0
    line_in write_header = 0
    line_in release = 0

-- ---- the machine's step

-- Up to the epoch's store the machine counts the step.
pub machine-counts : (m : Machine) → m.steps ≤ marked_count m → checkpoint_step m ≡ counted m
unfolding checkpoint_step
machine-counts m h =
    passed_over (eqb (m.steps + 1) (marked_count m + 2)) _ _ (ne_eqb (m.steps + 1) (marked_count m + 2) (λ q. omega arith))
    ∙ passed_over (eqb (m.steps + 1) (marked_count m + 3)) _ _ (ne_eqb (m.steps + 1) (marked_count m + 3) (λ q. omega arith))

-- At line 0's write-back it completes the checkpoint.
pub machine-completes : (m : Machine) → m.steps ≡ marked_count m + 1 → checkpoint_step m ≡ completed (counted m)
unfolding checkpoint_step
machine-completes m e = chosen (eqb (m.steps + 1) (marked_count m + 2)) _ _ (eq-eqb (m.steps + 1) (marked_count m + 2) (omega arith))

-- At the release it drops marks and request.
pub machine-drops : (m : Machine) → m.steps ≡ marked_count m + 2 → checkpoint_step m ≡ dropped (counted m)
unfolding checkpoint_step
machine-drops m e =
    passed_over (eqb (m.steps + 1) (marked_count m + 2)) _ _ (ne_eqb (m.steps + 1) (marked_count m + 2) (λ q. omega arith))
    ∙ chosen (eqb (m.steps + 1) (marked_count m + 3)) _ _ (eq-eqb (m.steps + 1) (marked_count m + 3) (omega arith))

-- ---- the step of a running board

-- The board after a running board's step.
pub effect-acts : (b : Board) {xs : List Act} → b.state.phase ≡ Running → acts b ≡ xs → effect Step b ≡ perform_first xs b.state b
unfolding effect step
effect-acts b e q = ap (λ (p : Phase). step p b.state b) e ∙ ap (λ (xs : List Act). perform_first xs b.state b) q

-- The run after an act, with the machine given.
abbrev pub acted : Run → Act → Machine → Run
acted r act m =
    record { board = perform_act act r.board.state r.board; machine = m; crashed = r.crashed && true; erased = r.erased }

-- The run after a step of a requested checkpoint.
pub step-acts : (r : Run) {act : Act} {later : List Act} → r.board.state.phase ≡ Running → r.machine.requested ≡ true →
    acts r.board ≡ act ∷ later → after_taken Step r ≡ acted r act (checkpoint_step r.machine)
unfolding feed stepped perform_first
step-acts r {act} e on a =
    let m = r.machine in
    let p : effect Step r.board ≡ perform_act act r.board.state r.board = effect-acts r.board e a in
    let q : feed Step m ≡ checkpoint_step m = chosen m.requested (checkpoint_step m) (cond (finishes_format m) (beginning m.shape) (counted m)) on in
    let u : cond (m.formatting && not m.requested) (not (finishes_format m)) r.erased ≡ r.erased = passed_over (m.formatting && not m.requested) (not (finishes_format m)) r.erased (and-off-right m.formatting (not m.requested) (not_on_lem m.requested on)) in
    λ i. record { board = p i; machine = q i; crashed = r.crashed && true; erased = u i }

-- What a taken step of a running board finds: a request, all workers waiting or away, and something left to do.
pub record Stepping (b : Board) : Type 0 where
  pub request : b.state.requested ≡ true
  pub waiting : AllQuiescent b.state
  pub left : Remains b (acts b)

pub step-ready : (b : Board) → b.state.phase ≡ Running → Taken Step b → Stepping b
unfolding stands_at causes
step-ready b e t =
    let s = b.state in
    let fine = passed Step b t 3 in
    let unready = not s.requested || any_worker s (λ d. not (quiescent d)) in
    let idle = and-not (is_running s.phase) unready (passed Step b t 10) (ap is_running e) in
    let on : s.requested ≡ true = not-off s.requested (or_left (not s.requested) (any_worker s (λ d. not (quiescent d))) idle) in
    let within = ltb-false (dirty_count s + 2) s.place (and-not s.requested (ltb (dirty_count s + 2) s.place) (subst (λ (p : Phase). place_past p s ≡ false) e (record-within s fine).place) on) in
    record {
      request = on;
      waiting = λ w h. not-off (quiescent (condition_of s w))
          (and-not (ltb w s.workers) (not (quiescent (condition_of s w)))
          (none-under 8 (λ i. ltb i s.workers && not (quiescent (condition_of s i))) (or_right (not s.requested) (any_worker s (λ d. not (quiescent d))) idle) w (omega (arith, eight-within s fine)))
          (lt-ltb w s.workers h));
      left = remains b (omega (arith, acts-length b, chosen s.requested s.place 0 on));
    }

-- ---- the next act, by the place of a requested checkpoint

-- Behind the dirty lines the last three acts stand.
planned-end : (b : Board) (k p : ℕ) → p ≡ dirty_count b.state + k → get_or (planned b) p release ≡ get_or last_acts k release
planned-end b k p e =
    ap (λ (i : ℕ). get_or (planned b) i release) (let q : p ≡ length (line_acts b) + k = omega (arith, line-acts-length b) in q)
    ∙ get_or-append-add (line_acts b) last_acts k release

module _ (b : Board) (on : b.state.requested ≡ true) where
  -- What is left begins with the act that stands at the place.
  acts-here : b.state.place ≤ dirty_count b.state + 2 → acts b ≡ get_or (planned b) b.state.place release ∷ drop (suc b.state.place) (planned b)
  unfolding acts
  acts-here h =
      ap (λ (p : ℕ). drop p (planned b)) (chosen b.state.requested b.state.place 0 on)
      ∙ drop-cons (planned b) b.state.place release (omega (arith, planned-length b))

  -- So a step performs it.
  first-here : {a : Act} → b.state.place ≤ dirty_count b.state + 2 → get_or (planned b) b.state.place release ≡ a →
      perform_first (acts b) b.state b ≡ perform_act a b.state b
  unfolding perform_first
  first-here h e = ap (λ (xs : List Act). perform_first xs b.state b) (acts-here h) ∙ ap (λ (a : Act). perform_act a b.state b) e

  -- Before the epoch's store a dirty line is written back.
  pub first-line : b.state.place < dirty_count b.state →
      perform_first (acts b) b.state b ≡ perform_act (write_line (nth b.state.dirty b.state.place)) b.state b
  first-line h = first-here (omega arith) (planned-line b b.state.place h)

  -- Behind the dirty lines the epoch is stored.
  pub first-epoch : b.state.place ≡ dirty_count b.state → perform_first (acts b) b.state b ≡ perform_act store_epoch b.state b
  first-epoch e = first-here (omega arith) (planned-end b 0 b.state.place (omega arith))

  -- Then line 0 is written back.
  pub first-header : b.state.place ≡ dirty_count b.state + 1 → perform_first (acts b) b.state b ≡ perform_act write_header b.state b
  first-header e = first-here (omega arith) (planned-end b 1 b.state.place e)

  -- Then the workers are released.
  pub first-release : b.state.place ≡ dirty_count b.state + 2 → perform_first (acts b) b.state b ≡ perform_act release b.state b
  first-release e = first-here (omega arith) (planned-end b 2 b.state.place e)

  -- The epoch's store comes next at the place behind the dirty lines alone.
  pub epoch-next : stores_epoch (acts b) ≡ eqb b.state.place (dirty_count b.state)
  unfolding stores_epoch
  epoch-next =
      elim (ℕ_discrete (length (acts b)) 0) [
        | yes z ↦ nothing_left (acts b) z ∙ sym (ne_eqb b.state.place (dirty_count b.state) (λ e. omega (arith, left_here)))
        | no o ↦ by (remains b (omega arith)) left_here
      ]
    where
      -- as many are left as places from here to the release
      left_here : length (acts b) ≡ dirty_count b.state + 3 - b.state.place
      left_here = acts-length b ∙ ap (λ (p : ℕ). dirty_count b.state + 3 - p) (chosen b.state.requested b.state.place 0 on)

      nothing_left : (xs : List Act) → length xs ≡ 0 → stores_epoch xs ≡ false
      nothing_left [] e = refl
      nothing_left (a ∷ later) e = absurd (omega (arith, e))

      by : {xs : List Act} → Remains b xs → length xs ≡ dirty_count b.state + 3 - b.state.place →
          stores_epoch xs ≡ eqb b.state.place (dirty_count b.state)
      by (line_next later low three) e = sym (ne_eqb b.state.place (dirty_count b.state) (λ q. omega (arith, e)))
      by epoch_next e = sym (eq-eqb b.state.place (dirty_count b.state) (omega (arith, e)))
      by header_next e = sym (ne_eqb b.state.place (dirty_count b.state) (λ q. omega (arith, e)))
      by release_next e = sym (ne_eqb b.state.place (dirty_count b.state) (λ q. omega (arith, e)))
