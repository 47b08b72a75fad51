-- A call of a running board leaves every worker that it does not name in its condition.
use Prim.Native.Nat.{ℕ, ◌+◌}
use mathlib.Core.Path.{◌≡◌, refl, sym, ap, ◌∙◌}
use mathlib.Core.List.{List}
use mathlib.Core.Bool.{false, true≢false}
use native.Mathlib.Omega.{arith}
use lib.Dec.{eqb}
use lib.ListN.{length}
use borrow.Author.Tests.{eqb-false}
use Rattle.board.specs.declared.Condition.{Condition}
use Rattle.board.specs.declared.Condition.TheVariants.{Free, Waiting, Updating, Away}
use Rattle.board.specs.declared.Store.{Store}
use Rattle.board.specs.declared.Store.TheVariants.{Backup, Mark, Record}
use Rattle.board.specs.declared.Phase.TheVariants.{Running}
use Rattle.board.specs.declared.Call.{Call}
use Rattle.board.specs.declared.Call.TheVariants.{Step}
use Rattle.board.specs.Board.{Board}
use Rattle.board.specs.State.{condition_of, dirty_count}
use Rattle.board.specs.Effects.{perform_act, perform_first, first_store, after_last, advance, advance_of, effect}
use Rattle.board.specs.Checkpoint.{Act, acts}
use Rattle.board.specs.Next.{Taken, kind, is_start}
use Rattle.board.specs.Steps.{names, OthersStay}
use Rattle.predicate.proofs.Bools.{chosen}
use Rattle.board.proofs.Laws.Taken.{taken_next, ByEffect, quiet, the_format, the_recovery, the_step, the_update, the_restart, the_advance, the_request, the_write_back, the_going, the_coming, the_taking, the_giving, by-effect}
use Rattle.board.proofs.Laws.Workers.{condition-other}
use Rattle.board.proofs.Checkpoint.Acts.{Remains, line_next, epoch_next, header_next, release_next, acts-length, effect-acts, Stepping, step-ready}

-- ---- a checkpoint's step

-- Before the release a step keeps the workers.
step_keeps : (b : Board) → b.state.phase ≡ Running → Taken Step b → (b.state.place ≡ dirty_count b.state + 2 → ⊥) → (i : ℕ) →
    condition_of (effect Step b).state i ≡ condition_of b.state i
unfolding perform_act perform_first
step_keeps b e t o i = go now.left refl
  where
    now : Stepping b
    now = step-ready b e t

    kept : {xs : List Act} → acts b ≡ xs → condition_of (perform_first xs b.state b).state i ≡ condition_of b.state i →
        condition_of (effect Step b).state i ≡ condition_of b.state i
    kept p same = ap (λ (d : Board). condition_of d.state i) (effect-acts b e p) ∙ same

    go : {xs : List Act} → Remains b xs → acts b ≡ xs → condition_of (effect Step b).state i ≡ condition_of b.state i
    go (line_next later low three) p = kept p refl
    go epoch_next p = kept p refl
    go header_next p = kept p refl
    go release_next p = absurd (o (omega (arith, ap length p, acts-length b, chosen b.state.requested b.state.place 0 now.request)))

-- ---- calls of a worker

-- An advance by its next store.
advance-keeps : (n : Store) (w c v : ℕ) (b : Board) (i : ℕ) → (w ≡ i → ⊥) → condition_of (advance n w c v b.state b).state i ≡ condition_of b.state i
unfolding advance
advance-keeps Backup w c v b i o = condition-other b.state w (Updating Mark c v) i o
advance-keeps Mark w c v b i o = condition-other b.state w (Updating Record c v) i o
advance-keeps Record w c v b i o = condition-other b.state w (after_last b.state c) i o

-- An advance of a worker in any condition.
advances-keep : (k : Condition) (w : ℕ) (b : Board) (i : ℕ) → (w ≡ i → ⊥) → condition_of (advance_of k w b.state b).state i ≡ condition_of b.state i
unfolding advance_of
advances-keep Free w b i o = refl
advances-keep Waiting w b i o = refl
advances-keep (Updating n c v) w b i o = advance-keeps n w c v b i o
advances-keep Away w b i o = refl

-- ---- every call

-- A worker that is not named is another one.
unnamed : (i w : ℕ) → eqb i w ≡ false → w ≡ i → ⊥
unnamed i w e p = eqb-false i w e (sym p)

-- What a taken call does to a worker that it does not name.
effect-keeps : {k : Call} → ByEffect k → (b : Board) → b.state.phase ≡ Running → Taken k b → is_start (kind k) ≡ false →
    (k ≡ Step → b.state.place ≡ dirty_count b.state + 2 → ⊥) → (i : ℕ) → names k i ≡ false →
    condition_of (effect k b).state i ≡ condition_of b.state i
unfolding effect
effect-keeps (quiet q) b e t s o i n = ap (λ (d : Board). condition_of d.state i) (q.leaves b)
effect-keeps (the_format l w) b e t s o i n = absurd (true≢false s)
effect-keeps the_recovery b e t s o i n = absurd (true≢false s)
effect-keeps the_step b e t s o i n = step_keeps b e t (o refl) i
effect-keeps (the_update w c v) b e t s o i n = condition-other b.state w (Updating (first_store b.cache c) c v) i (unnamed i w n)
effect-keeps (the_restart w v) b e t s o i n = condition-other b.state w (Updating (first_store b.cache w) w v) i (unnamed i w n)
effect-keeps (the_advance w) b e t s o i n = advances-keep (condition_of b.state w) w b i (unnamed i w n)
effect-keeps the_request b e t s o i n = refl
effect-keeps (the_write_back l) b e t s o i n = refl
effect-keeps (the_going w) b e t s o i n = condition-other b.state w Away i (unnamed i w n)
effect-keeps (the_coming w) b e t s o i n = condition-other b.state w Free i (unnamed i w n)
effect-keeps (the_taking w k) b e t s o i n = refl
effect-keeps (the_giving w k) b e t s o i n = refl

-- A call leaves the others in their conditions.
pub others-stay : OthersStay
others-stay k b e t s o i n = ap (λ (d : Board). condition_of d.state i) (taken_next k b t) ∙ effect-keeps (by-effect k) b e t s o i n
