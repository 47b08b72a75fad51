-- The table of refusals: document 02, ticket 2: going away and coming back, and what a worker that is away means to every other call.
use Rattle.std.specs.Prelude.{◌-◌, ◌^◌, List, [], ◌∷◌, ◌++◌, map}
use Rattle.board.specs.declared.Condition.TheVariants.{Free, Waiting, Away}
use Rattle.board.specs.declared.Phase.TheVariants.{Formatting, Recovering, Running}
use Rattle.board.specs.declared.Call.TheVariants.{Step, Update, RestartPoint, Advance, Request, WriteBack, Read, GoAway, ComeBack, TakeLock}
use Rattle.board.specs.Bench.{Case, answers, from}
use Rattle.board.specs.Refusals.Boards.{gives, gives_on, sound, requested, setting, locking, placed_at, worker, updating, ready, spent, quiet_edges, requested_edges, large_edges, first_three}

-- ---- going away

-- Causes 2, 3 and 4, while 6 and 8 stand: worker 1 is past W and waits. (With 6, 16 cannot stand: a holder past W is cause 3.)
abbrev pub go_first : List Case
go_first = first_three (GoAway 1) (worker 1 Waiting (sound Running 1 1))

-- Cause 6, while 8 stands; a worker from W on that is free; worker 8; the largest number.
abbrev pub go_worker : List Case
go_worker =
    gives 6 (GoAway 1) (worker 1 Waiting (sound Running 1 1))
    ∷ gives 6 (GoAway 1) (sound Running 1 1)
    ∷ gives 6 (GoAway 8) (sound Running 5 8)
    ∷ gives 6 (GoAway (2 ^ 64 - 1)) (sound Running 1 1)
    ∷ []

-- Cause 8, "going away when not free": a worker that waits, one in an update, one that is away; 16 stands too.
abbrev pub go_busy : List Case
go_busy =
    let b = locking 3 1 (sound Running 2 2) in
    gives_on 8 (GoAway 1) (worker 1 Waiting b ∷ updating 1 3 b ∷ worker 1 Away b ∷ [])

-- Cause 16, "held on going away": lock 0, lock 15.
abbrev pub go_lock : List Case
go_lock = gives_on 16 (GoAway 1) (locking 0 1 (sound Running 2 2) ∷ locking 15 1 (sound Running 2 2) ∷ [])

-- Taken: worker W − 1; others in an update, waiting or away, or holding locks; on the records just within, with a request and in the middle of a checkpoint too: 13 is none of its causes.
abbrev pub go_taken : List Case
go_taken =
    gives 0 (GoAway 7) (sound Running 5 8)
    ∷ gives 0 (GoAway 1) (locking 2 0 (updating 0 2 (sound Running 2 2)))
    ∷ gives 0 (GoAway 2) (worker 0 Waiting (worker 1 Away (sound Running 2 3)))
    ∷ gives_on 0 (GoAway 0) (quiet_edges ++ (requested_edges ++ large_edges))

-- ---- coming back

-- Causes 2, 3 and 4, while 6, 8 and 13 stand: worker 1 is past W and waits, and a checkpoint has taken a step.
abbrev pub come_first : List Case
come_first = first_three (ComeBack 1) (placed_at 1 (requested (worker 1 Waiting (sound Running 1 1))))

-- Cause 6, while 8 and 13 stand, and while 13 stands alone: a worker from W on that is away; worker 8; the largest number.
abbrev pub come_worker : List Case
come_worker =
    gives 6 (ComeBack 1) (placed_at 1 (requested (worker 1 Waiting (sound Running 1 1))))
    ∷ gives 6 (ComeBack 1) (placed_at 1 (requested (worker 1 Away (sound Running 1 1))))
    ∷ gives 6 (ComeBack 1) (worker 1 Away (sound Running 1 1))
    ∷ gives 6 (ComeBack 8) (sound Running 5 8)
    ∷ gives 6 (ComeBack (2 ^ 64 - 1)) (sound Running 1 1)
    ∷ []

-- Cause 8, "coming back when not away", while 13 stands and while it does not: a worker that is free, one that waits, one in an update; another worker is away.
abbrev pub come_not_away : List Case
come_not_away =
    let b = worker 0 Away (sound Running 2 2) in
    let begun = placed_at 1 (requested b) in
    gives_on 8 (ComeBack 1) (begun ∷ worker 1 Waiting begun ∷ updating 1 3 begun ∷ b ∷ worker 1 Waiting b ∷ updating 1 3 b ∷ [])

-- Cause 13: after the epoch's store with no line dirty, before the release, after the one line, before the release of one; the eighth worker.
abbrev pub come_begun : List Case
come_begun =
    let b = worker 0 Away (requested (sound Running 1 1)) in
    gives_on 13 (ComeBack 0) (placed_at 1 b ∷ placed_at 2 b ∷ setting 1 (placed_at 1 b) ∷ setting 1 (placed_at 3 b) ∷ [])
    ++ (gives 13 (ComeBack 7) (placed_at 1 (worker 7 Away (ready 5 8))) ∷ [])

-- Taken: with a request before its first step; with none at any place, on the records just within; worker W − 1; others in an update, waiting or away; in the last epoch.
abbrev pub come_taken : List Case
come_taken =
    gives 0 (ComeBack 0) (requested (worker 0 Away (sound Running 1 1)))
    ∷ gives 0 (ComeBack 0) (setting 1 (requested (worker 0 Away (sound Running 1 1))))
    ∷ gives 0 (ComeBack 7) (worker 7 Away (ready 5 8))
    ∷ gives 0 (ComeBack 1) (updating 0 2 (worker 1 Away (sound Running 2 2)))
    ∷ gives 0 (ComeBack 1) (worker 0 Away (worker 1 Away (spent (sound Running 2 2))))
    ∷ gives_on 0 (ComeBack 0) (map (worker 0 Away) (quiet_edges ++ large_edges))

-- ---- every other call

-- A worker that is away is neither free nor in an update: cause 8 of update (9 stands too), restart point (9 too) and advance, though a line be dirty.
abbrev pub away_busy : List Case
away_busy =
    gives 8 (Update 1 2 7) (updating 0 2 (worker 1 Away (sound Running 2 2)))
    ∷ gives 8 (RestartPoint 1 3) (updating 0 1 (worker 1 Away (sound Running 2 2)))
    ∷ gives 8 (Advance 0) (worker 0 Away (sound Running 1 1))
    ∷ gives 8 (Advance 0) (setting 1 (worker 0 Away (sound Running 1 1)))
    ∷ []

-- "away counts as waiting" in cause 10: taken where the one worker is away, one of eight, all of two; at places n+1 and n+2; and whatever a worker from W on does.
-- Turned down by 10 where all are away and none requested, and where one is away and another free or in an update; by 11 at the last epoch's store.
abbrev pub away_steps : List Case
away_steps =
    gives 0 Step (worker 0 Away (ready 1 1))
    ∷ gives 0 Step (worker 3 Away (ready 5 8))
    ∷ gives 0 Step (worker 0 Away (worker 1 Away (ready 2 2)))
    ∷ gives 0 Step (placed_at 1 (worker 0 Away (ready 1 1)))
    ∷ gives 0 Step (placed_at 2 (worker 0 Away (ready 1 1)))
    ∷ gives 0 Step (worker 1 Away (ready 1 1))
    ∷ gives 10 Step (worker 0 Away (sound Running 1 1))
    ∷ gives 10 Step (worker 0 Away (worker 1 Free (ready 2 2)))
    ∷ gives 10 Step (worker 1 Away (updating 0 2 (ready 2 2)))
    ∷ gives 11 Step (worker 0 Away (spent (ready 1 1)))
    ∷ []

-- Taken beside a worker that is away: an update and a restart point of another, its advance, a request, a write-back, a read.
abbrev pub away_beside : List Case
away_beside =
    let b = worker 0 Away (sound Running 2 2) in
    gives 0 (Update 1 2 7) (locking 2 1 b) ∷ gives 0 (RestartPoint 1 3) b ∷ gives 0 (Advance 1) (updating 1 2 b) ∷ gives 0 Request b ∷ gives 0 (WriteBack 2) b ∷ gives 0 (Read 3) b ∷ []

-- ---- what the calls leave

-- Gone away with a request standing, the worker holds the checkpoint up no more; come back, it is free and holds it up again. A release leaves it away: it can come back and not update.
-- The end of a recovery or of a format frees it.
abbrev pub away_left : List Case
away_left =
    from 0 (requested (sound Running 1 1)) (GoAway 0 ∷ []) (answers Step 0 ∷ answers (Update 0 1 7) 8 ∷ [])
    ∷ from 10 (requested (worker 0 Away (sound Running 1 1))) (ComeBack 0 ∷ []) (answers Step 10 ∷ answers (TakeLock 0 1) 0 ∷ [])
    ∷ from 8 (placed_at 2 (worker 0 Away (ready 1 1))) (Step ∷ []) (answers (Update 0 1 7) 8 ∷ answers (ComeBack 0) 0 ∷ [])
    ∷ from 0 (placed_at 1 (worker 0 Away (sound Recovering 1 1))) (Step ∷ []) (answers (TakeLock 0 1) 0 ∷ answers (ComeBack 0) 8 ∷ [])
    ∷ from 0 (placed_at 2 (worker 0 Away (sound Formatting 1 1))) (Step ∷ []) (answers (TakeLock 0 1) 0 ∷ answers (ComeBack 0) 8 ∷ [])
    ∷ []
