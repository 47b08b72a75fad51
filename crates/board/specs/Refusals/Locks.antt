-- The table of refusals: document 02, ticket 6: taking a lock and giving it back, and what a lock's holder means to every call.
use Rattle.std.specs.Prelude.{◌+◌, ◌-◌, ◌*◌, ◌^◌, List, [], ◌∷◌, ◌++◌, map}
use Rattle.board.specs.declared.Condition.TheVariants.{Waiting, Updating, Away}
use Rattle.board.specs.declared.Store.TheVariants.{Mark, Record}
use Rattle.board.specs.declared.Phase.TheVariants.{Formatting, Recovering, Running}
use Rattle.board.specs.declared.Call.TheVariants.{FormatStart, RecoveryStart, Step, Update, Advance, WriteBack, Count, TakeLock, GiveBackLock}
use Rattle.board.specs.Bench.{Case, answers, holders, from}
use Rattle.board.specs.Refusals.Boards.{gives, gives_on, sound, locking, placed_at, worker, updating, ready, quiet_edges, requested_edges, large_edges, first_three}

-- ---- taking

-- Causes 2, 3 and 4, while 6, 15 and 8 stand: worker 1 is past W and waits.
abbrev pub take_first : List Case
take_first = first_three (TakeLock 1 16) (worker 1 Waiting (sound Running 1 1))

-- Cause 6, while 15 and 8 stand, and while 8 and 16 do; worker 8; the largest number.
abbrev pub take_worker : List Case
take_worker =
    gives 6 (TakeLock 1 16) (worker 1 Waiting (sound Running 1 1))
    ∷ gives 6 (TakeLock 1 3) (locking 3 0 (worker 1 Waiting (sound Running 1 1)))
    ∷ gives 6 (TakeLock 8 0) (sound Running 5 8)
    ∷ gives 6 (TakeLock (2 ^ 64 - 1) 0) (sound Running 1 1)
    ∷ []

-- Cause 15, "a lock number of 16 or more", while 8 stands; where the lock of its number mod 16 is held; the largest number.
abbrev pub take_number : List Case
take_number =
    gives 15 (TakeLock 0 16) (worker 0 Waiting (sound Running 1 1))
    ∷ gives 15 (TakeLock 0 17) (locking 1 0 (sound Running 1 1))
    ∷ gives 15 (TakeLock 0 (2 ^ 64 - 1)) (sound Running 1 1)
    ∷ []

-- Cause 8: a worker that waits, one in an update, one that is away; 16 stands too, the lock being another's or its own.
abbrev pub take_busy : List Case
take_busy =
    let b = locking 3 0 (sound Running 2 2) in
    gives_on 8 (TakeLock 1 3) (worker 1 Waiting b ∷ updating 1 2 b ∷ worker 1 Away b ∷ updating 1 3 (locking 3 1 b) ∷ [])

-- Cause 16, "taken and not free": another's lock, one's own; lock 0, lock 15, all eight workers there.
abbrev pub take_held : List Case
take_held =
    gives 16 (TakeLock 1 3) (locking 3 0 (sound Running 2 2))
    ∷ gives 16 (TakeLock 1 3) (locking 3 1 (sound Running 2 2))
    ∷ gives 16 (TakeLock 7 0) (locking 0 0 (sound Running 5 8))
    ∷ gives 16 (TakeLock 0 15) (locking 15 7 (sound Running 5 8))
    ∷ []

-- Taken: locks 0 and 15; worker W − 1; a second lock beside a first; while the locks around it are held and others update or are away; on the records just within, in the middle of a checkpoint too.
abbrev pub take_taken : List Case
take_taken =
    gives 0 (TakeLock 0 0) (sound Running 1 1)
    ∷ gives 0 (TakeLock 7 15) (sound Running 5 8)
    ∷ gives 0 (TakeLock 1 3) (locking 2 1 (locking 4 0 (updating 0 3 (sound Running 2 2))))
    ∷ gives 0 (TakeLock 1 3) (worker 0 Away (sound Running 2 2))
    ∷ gives_on 0 (TakeLock 0 1) (quiet_edges ++ (requested_edges ++ large_edges))

-- ---- giving back

-- Causes 2, 3 and 4, while 6 and 15 stand, and 16: worker 1 is past W.
abbrev pub give_first : List Case
give_first = first_three (GiveBackLock 1 16) (sound Running 1 1)

-- Cause 6, while 15 and 16 stand, and while 8 and 16 do; worker 8; the largest number.
abbrev pub give_worker : List Case
give_worker =
    gives 6 (GiveBackLock 1 16) (sound Running 1 1)
    ∷ gives 6 (GiveBackLock 1 1) (updating 1 1 (sound Running 1 1))
    ∷ gives 6 (GiveBackLock 8 0) (sound Running 5 8)
    ∷ gives 6 (GiveBackLock (2 ^ 64 - 1) 0) (sound Running 1 1)
    ∷ []

-- Cause 15, while 16 stands; where the lock of its number mod 16 is this worker's; the largest number.
abbrev pub give_number : List Case
give_number =
    gives 15 (GiveBackLock 0 16) (sound Running 1 1)
    ∷ gives 15 (GiveBackLock 0 17) (locking 1 0 (sound Running 1 1))
    ∷ gives 15 (GiveBackLock 0 (2 ^ 64 - 1)) (sound Running 1 1)
    ∷ []

-- Cause 8, "when none of its updates under it is unfinished, else 8": before each of the three stores; cell 18 too lies under lock 2; while 16 stands.
abbrev pub give_updating : List Case
give_updating =
    let b = locking 2 1 (sound Running 16 2) in
    gives_on 8 (GiveBackLock 1 2)
    (updating 1 2 b ∷ worker 1 (Updating Mark 2 5) b ∷ worker 1 (Updating Record 2 5) b ∷ updating 1 18 b ∷ updating 1 2 (sound Running 2 2) ∷ updating 1 2 (locking 2 0 (sound Running 2 2)) ∷ [])

-- Cause 16, "given back and not held": a free lock, another's, by a worker that holds the locks around it; by one that waits or is away.
abbrev pub give_not_held : List Case
give_not_held =
    gives_on 16 (GiveBackLock 1 2)
    (sound Running 2 2 ∷ locking 2 0 (sound Running 2 2) ∷ locking 1 1 (locking 3 1 (sound Running 2 2)) ∷ worker 1 Waiting (sound Running 2 2) ∷ worker 1 Away (sound Running 2 2) ∷ [])

-- Taken: locks 0 and 15; worker W − 1; in the middle of an update under another lock, cell 10 being one of lock 10, and of a restart point, whose cell lies under none; whatever others update; on the records just within.
abbrev pub give_taken : List Case
give_taken =
    gives 0 (GiveBackLock 0 0) (locking 0 0 (sound Running 1 1))
    ∷ gives 0 (GiveBackLock 7 15) (locking 15 7 (sound Running 5 8))
    ∷ gives 0 (GiveBackLock 1 2) (locking 2 1 (updating 1 3 (sound Running 2 2)))
    ∷ gives 0 (GiveBackLock 1 2) (locking 2 1 (updating 1 10 (sound Running 16 2)))
    ∷ gives 0 (GiveBackLock 1 1) (locking 1 1 (updating 1 1 (sound Running 2 2)))
    ∷ gives 0 (GiveBackLock 1 2) (locking 2 1 (updating 0 2 (sound Running 2 2)))
    ∷ gives_on 0 (GiveBackLock 0 1) (map (locking 1 0) (quiet_edges ++ (requested_edges ++ large_edges)))

-- ---- holders

-- Cause 3, "a worker under W or none": worker W, worker 7 of seven, and the last number that four bits have, in each lock's place; in a format and a recovery too.
abbrev pub bad_holders : List Case
bad_holders =
    gives_on 3 Count (locking 0 1 (sound Running 1 1) ∷ locking 15 1 (sound Running 1 1) ∷ locking 7 7 (sound Running 4 7) ∷ locking 8 14 (sound Running 5 8) ∷ locking 3 0 (locking 9 8 (sound Running 5 8)) ∷ [])
    ++ (gives_on 3 Step (locking 5 1 (sound Formatting 1 1) ∷ locking 5 1 (sound Recovering 1 1) ∷ []) ++ gives_on 3 (WriteBack 0) (locking 5 1 (sound Recovering 1 1) ∷ []))

-- Just within: worker W − 1 in each lock's place; the starts do not look.
abbrev pub own_holders : List Case
own_holders =
    gives_on 0 Count (locking 0 0 (sound Running 1 1) ∷ locking 15 7 (sound Running 5 8) ∷ locking 7 6 (locking 8 0 (sound Running 4 7)) ∷ [])
    ++ (gives 0 (FormatStart 1 1) (locking 5 9 (sound Running 1 1)) ∷ gives 0 RecoveryStart (locking 5 9 (sound Running 1 1)) ∷ [])

-- ---- what the calls leave

-- Lock k held by worker w is w + 1 in the k-th four bits: taken, given back beside another, and given back last. Both starts free all locks; an update, a release and the ends of a format and a recovery leave them.
abbrev pub holders_left : List Case
holders_left =
    from 16 (sound Running 5 8) (TakeLock 7 15 ∷ TakeLock 0 0 ∷ []) (holders (8 * 16 ^ 15 + 1) ∷ answers (TakeLock 1 15) 16 ∷ answers (TakeLock 1 0) 16 ∷ [])
    ∷ from 16 (locking 0 0 (locking 15 7 (sound Running 5 8))) (GiveBackLock 7 15 ∷ []) (holders 1 ∷ answers (GiveBackLock 7 15) 16 ∷ answers (TakeLock 1 15) 0 ∷ [])
    ∷ from 0 (locking 2 1 (sound Running 2 2)) (Update 1 2 7 ∷ Advance 1 ∷ Advance 1 ∷ Advance 1 ∷ []) (holders 512 ∷ answers (GiveBackLock 1 2) 0 ∷ [])
    ∷ from 0 (locking 5 9 (sound Running 1 1)) (FormatStart 1 1 ∷ []) (holders 0 ∷ [])
    ∷ from 0 (locking 5 9 (sound Running 1 1)) (RecoveryStart ∷ []) (holders 0 ∷ [])
    ∷ from 0 (locking 2 0 (placed_at 2 (ready 1 1))) (Step ∷ []) (holders 256 ∷ answers (Update 0 1 7) 16 ∷ [])
    ∷ from 0 (locking 2 0 (placed_at 1 (sound Recovering 1 1))) (Step ∷ []) (holders 256 ∷ [])
    ∷ from 0 (locking 2 0 (placed_at 2 (sound Formatting 1 1))) (Step ∷ []) (holders 256 ∷ [])
    ∷ []
