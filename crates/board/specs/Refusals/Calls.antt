-- The table of refusals: the calls that need a board that runs, and write-back.
use Rattle.std.specs.Prelude.{ℕ, ◌-◌, ◌^◌, List, [], ◌∷◌, ◌++◌, map, set}
use Rattle.board.specs.declared.Condition.TheVariants.{Waiting, Updating}
use Rattle.board.specs.declared.Store.TheVariants.{Mark, Record}
use Rattle.board.specs.declared.Phase.TheVariants.{Off, Formatting, Recovering, Running}
use Rattle.board.specs.declared.Call.TheVariants.{Update, RestartPoint, Advance, Request, WriteBack, Read}
use Rattle.board.specs.Board.{Board}
use Rattle.board.specs.Effects.{cached}
use Rattle.board.specs.Bench.{Case, from_events, valued}
use Rattle.board.specs.Refusals.Boards.{gives, gives_on, row_for, sound, in_phase, requested, setting, straying, locking, placed_at, worker, updating, remembered, epoch, spent, short_cache, misfits, bad_records, quiet_edges, requested_edges, large_edges, first_three}

-- ---- update

-- Causes 2, 3 and 4, while 6, 7, 8, 16 and 9 stand: worker 1 is past W, waits and holds no lock, and worker 0 has an update of cell 0.
abbrev pub update_first : List Case
update_first = first_three (Update 1 0 7) (updating 0 0 (worker 1 Waiting (sound Running 1 1)))

-- Cause 6, "worker W or more", while 7, 8, 16 and 9 stand; worker 8; the largest number.
abbrev pub update_worker : List Case
update_worker =
    gives 6 (Update 1 0 7) (updating 0 0 (worker 1 Waiting (sound Running 1 1)))
    ∷ gives 6 (Update 8 9 7) (sound Running 5 8)
    ∷ gives 6 (Update (2 ^ 64 - 1) 1 7) (sound Running 1 1)
    ∷ []

-- Cause 7: a cell under W, W − 1 (8, 16 and 9 stand too), 2L (8 and 16 stand too), and the largest number.
abbrev pub update_cell : List Case
update_cell =
    gives 7 (Update 1 0 7) (updating 0 0 (worker 1 Waiting (sound Running 2 2)))
    ∷ gives 7 (Update 1 1 7) (updating 0 1 (worker 1 Waiting (sound Running 2 2)))
    ∷ gives 7 (Update 1 4 7) (worker 1 Waiting (sound Running 2 2))
    ∷ gives 7 (Update 0 (2 ^ 64 - 1) 7) (sound Running 2 2)
    ∷ []

-- Cause 8: a worker that waits, and one in an update; 16 and 9 stand too; and with the lock held.
abbrev pub update_busy : List Case
update_busy =
    gives 8 (Update 1 2 7) (updating 0 2 (worker 1 Waiting (sound Running 2 2)))
    ∷ gives 8 (Update 1 2 7) (updating 0 2 (updating 1 3 (sound Running 2 2)))
    ∷ gives 8 (Update 1 2 7) (locking 2 1 (worker 1 Waiting (sound Running 2 2)))
    ∷ []

-- Cause 16: the cell's lock is nobody's or another worker's, 9 standing too; the worker holds every lock but this one; lock c mod 8 and lock c are not the cell's, which is c mod 16.
abbrev pub update_lock : List Case
update_lock =
    gives_on 16 (Update 1 2 7)
    (updating 0 2 (sound Running 2 2) ∷ locking 2 0 (updating 0 2 (sound Running 2 2)) ∷ locking 2 0 (sound Running 2 2) ∷ locking 1 1 (locking 3 1 (sound Running 2 2)) ∷ [])
    ++ (gives 16 (Update 0 10 7) (locking 2 0 (sound Running 16 1)) ∷ gives 16 (Update 0 26 7) (locking 2 0 (locking 11 0 (sound Running 16 1))) ∷ [])

-- Cause 9, the lock being held, which only a damaged record has: another worker under W has an unfinished update of the cell, whichever its next store, below or above the worker, the eighth too.
abbrev pub update_shared : List Case
update_shared =
    gives 9 (Update 1 2 7) (locking 2 1 (updating 0 2 (sound Running 2 2)))
    ∷ gives 9 (Update 0 2 7) (locking 2 0 (worker 1 (Updating Mark 2 5) (sound Running 2 2)))
    ∷ gives 9 (Update 0 3 7) (locking 3 0 (worker 1 (Updating Record 3 5) (sound Running 2 2)))
    ∷ gives 9 (Update 0 9 7) (locking 9 0 (updating 7 9 (sound Running 5 8)))
    ∷ []

-- Taken, the lock being held: cell W and cell 2L − 1, worker W − 1; cells 10, 15, 16 and 26 by locks 10, 15, 0 and 10; another worker at another cell; a worker from W on at the same cell or at cell 2L; on the records just within.
abbrev pub update_taken : List Case
update_taken =
    gives 0 (Update 0 2 7) (locking 2 0 (sound Running 2 2))
    ∷ gives 0 (Update 0 3 7) (locking 3 0 (sound Running 2 2))
    ∷ gives 0 (Update 1 2 7) (locking 2 1 (sound Running 2 2))
    ∷ gives 0 (Update 7 9 7) (locking 9 7 (sound Running 5 8))
    ∷ gives 0 (Update 7 1021 7) (locking 13 7 (sound Running 511 8))
    ∷ gives 0 (Update 0 10 7) (locking 10 0 (sound Running 16 1))
    ∷ gives 0 (Update 0 15 7) (locking 15 0 (sound Running 16 1))
    ∷ gives 0 (Update 0 16 7) (locking 0 0 (sound Running 16 1))
    ∷ gives 0 (Update 0 26 7) (locking 10 0 (sound Running 16 1))
    ∷ gives 0 (Update 1 2 7) (locking 2 1 (updating 0 3 (sound Running 2 2)))
    ∷ gives 0 (Update 1 2 7) (locking 2 1 (updating 2 2 (sound Running 2 2)))
    ∷ gives 0 (Update 1 2 7) (locking 2 1 (updating 2 4 (sound Running 2 2)))
    ∷ gives_on 0 (Update 0 1 7) (map (locking 1 0) (quiet_edges ++ requested_edges))

-- ---- restart point

-- Causes 2, 3 and 4, while 6, 8 and 9 stand: worker 1 is past W and waits, and worker 0 has an update of cell 1.
abbrev pub restart_first : List Case
restart_first = first_three (RestartPoint 1 3) (updating 0 1 (worker 1 Waiting (sound Running 1 1)))

-- Cause 6, while 8 and 9 stand; worker 8; the largest number.
abbrev pub restart_worker : List Case
restart_worker =
    gives 6 (RestartPoint 1 3) (updating 0 1 (worker 1 Waiting (sound Running 1 1)))
    ∷ gives 6 (RestartPoint 8 3) (sound Running 5 8)
    ∷ gives 6 (RestartPoint (2 ^ 64 - 1) 3) (sound Running 1 1)
    ∷ []

-- Cause 8: a worker that waits, and one in an update; 16 and 9 stand too.
abbrev pub restart_busy : List Case
restart_busy =
    gives 8 (RestartPoint 1 3) (locking 4 1 (updating 0 1 (worker 1 Waiting (sound Running 2 2))))
    ∷ gives 8 (RestartPoint 1 3) (locking 3 1 (updating 0 1 (updating 1 3 (sound Running 2 2))))
    ∷ []

-- Cause 16, "held at a restart point": lock 0, lock 15, both and the one that its own number would give, 9 standing too.
abbrev pub restart_lock : List Case
restart_lock =
    let b = updating 0 1 (sound Running 2 2) in
    gives_on 16 (RestartPoint 1 3) (locking 0 1 b ∷ locking 15 1 b ∷ locking 0 1 (locking 15 1 (sound Running 2 2)) ∷ locking 1 1 (sound Running 2 2) ∷ [])

-- Cause 9: another worker under W has an unfinished update of this worker's restart cell, which only a damaged record has.
abbrev pub restart_shared : List Case
restart_shared =
    gives 9 (RestartPoint 1 3) (updating 0 1 (sound Running 2 2))
    ∷ gives 9 (RestartPoint 0 3) (worker 1 (Updating Mark 0 5) (sound Running 2 2))
    ∷ gives 9 (RestartPoint 0 3) (worker 7 (Updating Record 0 5) (sound Running 5 8))
    ∷ []

-- Taken: worker W − 1; another worker at another cell or holding locks; a worker from W on at the restart cell; and on the records just within, worker 0 being free.
abbrev pub restart_taken : List Case
restart_taken =
    gives 0 (RestartPoint 7 3) (sound Running 5 8)
    ∷ gives 0 (RestartPoint 1 3) (updating 0 2 (sound Running 2 2))
    ∷ gives 0 (RestartPoint 1 3) (locking 0 0 (locking 1 0 (locking 15 0 (sound Running 2 2))))
    ∷ gives 0 (RestartPoint 1 3) (updating 2 1 (sound Running 2 2))
    ∷ gives_on 0 (RestartPoint 0 3) (quiet_edges ++ (requested_edges ++ large_edges))

-- ---- advance

-- Causes 2, 3 and 4, while 6 and 8 stand: worker 1 is past W and free.
abbrev pub advance_first : List Case
advance_first = first_three (Advance 1) (sound Running 1 1)

-- A board (2, 2) with every cell line dirty: worker 0 marks a cell next, worker 1 stores its record.
abbrev pub full : Board
full = setting 1 (setting 2 (worker 0 (Updating Mark 2 5) (worker 1 (Updating Record 3 5) (sound Running 2 2))))

-- Cause 6, while 8 stands; also where a worker from W on would mark a cell; worker 8; the largest number.
abbrev pub advance_worker : List Case
advance_worker =
    gives 6 (Advance 1) (sound Running 1 1)
    ∷ gives 6 (Advance 2) (worker 2 (Updating Mark 2 5) full)
    ∷ gives 6 (Advance 8) (sound Running 5 8)
    ∷ gives 6 (Advance (2 ^ 64 - 1)) (sound Running 1 1)
    ∷ []

-- Cause 8: "advance of one free or waiting".
abbrev pub advance_idle : List Case
advance_idle = gives 8 (Advance 0) (sound Running 1 1) ∷ gives 8 (Advance 0) (worker 0 Waiting (sound Running 1 1)) ∷ []

-- Taken: each of the three stores though every line be dirty; worker W − 1; cell 2L − 1; on the records just within.
abbrev pub advance_taken : List Case
advance_taken =
    gives 0 (Advance 0) full
    ∷ gives 0 (Advance 1) full
    ∷ gives 0 (Advance 0) (updating 0 2 full)
    ∷ gives 0 (Advance 7) (updating 7 9 (sound Running 5 8))
    ∷ gives 0 (Advance 0) (updating 0 1021 (sound Running 511 8))
    ∷ gives_on 0 (Advance 0) (map (updating 0 1) (quiet_edges ++ requested_edges))

-- ---- request

-- Causes 2, 3 and 4, while 10 and 11 stand.
abbrev pub request_first : List Case
request_first = first_three Request (spent (requested (sound Running 1 1)))

-- Cause 10, "request while one stands", 11 standing too; cause 11, "the cache's epoch 2^64 − 1, at a request".
abbrev pub request_last : List Case
request_last = gives 10 Request (spent (requested (sound Running 1 1))) ∷ gives 10 Request (requested (sound Running 1 1)) ∷ gives 11 Request (spent (sound Running 1 1)) ∷ []

-- Taken: epoch 2^64 − 2; epoch 2^64 − 1 in memory alone; whatever the workers do; on the records just within.
abbrev pub request_taken : List Case
request_taken =
    gives 0 Request (epoch (2 ^ 64 - 2) (sound Running 1 1))
    ∷ gives 0 Request (remembered (set (row_for 1 1) 0 (2 ^ 64 - 1)) (sound Running 1 1))
    ∷ gives 0 Request (worker 0 Waiting (updating 1 2 (sound Running 2 2)))
    ∷ gives 0 Request full
    ∷ gives_on 0 Request (quiet_edges ++ large_edges)

-- ---- write-back

-- Cause 2: "needs recovering or running"; 3, 4 and 7 stand too.
abbrev pub back_phase : List Case
back_phase =
    let b = straying (short_cache (sound Running 1 1)) in
    gives_on 2 (WriteBack 2) (in_phase Off b ∷ in_phase Formatting b ∷ [])

-- Cause 3, while 4 and 7 stand: when running, and in a recovery at cell 2L, with a bit of line L + 1, and with an update of cell 2L.
abbrev pub back_record : List Case
back_record =
    let b = short_cache (sound Recovering 1 1) in
    gives_on 3 (WriteBack 2) (placed_at 2 b ∷ setting 2 b ∷ updating 0 2 b ∷ bad_records)

-- Cause 4, while 7 stands, in both phases.
abbrev pub back_rows : List Case
back_rows = gives_on 4 (WriteBack 2) (misfits (sound Running 1 1) ++ misfits (sound Recovering 1 1))

-- Cause 7, "line over L", in both phases, at L = 2 too, where L + 1 is not 2L; and the largest number.
abbrev pub back_line : List Case
back_line =
    gives 7 (WriteBack 2) (sound Running 1 1)
    ∷ gives 7 (WriteBack 2) (sound Recovering 1 1)
    ∷ gives 7 (WriteBack 3) (sound Running 2 2)
    ∷ gives 7 (WriteBack 3) (sound Recovering 2 2)
    ∷ gives 7 (WriteBack (2 ^ 64 - 1)) (sound Running 1 1)
    ∷ []

-- Taken: line L in both phases, and at cell 2L − 1 of a recovery; line 511; a line with a cell in an update; line 0 in a recovery and on the records just within.
abbrev pub back_taken : List Case
back_taken =
    gives 0 (WriteBack 1) (sound Running 1 1)
    ∷ gives 0 (WriteBack 1) (sound Recovering 1 1)
    ∷ gives 0 (WriteBack 1) (placed_at 1 (sound Recovering 1 1))
    ∷ gives 0 (WriteBack 511) (sound Running 511 8)
    ∷ gives 0 (WriteBack 2) (updating 1 3 (sound Running 2 2))
    ∷ gives_on 0 (WriteBack 0) (sound Recovering 1 1 ∷ full ∷ quiet_edges ++ (requested_edges ++ large_edges))

-- ---- read

-- Causes 2, 3 and 4, while 7 stands.
abbrev pub read_first : List Case
read_first = first_three (Read 2) (sound Running 1 1)

-- Cause 7: "read of 2L or more", at L = 1 and 2.
abbrev pub read_cell : List Case
read_cell =
    gives 7 (Read 2) (sound Running 1 1) ∷ gives 7 (Read 4) (sound Running 2 2) ∷ gives 7 (Read (2 ^ 64 - 1)) (sound Running 1 1) ∷ []

-- "read value 0": a cell whose record is 9 in the cache, the read turned down by 2, 3 and 4; taken, it gives 9.
abbrev pub read_value : List Case
read_value =
    let b = cached (set (row_for 1 1) 8 9) (sound Running 1 1).state (sound Running 1 1) in
    valued_on 0 (in_phase Off b) ∷ valued_on 0 (straying b) ∷ valued_on 0 (short_cache b) ∷ valued_on 9 b ∷ []
  where
    valued_on : ℕ → Board → Case
    valued_on v b = from_events v b [] (valued 0 v ∷ [])

-- Taken: cells 0 and 2L − 1, cell 1,021, a cell in an update, and on the records just within.
abbrev pub read_taken : List Case
read_taken =
    gives 0 (Read 1) (sound Running 1 1)
    ∷ gives 0 (Read 1021) (sound Running 511 8)
    ∷ gives 0 (Read 3) (updating 1 3 (sound Running 2 2))
    ∷ gives_on 0 (Read 0) (full ∷ quiet_edges ++ (requested_edges ++ large_edges))
