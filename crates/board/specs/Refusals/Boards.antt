-- The table of refusals: what a row of it is, and the small boards that its rows speak of.
use Rattle.std.specs.Prelude.{ℕ, ◌-◌, ◌*◌, ◌^◌, List, [], ◌∷◌, ◌++◌, map, true, length, take, set, replicate}
use Rattle.board.specs.declared.Condition.{Condition}
use Rattle.board.specs.declared.Condition.TheVariants.{Waiting, Updating}
use Rattle.board.specs.declared.Store.TheVariants.{Backup}
use Rattle.board.specs.declared.Phase.{Phase}
use Rattle.board.specs.declared.Phase.TheVariants.{Off, Formatting, Recovering, Running}
use Rattle.board.specs.declared.Call.{Call}
use Rattle.bitset.specs.Words.{empty}
use Rattle.locks.specs.Holders.{all_unheld, held_by}
use Rattle.board.specs.Board.{Board, shaped, header_words}
use Rattle.board.specs.State.{free_worker, started, placed, conditioned, dirtied, locked}
use Rattle.board.specs.Effects.{cached, stated}
use Rattle.board.specs.Bench.{Case, answers, from_events}

-- ---- rows

-- A row: on the board the call gives the number.
abbrev pub gives : ℕ → Call → Board → Case
gives n k b = from_events n b [] (answers k n ∷ [])

-- A row for each of the boards.
abbrev pub gives_on : ℕ → Call → List Board → List Case
gives_on n k bs = map (gives n k) bs

-- ---- boards

-- A row of words with the header of (L, W) in epoch 1, and cells of zeros.
abbrev pub row_for : ℕ → ℕ → List ℕ
row_for l w = header_words 1 (shaped l) w ++ replicate (8 * l) 0

-- A board in a phase, with L, W and rows that fit: no cause but the phase and the call's arguments stands.
abbrev pub sound : Phase → ℕ → ℕ → Board
sound phase l w = record { state = started phase (shaped l) w; memory = row_for l w; cache = row_for l w }

-- ---- the state record put otherwise

-- Another phase.
abbrev pub in_phase : Phase → Board → Board
in_phase p b =
    let s = b.state in
    stated (record { phase = p; lines = s.lines; workers = s.workers; place = s.place; undo = s.undo; requested = s.requested; holders = s.holders; dirty = s.dirty; worker = s.worker }) b

-- Another L and W.
abbrev pub limits : ℕ → ℕ → Board → Board
limits l w b =
    let s = b.state in
    stated (record { phase = s.phase; lines = l; workers = w; place = s.place; undo = s.undo; requested = s.requested; holders = s.holders; dirty = s.dirty; worker = s.worker }) b

-- A request stands.
abbrev pub requested : Board → Board
requested b =
    let s = b.state in
    stated (record { phase = s.phase; lines = s.lines; workers = s.workers; place = s.place; undo = s.undo; requested = true; holders = s.holders; dirty = s.dirty; worker = s.worker }) b

-- The bit of line `l` set.
abbrev pub setting : ℕ → Board → Board
setting l b = stated (dirtied b.state l) b

-- A bit that no board has: of line 0.
abbrev pub straying : Board → Board
straying b = setting 0 b

-- Lock `k` held by worker `w`.
abbrev pub locking : ℕ → ℕ → Board → Board
locking k w b = stated (locked b.state (held_by b.state.holders k w)) b

-- Another place.
abbrev pub placed_at : ℕ → Board → Board
placed_at place b = stated (placed b.state place b.state.undo) b

-- Worker `w` in another condition.
abbrev pub worker : ℕ → Condition → Board → Board
worker w condition b = stated (conditioned b.state w condition) b

-- Worker `w` has just started an update of cell `c`.
abbrev pub updating : ℕ → ℕ → Board → Board
updating w c b = worker w (Updating Backup c 5) b

-- A running board on which a request stands and the workers under W wait, the others being free: its step is taken.
abbrev pub ready : ℕ → ℕ → Board
ready l w =
    record {
      state = record { phase = Running; lines = l; workers = w; place = 0; undo = (started Running (shaped l) w).undo; requested = true; holders = all_unheld; dirty = empty; worker = replicate w (record { condition = Waiting }) ++ replicate (8 - w) free_worker };
      memory = row_for l w;
      cache = row_for l w;
    }

-- ---- the rows put otherwise

-- Another memory.
abbrev pub remembered : List ℕ → Board → Board
remembered memory b = record { state = b.state; memory = memory; cache = b.cache }

-- Another epoch in the cache.
abbrev pub epoch : ℕ → Board → Board
epoch e b = cached (set b.cache 0 e) b.state b

-- "the cache's epoch 2^64 − 1".
abbrev pub spent : Board → Board
spent b = epoch (2 ^ 64 - 1) b

-- A row one word short.
abbrev pub shorter : List ℕ → List ℕ
shorter row = take (length row - 1) row

-- A row one word too long.
abbrev pub longer : List ℕ → List ℕ
longer row = row ++ (0 ∷ [])

-- A cache one word short: cause 4 stands of every call.
abbrev pub short_cache : Board → Board
short_cache b = cached (shorter b.cache) b.state b

-- "cache or memory not 8×(L+1) words": each too short, and each too long.
abbrev pub misfits : Board → List Board
misfits b =
    short_cache b
    ∷ cached (longer b.cache) b.state b
    ∷ remembered (shorter b.memory) b
    ∷ remembered (longer b.memory) b
    ∷ []

-- ---- records at fault in one part, and records just within

-- "L or W outside the limits": L 0, L 512, W 0, W 9, W = 2L.
abbrev pub outsides : Board → List Board
outsides b = limits 0 1 b ∷ limits 512 1 b ∷ limits 1 0 b ∷ limits 5 9 b ∷ limits 1 2 b ∷ []

-- Every fault of a running record (1, 1), cause 4 standing too: a bit of line 0; of line L + 1; place n+3 with a request, n being 0 and 1; cell 2L in an
-- update of a worker under W, worker 0 of one and worker 1 of two; locks 0 and 15 held by worker W; the limits.
abbrev pub bad_records : List Board
bad_records =
    let b = short_cache (sound Running 1 1) in
    setting 0 b ∷ setting 2 b ∷ placed_at 3 (requested b) ∷ setting 1 (placed_at 4 (requested b)) ∷ updating 0 2 b ∷ updating 1 4 (short_cache (sound Running 2 2)) ∷ locking 0 1 b ∷ locking 15 1 b ∷ outsides b

-- Running boards (1, 1) with a record just within and no request: W = 2L − 1; the bit of line L; a place past everything; worker 1, from W on, with an
-- update of cell 2L.
abbrev pub quiet_edges : List Board
quiet_edges =
    sound Running 1 1
    ∷ setting 1 (sound Running 1 1)
    ∷ placed_at 600 (sound Running 1 1)
    ∷ updating 1 2 (sound Running 1 1)
    ∷ []

-- The same with a request: place n+2, n being 0 and 1; and epoch 2^64 − 1.
abbrev pub requested_edges : List Board
requested_edges =
    placed_at 2 (requested (sound Running 1 1))
    ∷ setting 1 (placed_at 3 (requested (sound Running 1 1)))
    ∷ spent (requested (sound Running 1 1))
    ∷ []

-- Larger running boards: L 511 and W 8; W 8 with L 5; W = 2L − 1 = 3; cell 2L − 1 in an update by worker W − 1.
abbrev pub large_edges : List Board
large_edges = sound Running 511 8 ∷ sound Running 5 8 ∷ sound Running 2 3 ∷ updating 1 3 (sound Running 2 2) ∷ []

-- The phases that do not run, of a board on which causes 3 and 4 stand too.
abbrev pub not_running_of : Board → List Board
not_running_of b =
    let c = straying (short_cache b) in
    in_phase Off c ∷ in_phase Formatting c ∷ in_phase Recovering c ∷ []

-- Causes 2, 3 and 4 of a call that needs running, each with every later one standing: the board is one (1, 1) on which all causes from 6 on stand.
abbrev pub first_three : Call → Board → List Case
first_three k b = gives_on 2 k (not_running_of b) ++ (gives_on 3 k (straying (short_cache b) ∷ bad_records) ++ gives_on 4 k (misfits b))
