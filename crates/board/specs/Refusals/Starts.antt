-- The table of refusals: the two starts and the step call.
use Rattle.std.specs.Prelude.{ℕ, ◌+◌, ◌-◌, ◌*◌, ◌^◌, List, [], ◌∷◌, ◌++◌, set, replicate}
use Rattle.board.specs.declared.Condition.TheVariants.{Free, Waiting}
use Rattle.board.specs.declared.Phase.TheVariants.{Off, Formatting, Recovering, Running}
use Rattle.board.specs.declared.Call.TheVariants.{FormatStart, RecoveryStart, Step}
use Rattle.board.specs.Board.{Board, shaped, header_words}
use Rattle.board.specs.Bench.{Case, blank}
use Rattle.board.specs.Refusals.Boards.{gives, gives_on, row_for, sound, in_phase, limits, requested, setting, straying, placed_at, worker, updating, ready, remembered, epoch, spent, short_cache, misfits, outsides, bad_records}

-- ---- both starts

-- "never for the two starts", "not for the starts": a board (1, 1) in each phase, its state record at fault in every part.
abbrev pub any_record : List Board
any_record =
    let b = straying (limits 512 0 (placed_at 600 (requested (updating 0 2 (sound Off 1 1))))) in
    b ∷ in_phase Formatting b ∷ in_phase Recovering b ∷ in_phase Running b ∷ []

-- ---- format's start

-- Cause 1, "L or W outside the limits", while cause 4 stands too.
abbrev pub format_limits : List Case
format_limits =
    let b = short_cache (sound Off 1 1) in
    gives 1 (FormatStart 0 1) b
    ∷ gives 1 (FormatStart 512 1) b
    ∷ gives 1 (FormatStart 1 0) b
    ∷ gives 1 (FormatStart 5 9) b
    ∷ gives 1 (FormatStart 1 2) b
    ∷ gives 1 (FormatStart (2 ^ 64 - 1) 1) b
    ∷ gives 1 (FormatStart 1 (2 ^ 64 - 1)) b
    ∷ []

-- Cause 4: rows that do not fit its own L, though they may fit the record's.
abbrev pub format_rows : List Case
format_rows = gives_on 4 (FormatStart 1 1) (misfits (sound Off 1 1)) ++ (gives 4 (FormatStart 1 1) (sound Running 2 1) ∷ gives 4 (FormatStart 2 1) (sound Running 1 1) ∷ [])

-- Taken: L 1 and 511; W 8 and 2L − 1; in every phase over any record.
abbrev pub format_taken : List Case
format_taken =
    gives 0 (FormatStart 1 1) (sound Off 1 1)
    ∷ gives 0 (FormatStart 511 8) (sound Off 511 8)
    ∷ gives 0 (FormatStart 5 8) (sound Off 5 8)
    ∷ gives 0 (FormatStart 2 3) (sound Off 2 3)
    ∷ gives_on 0 (FormatStart 1 1) any_record

-- ---- recovery's start

-- Cause 4, while cause 5 stands too: words no multiple of 8; 8 and 4,104 words; cache of another length.
abbrev pub recovery_rows : List Case
recovery_rows =
    gives 4 RecoveryStart (blank 17)
    ∷ gives 4 RecoveryStart (blank 20)
    ∷ gives 4 RecoveryStart (blank 0)
    ∷ gives 4 RecoveryStart (blank 8)
    ∷ gives 4 RecoveryStart (blank 4104)
    ∷ gives 4 RecoveryStart (short_cache (blank 16))
    ∷ gives 4 RecoveryStart (remembered (replicate 16 0) (blank 24))
    ∷ []

-- A board off whose memory has the given first words and zeros in as many lines as L asks; its cache holds no header.
abbrev pub off_with : ℕ → List ℕ → Board
off_with l header = remembered (header ++ replicate (8 * l) 0) (blank (8 * l + 8))

-- Cause 5: epoch 0; L not (words div 8) − 1; W 0, 9 and 2L; each of words 3 to 7 not zero.
abbrev pub recovery_header : List Case
recovery_header =
    gives 5 RecoveryStart (off_with 1 (header_words 0 (shaped 1) 1))
    ∷ gives 5 RecoveryStart (off_with 2 (header_words 1 (shaped 1) 1))
    ∷ gives 5 RecoveryStart (off_with 2 (header_words 1 (shaped 3) 1))
    ∷ gives 5 RecoveryStart (off_with 1 (header_words 1 (shaped 1) 0))
    ∷ gives 5 RecoveryStart (off_with 5 (header_words 1 (shaped 5) 9))
    ∷ gives 5 RecoveryStart (off_with 1 (header_words 1 (shaped 1) 2))
    ∷ gives 5 RecoveryStart (off_with 1 (set (header_words 1 (shaped 1) 1) 3 1))
    ∷ gives 5 RecoveryStart (off_with 1 (set (header_words 1 (shaped 1) 1) 4 1))
    ∷ gives 5 RecoveryStart (off_with 1 (set (header_words 1 (shaped 1) 1) 5 1))
    ∷ gives 5 RecoveryStart (off_with 1 (set (header_words 1 (shaped 1) 1) 6 1))
    ∷ gives 5 RecoveryStart (off_with 1 (set (header_words 1 (shaped 1) 1) 7 1))
    ∷ []

-- Taken: 16 and 72 words (`RecoveryTakes` has every size); W = 2L − 1; in every phase over any record.
abbrev pub recovery_taken : List Case
recovery_taken =
    gives 0 RecoveryStart (off_with 1 (header_words 1 (shaped 1) 1))
    ∷ gives 0 RecoveryStart (off_with 8 (header_words 1 (shaped 8) 8))
    ∷ gives 0 RecoveryStart (off_with 2 (header_words (2 ^ 64 - 1) (shaped 2) 3))
    ∷ gives_on 0 RecoveryStart any_record

-- The same board with another word in memory; of line 1, words 10 and 13 are the marks of cells 0 and 1.
abbrev pub holding : ℕ → ℕ → Board → Board
holding i v b = remembered (set b.memory i v) b

-- Causes 4 and 5, while cause 14 stands too: cache of another length; epoch 0; W outside; a word of 3 to 7 not zero.
abbrev pub recovery_before_marks : List Case
recovery_before_marks =
    gives 4 RecoveryStart (short_cache (holding 10 2 (off_with 1 (header_words 1 (shaped 1) 1))))
    ∷ gives 5 RecoveryStart (holding 10 1 (off_with 1 (header_words 0 (shaped 1) 1)))
    ∷ gives 5 RecoveryStart (holding 10 2 (off_with 1 (header_words 1 (shaped 1) 2)))
    ∷ gives 5 RecoveryStart (holding 10 2 (off_with 1 (set (header_words 1 (shaped 1) 1) 7 1)))
    ∷ []

-- Cause 14: a mark one past the epoch, in the first cell and in the last, of 2 and of 16; 2^64 − 1 past 2^64 − 2; with a later epoch in the cache.
abbrev pub recovery_marks : List Case
recovery_marks =
    gives 14 RecoveryStart (holding 10 2 (off_with 1 (header_words 1 (shaped 1) 1)))
    ∷ gives 14 RecoveryStart (holding 13 6 (off_with 1 (header_words 5 (shaped 1) 1)))
    ∷ gives 14 RecoveryStart (holding 69 8 (off_with 8 (header_words 7 (shaped 8) 8)))
    ∷ gives 14 RecoveryStart (holding 13 (2 ^ 64 - 1) (off_with 1 (header_words (2 ^ 64 - 2) (shaped 1) 1)))
    ∷ gives 14 RecoveryStart (epoch 9 (holding 10 2 (off_with 1 (header_words 1 (shaped 1) 1))))
    ∷ []

-- Taken: every mark the epoch, though the cache's epoch is 0; that epoch 2^64 − 1; a mark under it; records, backups and words 6 and 7 that are greater.
abbrev pub recovery_marks_taken : List Case
recovery_marks_taken =
    gives 0 RecoveryStart (holding 10 1 (holding 13 1 (off_with 1 (header_words 1 (shaped 1) 1))))
    ∷ gives 0 RecoveryStart (holding 10 (2 ^ 64 - 1) (holding 13 (2 ^ 64 - 1) (off_with 1 (header_words (2 ^ 64 - 1) (shaped 1) 1))))
    ∷ gives 0 RecoveryStart (holding 10 4 (off_with 1 (header_words 5 (shaped 1) 1)))
    ∷ gives 0 RecoveryStart (holding 8 9 (holding 9 9 (holding 11 9 (holding 12 9 (holding 14 9 (holding 15 9 (off_with 1 (header_words 1 (shaped 1) 1))))))))
    ∷ []

-- ---- the step call

-- Cause 2: "a phase other than off"; causes 3 and 4 stand too.
abbrev pub step_phase : List Case
step_phase = gives 2 Step (straying (short_cache (sound Off 1 1))) ∷ gives 2 Step (sound Off 1 1) ∷ []

-- Cause 3 when running, while 4 and 10 stand; place n+3 once more, while 11 would at n.
abbrev pub step_record : List Case
step_record = gives_on 3 Step (placed_at 3 (spent (ready 1 1)) ∷ bad_records)

-- Cause 3 in a format, while 4 stands: place L + 2, at L = 1 and 2, a bit of line L + 1, cell 2L in an update, of worker 1 too, the limits.
abbrev pub step_record_in_format : List Case
step_record_in_format =
    let b = short_cache (sound Formatting 1 1) in
    let c = short_cache (sound Formatting 2 2) in
    gives_on 3 Step (placed_at 3 b ∷ placed_at 4 c ∷ setting 2 b ∷ setting 3 c ∷ updating 0 2 b ∷ updating 1 4 c ∷ outsides b)

-- Cause 3 in a recovery, while 4 stands: cell 2L, at L = 1 and 2, a bit of line L + 1, cell 2L in an update, of worker 1 too, the limits.
abbrev pub step_record_in_recovery : List Case
step_record_in_recovery =
    let b = short_cache (sound Recovering 1 1) in
    let c = short_cache (sound Recovering 2 2) in
    gives_on 3 Step (placed_at 2 b ∷ placed_at 4 c ∷ setting 2 b ∷ setting 3 c ∷ updating 0 2 b ∷ updating 1 4 c ∷ outsides b)

-- Taken: place L + 1 in a format, cell 2L − 1 in a recovery, place n+2 when running with a request (n 0 and 1); the bit of line L; cell 2L − 1 in an update.
abbrev pub step_record_taken : List Case
step_record_taken =
    gives 0 Step (placed_at 2 (sound Formatting 1 1))
    ∷ gives 0 Step (placed_at 512 (sound Formatting 511 8))
    ∷ gives 0 Step (setting 1 (sound Formatting 1 1))
    ∷ gives 0 Step (updating 0 1 (sound Formatting 1 1))
    ∷ gives 0 Step (placed_at 1 (sound Recovering 1 1))
    ∷ gives 0 Step (placed_at 1021 (sound Recovering 511 8))
    ∷ gives 0 Step (setting 1 (sound Recovering 1 1))
    ∷ gives 0 Step (updating 0 1 (sound Recovering 1 1))
    ∷ gives 0 Step (placed_at 2 (ready 1 1))
    ∷ gives 0 Step (setting 1 (placed_at 3 (ready 1 1)))
    ∷ []

-- Past n+2 with a request a format or a recovery is not at fault, nor is a running board without one past everything: it is cause 10 that answers there.
abbrev pub step_place_of_phase : List Case
step_place_of_phase =
    gives 0 Step (placed_at 3 (requested (sound Formatting 2 1)))
    ∷ gives 0 Step (placed_at 3 (requested (sound Recovering 2 1)))
    ∷ gives 10 Step (placed_at 600 (sound Running 1 1))
    ∷ []

-- Cause 4 when running, while 10 and 11 stand; in a format and in a recovery.
abbrev pub step_rows : List Case
step_rows =
    gives_on 4 Step (misfits (spent (requested (sound Running 1 1))))
    ++ gives_on 4 Step (misfits (sound Formatting 1 1) ++ misfits (sound Recovering 1 1))

-- Cause 10: none requested; with a request, and 11 standing too: a worker free, one updating, the last of two free, the first of two, the eighth of eight.
abbrev pub step_ready : List Case
step_ready =
    gives 10 Step (sound Running 1 1)
    ∷ gives 10 Step (worker 0 Waiting (spent (sound Running 1 1)))
    ∷ gives 10 Step (worker 0 Free (spent (ready 1 1)))
    ∷ gives 10 Step (updating 0 1 (spent (ready 1 1)))
    ∷ gives 10 Step (worker 1 Free (spent (ready 2 2)))
    ∷ gives 10 Step (worker 0 Free (spent (ready 2 2)))
    ∷ gives 10 Step (updating 7 9 (spent (ready 5 8)))
    ∷ []

-- Taken: all workers under W wait, those from W on being free, or in an update of cell 2L; a format or recovery asks for no request and no waiting.
abbrev pub step_ready_taken : List Case
step_ready_taken =
    gives 0 Step (ready 1 1)
    ∷ gives 0 Step (ready 5 8)
    ∷ gives 0 Step (updating 1 2 (ready 1 1))
    ∷ gives 0 Step (updating 7 1022 (ready 2 3))
    ∷ gives 0 Step (sound Formatting 1 1)
    ∷ gives 0 Step (sound Recovering 1 1)
    ∷ []

-- Cause 11: the cache's epoch 2^64 − 1 at the epoch's store, n being 0 and 1.
abbrev pub step_epoch : List Case
step_epoch = gives 11 Step (spent (ready 1 1)) ∷ gives 11 Step (setting 1 (placed_at 1 (spent (ready 1 1)))) ∷ []

-- Taken: epoch 2^64 − 2 there; that epoch in memory alone; at a line, at places n+1 and n+2, and in a format or recovery, though the place is n and a
-- request stands.
abbrev pub step_epoch_taken : List Case
step_epoch_taken =
    gives 0 Step (epoch (2 ^ 64 - 2) (ready 1 1))
    ∷ gives 0 Step (remembered (set (row_for 1 1) 0 (2 ^ 64 - 1)) (ready 1 1))
    ∷ gives 0 Step (setting 1 (spent (ready 1 1)))
    ∷ gives 0 Step (placed_at 1 (spent (ready 1 1)))
    ∷ gives 0 Step (placed_at 2 (spent (ready 1 1)))
    ∷ gives 0 Step (spent (requested (sound Formatting 1 1)))
    ∷ gives 0 Step (spent (requested (sound Recovering 1 1)))
    ∷ []
