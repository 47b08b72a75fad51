-- The table of refusals: document 02, ticket 5: the count, and what a line's bit means to every call.
use Rattle.std.specs.Prelude.{List, [], ◌∷◌, ◌++◌, replicate}
use Rattle.board.specs.declared.Condition.TheVariants.{Waiting, Updating}
use Rattle.board.specs.declared.Store.TheVariants.{Mark}
use Rattle.board.specs.declared.Phase.TheVariants.{Off, Running}
use Rattle.board.specs.declared.Call.TheVariants.{Step, Advance, Count}
use Rattle.board.specs.Board.{Board}
use Rattle.board.specs.Effects.{cached}
use Rattle.board.specs.Bench.{Case, Seen, counted, dirty_words, memory_line, answers, from, from_events}
use Rattle.board.specs.Refusals.Boards.{gives, gives_on, sound, in_phase, setting, straying, placed_at, worker, updating, ready, spent, short_cache, quiet_edges, requested_edges, first_three}

-- ---- the count

-- Causes 2, 3 and 4.
abbrev pub count_first : List Case
count_first = first_three Count (sound Running 1 1)

-- Taken: on the records just within, with a request, in the middle of a checkpoint, in the last epoch, whatever the workers do.
abbrev pub count_taken : List Case
count_taken =
    gives 0 Count (worker 0 Waiting (updating 1 3 (sound Running 2 2)))
    ∷ gives 0 Count (spent (sound Running 1 1))
    ∷ gives_on 0 Count (quiet_edges ++ requested_edges)

-- What is seen on a board.
abbrev on : Board → List Seen → Case
on b seen = from_events 5 b [] seen

-- "the count of set bits plus 3": of none, one, lines 63 and 64, one in each word, and in the middle of a checkpoint; "turned down, it gets 0": by 2, 3 and 4, with a line dirty.
abbrev pub count_value : List Case
count_value =
    let b = setting 1 (sound Running 1 1) in
    on (sound Running 1 1) (counted 3 ∷ [])
    ∷ on b (counted 4 ∷ [])
    ∷ on (setting 63 (setting 64 (sound Running 64 1))) (counted 5 ∷ [])
    ∷ on (setting 1 (setting 100 (setting 190 (setting 200 (setting 300 (setting 380 (setting 400 (setting 511 (sound Running 511 8))))))))) (counted 11 ∷ [])
    ∷ on (setting 1 (placed_at 3 (ready 1 1))) (counted 4 ∷ [])
    ∷ on (in_phase Off b) (counted 0 ∷ [])
    ∷ on (straying b) (counted 0 ∷ [])
    ∷ on (short_cache b) (counted 0 ∷ [])
    ∷ []

-- ---- lines' bits

-- Cause 3, "A bit set for line 0 or past L": line 0 beside a line that is there; line L + 1 within a word, at the next word's first bit, and the last line of all.
abbrev pub stray_lines : List Case
stray_lines =
    gives_on 3 Count
    (setting 0 (setting 1 (sound Running 1 1)) ∷ setting 6 (sound Running 5 8) ∷ setting 64 (sound Running 63 1) ∷ setting 511 (sound Running 1 1) ∷ setting 511 (sound Running 64 1) ∷ [])

-- Taken: line L within a word, at a word's last bit and at its first, and line 511; every line of a board of two.
abbrev pub own_lines : List Case
own_lines =
    gives_on 0 Count
    (setting 5 (sound Running 5 8) ∷ setting 63 (sound Running 63 1) ∷ setting 64 (sound Running 64 1) ∷ setting 511 (sound Running 511 8) ∷ setting 1 (setting 2 (sound Running 2 2)) ∷ [])

-- "n is their count": place n+2 is the release's and n+3 cause 3, n lines standing in the first word or in two; a mark's store with its line's bit set already leaves it set and the others clear.
abbrev pub places_by_lines : List Case
places_by_lines =
    let b = setting 3 (setting 64 (ready 64 1)) in
    gives 0 Step (placed_at 4 b)
    ∷ gives 3 Step (placed_at 5 b)
    ∷ from 5 (placed_at 4 b) (Step ∷ []) (dirty_words (replicate 8 0) ∷ [])
    ∷ from 5 (setting 2 (worker 0 (Updating Mark 2 5) (sound Running 2 2))) (Advance 0 ∷ []) (dirty_words (4 ∷ replicate 7 0) ∷ [])
    ∷ from 5 (worker 0 (Updating Mark 3 5) (sound Running 2 2)) (Advance 0 ∷ []) (dirty_words (4 ∷ replicate 7 0) ∷ [])
    ∷ from 5 (setting 1 (worker 0 (Updating Mark 126 5) (sound Running 64 1))) (Advance 0 ∷ []) (dirty_words (2 ∷ 1 ∷ replicate 6 0) ∷ [])
    ∷ []

-- The cache of a ready board (3, 1) with another word in each of lines 1, 2 and 3.
abbrev pub three_lines : Board
three_lines =
    let b = ready 3 1 in
    cached ((1 ∷ 3 ∷ 1 ∷ replicate 5 0) ++ (replicate 8 11 ++ (replicate 8 22 ++ replicate 8 33))) b.state b

-- "A checkpoint writes the set lines in rising order": of lines 3 and 1 the first step writes 1 and not 3, the second 3; line 2, which is not set, is not written.
abbrev pub words_written : List Case
words_written =
    let b = setting 3 (setting 1 three_lines) in
    from 5 b (Step ∷ []) (memory_line 1 (replicate 8 11) ∷ memory_line 2 (replicate 8 0) ∷ memory_line 3 (replicate 8 0) ∷ counted 5 ∷ [])
    ∷ from 5 b (Step ∷ Step ∷ []) (memory_line 1 (replicate 8 11) ∷ memory_line 2 (replicate 8 0) ∷ memory_line 3 (replicate 8 33) ∷ answers Step 0 ∷ [])
    ∷ []
