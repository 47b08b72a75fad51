-- A reading in the middle of a history: after one into memory a recovery reads what no checkpoint held; after one into the cache a read gives what the machine does not hold.
use Prim.Native.Nat.{ℕ, ◌<◌}
use mathlib.Core.Path.{◌≡◌, refl, sym, subst, ◌∙◌}
use mathlib.Core.Logic.{⊎_elim}
use mathlib.Core.List.{List, [], ◌∷◌}
use mathlib.Core.Bool.{Bool, true, false, not, ◌&&◌, false≢true}
use native.Mathlib.Omega.{arith}
use lib.Dec.{eqb}
use lib.ListN.{replicate}
use borrow.Author.Tests.{eq-eqb}
use Rattle.predicate.specs.Passing.{any_under, count_under, nth_from, nth_under, numbers_under}
use Rattle.bitset.specs.Words.{bits_in, bit_of, with_bit, contains, inserted as added, size, nth, strays}
use Rattle.locks.specs.Holders.{digit_of, unheld, holds as held, holds_any, held_from, with_digit}
use Rattle.line.specs.Line.{line_of, with_line}
use Rattle.line.specs.Cell.{field_index, field_of, with_field}
use Rattle.board.specs.declared.Call.{Call}
use Rattle.board.specs.declared.Call.TheVariants.{FormatStart, RecoveryStart, Step, Update, RestartPoint, Advance, Request, Read, TakeLock, GiveBackLock}
use Rattle.board.specs.Board.{Board, Shape, shaped, cells, epoch_of, lines_of}
use Rattle.board.specs.State.{is_running}
use Rattle.board.specs.Causes.{bad_record, causes, first_standing, cause}
use Rattle.board.specs.Location.{Location, cell, undo, changed_at}
use Rattle.board.specs.Effects.{format_step, recovery_step, perform_act, perform_first, step, advance, advance_of, effect}
use Rattle.board.specs.Checkpoint.{acts, stores_epoch}
use Rattle.board.specs.Next.{Taken, next, lent, value_read, value_of, Performed}
use Rattle.board.specs.Hex.{bytes_text, sum_of, record_text, low_bytes, word_bytes, hex_from, byte_of, bytes_in, all_bytes, has_record, has_data, has_end, parsed_from, parsed, word_of, words_of, hex_read_causes, hex_read_cause, hex_read_left, HexReadPerformed}
use Rattle.board.specs.Machine.{beginning, changed, fewer, advanced, checkpoint_step, stepped, write_back_seen, feed}
use Rattle.board.specs.Sequence.{Begins, formatted, Run, opening, unfed, cut_run, performs, History, begun, further}
use Rattle.board.specs.Statements.{ReadsCheckpointed, Recovered, CutAndRecovered}
use Rattle.board.specs.Bench.{blank_for, after_calls}
use Rattle.board.specs.HexHistories.{HeldOnce, ReadInHistory, CacheReadInHistory}
use Rattle.predicate.proofs.Bools.{clash, and_left, and_right, not-of}
use Rattle.board.proofs.Laws.Taken.{performing}
use Rattle.board.proofs.Laws.Playing.{made, made_all, stays_up, by_kind, takes_test, tested}
use Rattle.board.proofs.PlayedReads.{garbage}
use Rattle.board.proofs.Recovery.Finishes.{recovers-taken}
use Rattle.board.proofs.Theorems.{reads, demand3, recovery-from}
use Rattle.board.proofs.HexHistories.Begins.{recovered-undo, reads-otherwise}
use Rattle.board.proofs.HexHistories.Text.{words, text}

-- ---- a value that is never current

-- After no call has the location the value.
unfoldable apart : Location → ℕ → List Call → Run → Bool
apart u v [] r = true
apart u v (k ∷ ks) r = not (eqb ((made k r).machine.current u) v) && apart u v ks (made k r)

-- So no checkpoint of the calls holds it.
apart-history : (u : Location) (v : ℕ) (ks : List Call) (r : Run) → r.crashed ≡ false → (h : History r) → (HeldOnce h u v → ⊥) → apart u v ks r ≡ true →
    (k : History (made_all ks r)) × (HeldOnce k u v → ⊥)
unfolding apart made made_all HeldOnce
apart-history u v [] r d h o t = (h, o)
apart-history u v (k ∷ ks) r d h o t =
    let test = not (eqb ((made k r).machine.current u) v) in
    let off = not-of (eqb ((made k r).machine.current u) v) (and_left test (apart u v ks (made k r)) t) in
    apart-history u v ks (made k r) (stays_up k r d)
    (further h (performs k (cause k r.board) (value_of k r.board) (next k r.board) refl (λ c z. absurd (false≢true (sym d ∙ c)))))
    (λ x. ⊎_elim o (λ y. clash (eq-eqb ((made k r).machine.current u) v y.1) off) x)
    (and_right test (apart u v ks (made k r)) t)

-- ---- the history

-- The board as the format (2, 1) left it.
fresh : Board
fresh = after_calls (FormatStart 2 1 ∷ Step ∷ Step ∷ Step ∷ Step ∷ []) (blank_for 2)

begins : Begins fresh (beginning (shaped 2))
unfolding fresh after_calls takes_test by_kind next cause causes first_standing bad_record any_under effect step format_step with_line count_under nth_from nth_under bits_in bit_of with_bit contains added size nth strays digit_of unheld held holds_any held_from with_digit
begins =
    let start = next (FormatStart 2 1) (blank_for 2) in
    formatted 2 1 _ (blank_for 2) _ fresh (performing (FormatStart 2 1) (blank_for 2) refl refl refl) (tested 4 (Step ∷ Step ∷ Step ∷ Step ∷ []) start refl)

-- A checkpoint with 7 in cell 3 and restart point 4.
calls : List Call
calls =
    TakeLock 0 3 ∷ Update 0 3 7 ∷ Advance 0 ∷ Advance 0 ∷ Advance 0 ∷ GiveBackLock 0 3 ∷ Request ∷ RestartPoint 0 4 ∷ Advance 0 ∷ Advance 0 ∷ Advance 0
    ∷ Step ∷ Step ∷ Step ∷ Step ∷ Step ∷ []

run : Run
run = made_all calls (opening fresh (beginning (shaped 2)))

-- Cell 3 is 0 and then 7, and never 6.
never-six : apart (cell 3) 6 calls (opening fresh (beginning (shaped 2))) ≡ true
unfolding apart calls fresh made made_all after_calls next cause causes first_standing bad_record any_under effect step format_step recovery_step acts numbers_under perform_act perform_first stores_epoch advance advance_of line_of with_line field_index field_of with_field feed changed changed_at count_under fewer advanced checkpoint_step stepped write_back_seen nth_from nth_under bits_in bit_of with_bit contains added size nth strays digit_of unheld held holds_any held_from with_digit
never-six = refl

reached : (h : History run) × (HeldOnce h (cell 3) 6 → ⊥)
unfolding run HeldOnce
reached = apart-history (cell 3) 6 calls (opening fresh (beginning (shaped 2))) refl (begun begins) (λ e. omega (arith, e)) never-six

-- ---- the reading

-- The text is read into memory, and a cut follows.
read_run : Run
read_run = unfed (lent run.board.state words run.board.cache) run

cut : Run
cut = cut_run garbage (replicate 24 99) read_run

seen-run :
    (run.crashed ≡ false) × (is_running run.board.state.phase ≡ true) × (epoch_of run.board.memory ≡ 2) × (run.machine.checkpointed (cell 3) ≡ 7)
unfolding run calls fresh made made_all after_calls next cause causes first_standing bad_record any_under effect step format_step recovery_step acts numbers_under perform_act perform_first stores_epoch advance advance_of line_of with_line field_index field_of with_field feed changed changed_at count_under fewer advanced checkpoint_step stepped write_back_seen nth_from nth_under bits_in bit_of with_bit contains added size nth strays digit_of unheld held holds_any held_from with_digit
seen-run = (refl, refl, refl, refl)

read : HexReadPerformed text run.board.memory 0 words
unfolding words text run calls fresh hex_read_cause hex_read_causes hex_read_left parsed parsed_from has_end has_data has_record all_bytes bytes_in byte_of sum_of hex_from record_text bytes_text low_bytes word_bytes word_of words_of made made_all after_calls next cause causes first_standing bad_record any_under effect step format_step recovery_step acts numbers_under perform_act perform_first stores_epoch advance advance_of line_of with_line field_index field_of with_field feed changed changed_at count_under fewer advanced checkpoint_step stepped write_back_seen nth_from nth_under bits_in bit_of with_bit contains added size nth strays digit_of unheld held holds_any held_from with_digit
read = refl

seen-cut : Taken RecoveryStart cut.board × (lines_of cut.board.memory ≡ 2) × (undo cut.board.memory (cell 3) ≡ 6)
unfolding cut read_run words field_index field_of cause causes first_standing bad_record any_under effect step format_step with_line count_under nth_from nth_under bits_in bit_of with_bit contains added size nth strays digit_of unheld held holds_any held_from with_digit
seen-cut = (refl, refl, refl)

left : (b : Board) × Recovered cut b
left = recovery-from cut seen-cut.0

after : CutAndRecovered read_run left.0
unfolding cut read_run run calls fresh made made_all after_calls next cause causes first_standing bad_record any_under effect step format_step recovery_step acts numbers_under perform_act perform_first stores_epoch advance advance_of line_of with_line field_index field_of with_field feed changed changed_at count_under fewer advanced checkpoint_step stepped write_back_seen nth_from nth_under bits_in bit_of with_bit contains added size nth strays digit_of unheld held holds_any held_from with_digit
after = record { state = garbage; cache = replicate 24 99; same_length = refl; recovered = left.1 }

inside : 3 < cells (shaped (lines_of cut.board.memory))
inside = subst (λ (l : ℕ). 3 < cells (shaped l)) (sym seen-cut.1) (omega arith)

-- Cell 3 reads 6.
reads-six : (number v : ℕ) (b : Board) → Performed (Read 3) left.0 number v b → (number ≡ 0) × (v ≡ 6)
reads-six number v b p =
    let low = subst (λ (τ : Shape). 3 < cells τ) (sym (recovers-taken cut left.0 left.1).shape) inside in
    let x = recovered-undo cut left.0 left.1 3 low number v b p in
    (x.0, x.1 ∙ seen-cut.2)

wrong : ReadsCheckpointed run.machine left.0 → ⊥
wrong = reads-otherwise cut left.0 left.1 run.machine.checkpointed 3 inside (λ e. omega (arith, e, seen-cut.2, seen-run.3))

-- The last checkpoint held 7.
pub in-history : ReadInHistory
unfolding cut read_run
in-history =
    record {
      run = run;
      reached = reached.0;
      uncut = seen-run.0;
      running = seen-run.1;
      checkpoint = seen-run.2;
      text = text;
      words = words;
      read = read;
      left = left.0;
      recovered = after;
      cell = 3;
      value = 6;
      reads = reads-six;
      never = reached.1;
      no_history = λ h. wrong (demand3 read_run read_run h h left.0 left.0 after after).0;
    }

-- ---- the reading into the cache

-- The text is read into the cache.
cache_run : Run
cache_run = unfed (lent run.board.state run.board.memory words) run

read-cache : HexReadPerformed text run.board.cache 0 words
unfolding words text run calls fresh hex_read_cause hex_read_causes hex_read_left parsed parsed_from has_end has_data has_record all_bytes bytes_in byte_of sum_of hex_from record_text bytes_text low_bytes word_bytes word_of words_of made made_all after_calls next cause causes first_standing bad_record any_under effect step format_step recovery_step acts numbers_under perform_act perform_first stores_epoch advance advance_of line_of with_line field_index field_of with_field feed changed changed_at count_under fewer advanced checkpoint_step stepped write_back_seen nth_from nth_under bits_in bit_of with_bit contains added size nth strays digit_of unheld held holds_any held_from with_digit
read-cache = refl

-- Cell 3 reads 6, and the machine holds 7.
seen-cache : Taken (Read 3) cache_run.board × (value_of (Read 3) cache_run.board ≡ 6) × (run.machine.current (cell 3) ≡ 7)
unfolding cache_run words value_of value_read run calls fresh made made_all after_calls next cause causes first_standing bad_record any_under effect step format_step recovery_step acts numbers_under perform_act perform_first stores_epoch advance advance_of line_of with_line field_index field_of with_field feed changed changed_at count_under fewer advanced checkpoint_step stepped write_back_seen nth_from nth_under bits_in bit_of with_bit contains added size nth strays digit_of unheld held holds_any held_from with_digit
seen-cache = (refl, refl, refl)

cache-read : Performed (Read 3) cache_run.board 0 6 (next (Read 3) cache_run.board)
cache-read = performing (Read 3) cache_run.board seen-cache.0 (sym seen-cache.1) refl

cache-wrong : 6 ≡ run.machine.current (cell 3) → ⊥
cache-wrong e = omega (arith, e, seen-cache.2)

-- A history would promise the current value.
pub cache-in-history : CacheReadInHistory
unfolding cache_run
cache-in-history =
    record {
      run = run;
      reached = reached.0;
      uncut = seen-run.0;
      text = text;
      words = words;
      read = read-cache;
      cell = 3;
      value = 6;
      left = next (Read 3) cache_run.board;
      seen = cache-read;
      wrong = cache-wrong;
      no_history = λ h. cache-wrong (reads cache_run h seen-run.0 3 6 (next (Read 3) cache_run.board) cache-read);
    }
