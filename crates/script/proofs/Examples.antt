-- Worked examples of document 01's drill lines, computed.
use mathlib.Core.Path.{◌≡◌, refl}
use mathlib.Core.List.{List, [], ◌∷◌, ◌++◌, map}
use Prim.Native.Nat.{ℕ}
use lib.ListN.{replicate}
use Rattle.board.specs.declared.Call.TheVariants.{FormatStart, Step, Update, RestartPoint, Read, GoAway, ComeBack, Count, TakeLock, GiveBackLock}
use Rattle.script.specs.declared.Line.{Line}
use Rattle.script.specs.declared.Line.TheVariants.{Format, Make, Show, Cut, Damage as Damaging, Page as Paging, Text as Texting, Unknown}
use Rattle.script.specs.declared.Damage.TheVariants.{Lengths, Dirty, Field, Worker, Holder, Checksum}
use Rattle.script.specs.declared.TextWork.TheVariants as work
use Rattle.script.specs.declared.Program.TheVariants.{Drill, Fault, Page, Hex}
use Rattle.script.specs.declared.Shown.TheVariants as shown
use Rattle.text.specs.Ascii.{tab, feed, '-', '0', '9', '?', 'A', 'B', 'F', 'G', 'H', 'K', 'O', 'P', 'Q', 'S', 'T', 'U', 'V', 'W', 'X', 'Y', 'a', 'b', 'f', 'h', 'n', 'p', 'y'}
use Rattle.text.specs.Numbers.{spelled, all_digits, value_after}
use Rattle.script.specs.Grammar.{fields, is_number, all_numbers, drilled, damaging, formed, meaning}
use Rattle.script.specs.Answers.{answer_text}

-- A line of the script, and what it means.
pub record Example : Type 0 where
  pub text : List ℕ
  pub means : Line

abbrev row : List ℕ → Line → Example
row text means = record { text = text; means = means }

-- "18446744073709551615", 2^64 − 1.
abbrev most : List ℕ
most = 49 ∷ 56 ∷ 52 ∷ 52 ∷ 54 ∷ 55 ∷ 52 ∷ 52 ∷ 48 ∷ 55 ∷ 51 ∷ 55 ∷ 48 ∷ 57 ∷ 53 ∷ 53 ∷ 49 ∷ 54 ∷ 49 ∷ 53 ∷ []

abbrev pub examples : List Example
examples =
    -- "F 1 1", "U 0 1 7", "P 0 3", "H 0 9", "V 5 0", "S" and "X", with tabs for blanks.
    row ('F' ∷ tab ∷ 49 ∷ tab ∷ 49 ∷ []) (Format 1 1) ∷
    row ('U' ∷ tab ∷ '0' ∷ tab ∷ 49 ∷ tab ∷ 55 ∷ []) (Make (Update 0 1 7)) ∷
    row ('P' ∷ tab ∷ '0' ∷ tab ∷ 51 ∷ []) (Make (RestartPoint 0 3)) ∷
    row ('H' ∷ tab ∷ '0' ∷ tab ∷ '9' ∷ []) (Make (TakeLock 0 9)) ∷
    row ('V' ∷ tab ∷ 53 ∷ tab ∷ '0' ∷ []) (Make (GiveBackLock 5 0)) ∷
    row ('S' ∷ []) (Make Step) ∷
    row ('X' ∷ []) Cut ∷
    -- "G 01": leading zeros are allowed.
    row ('G' ∷ tab ∷ '0' ∷ 49 ∷ []) (Show (Read 1)) ∷
    -- An empty line.
    row [] Unknown ∷
    -- "A 0" and "S" with a tab behind them: an empty field.
    row ('A' ∷ tab ∷ '0' ∷ tab ∷ []) Unknown ∷
    row ('S' ∷ tab ∷ []) Unknown ∷
    -- "U 0 1 7 9", "A" and "V 5": a number too many, and one too few.
    row ('U' ∷ tab ∷ '0' ∷ tab ∷ 49 ∷ tab ∷ 55 ∷ tab ∷ '9' ∷ []) Unknown ∷
    row ('A' ∷ []) Unknown ∷
    row ('V' ∷ tab ∷ 53 ∷ []) Unknown ∷
    -- A carriage return, a blank, a sign, a small letter.
    row ('S' ∷ 13 ∷ []) Unknown ∷
    row ('A' ∷ 32 ∷ '0' ∷ []) Unknown ∷
    row ('G' ∷ tab ∷ '-' ∷ 49 ∷ []) Unknown ∷
    row (115 ∷ []) Unknown ∷
    -- 2^64 − 1, and one more.
    row ('G' ∷ tab ∷ most) (Show (Read 18446744073709551615)) ∷
    row ('G' ∷ tab ∷ 49 ∷ 56 ∷ 52 ∷ 52 ∷ 54 ∷ 55 ∷ 52 ∷ 52 ∷ 48 ∷ 55 ∷ 51 ∷ 55 ∷ 48 ∷ 57 ∷ 53 ∷ 53 ∷ 49 ∷ 54 ∷ 49 ∷ 54 ∷ []) Unknown ∷
    -- 79 bytes, most of them leading zeros, and 80.
    row ('G' ∷ tab ∷ (replicate 57 '0' ++ most)) (Show (Read 18446744073709551615)) ∷
    row ('G' ∷ tab ∷ (replicate 58 '0' ++ most)) Unknown ∷
    []

pub lines-mean : map (λ (e : Example). meaning Drill e.text) examples ≡ map (λ (e : Example). e.means) examples
unfolding fields all_digits value_after is_number all_numbers drilled damaging formed meaning
lines-mean = refl

-- The fault program's own letters: "T", "n", "p 9", "h 9", "y 9", "Y 9 7", "a 7", "b 0", "f 1 1", "W 9 9", "Q 7 5", "B 6 1", "K 7 2 0 9 5" and "O 9 7", with tabs for blanks, and two of the drill's letters.
abbrev pub damages : List Example
damages =
    row ('T' ∷ []) (Damaging Checksum) ∷
    row ('n' ∷ []) (Show Count) ∷
    row ('p' ∷ tab ∷ '9' ∷ []) (Paging 9) ∷
    row ('h' ∷ tab ∷ '9' ∷ []) (Texting (work.Write 9)) ∷
    row ('y' ∷ tab ∷ '9' ∷ []) (Texting (work.Read 9)) ∷
    row ('Y' ∷ tab ∷ '9' ∷ tab ∷ 55 ∷ []) (Texting (work.Put 9 7)) ∷
    row ('a' ∷ tab ∷ 55 ∷ []) (Make (GoAway 7)) ∷
    row ('b' ∷ tab ∷ '0' ∷ []) (Make (ComeBack 0)) ∷
    row ('f' ∷ tab ∷ 49 ∷ tab ∷ 49 ∷ []) (Make (FormatStart 1 1)) ∷
    row ('W' ∷ tab ∷ '9' ∷ tab ∷ '9' ∷ []) (Damaging (Lengths 9 9)) ∷
    row ('Q' ∷ tab ∷ 55 ∷ tab ∷ 53 ∷ []) (Damaging (Dirty 7 5)) ∷
    row ('B' ∷ tab ∷ 54 ∷ tab ∷ 49 ∷ []) (Damaging (Field 6 1)) ∷
    row ('K' ∷ tab ∷ 55 ∷ tab ∷ 50 ∷ tab ∷ '0' ∷ tab ∷ '9' ∷ tab ∷ 53 ∷ []) (Damaging (Worker 7 2 0 9 5)) ∷
    row ('O' ∷ tab ∷ '9' ∷ tab ∷ 55 ∷ []) (Damaging (Holder 9 7)) ∷
    row ('S' ∷ []) (Make Step) ∷
    row ('H' ∷ tab ∷ 55 ∷ tab ∷ '9' ∷ []) (Make (TakeLock 7 9)) ∷
    -- No number, and two.
    row ('a' ∷ []) Unknown ∷
    row ('b' ∷ []) Unknown ∷
    row ('a' ∷ tab ∷ 55 ∷ tab ∷ '0' ∷ []) Unknown ∷
    row ('b' ∷ tab ∷ 55 ∷ tab ∷ '0' ∷ []) Unknown ∷
    -- One number, and three.
    row ('n' ∷ tab ∷ '0' ∷ []) Unknown ∷
    row ('Y' ∷ tab ∷ '9' ∷ []) Unknown ∷
    row ('W' ∷ tab ∷ '9' ∷ tab ∷ '9' ∷ tab ∷ '9' ∷ []) Unknown ∷
    -- Four numbers, and six.
    row ('K' ∷ tab ∷ 55 ∷ tab ∷ 50 ∷ tab ∷ '0' ∷ tab ∷ '9' ∷ []) Unknown ∷
    row ('K' ∷ tab ∷ 55 ∷ tab ∷ 50 ∷ tab ∷ '0' ∷ tab ∷ '9' ∷ tab ∷ 53 ∷ tab ∷ 53 ∷ []) Unknown ∷
    []

pub damages-mean : map (λ (e : Example). meaning Fault e.text) damages ≡ map (λ (e : Example). e.means) damages
unfolding fields all_digits value_after is_number all_numbers drilled damaging formed meaning
damages-mean = refl

-- No other program knows any of them.
abbrev pub undrilled : List (List ℕ)
undrilled =
    ('T' ∷ []) ∷ ('n' ∷ []) ∷ ('p' ∷ tab ∷ '9' ∷ []) ∷ ('a' ∷ tab ∷ 55 ∷ []) ∷ ('b' ∷ tab ∷ '0' ∷ []) ∷ ('f' ∷ tab ∷ 49 ∷ tab ∷ 49 ∷ []) ∷ ('O' ∷ tab ∷ '9' ∷ tab ∷ 55 ∷ []) ∷ ('h' ∷ tab ∷ '9' ∷ []) ∷ ('y' ∷ tab ∷ '9' ∷ []) ∷ ('Y' ∷ tab ∷ '9' ∷ tab ∷ 55 ∷ []) ∷ []

pub damages-unknown : map (meaning Drill) undrilled ++ map (meaning Page) undrilled ++ map (meaning Hex) undrilled ≡ replicate 30 Unknown
unfolding fields all_digits value_after is_number all_numbers drilled damaging formed meaning
damages-unknown = refl

-- "13 G 0 0", "9 S 0 -" and an unknown line, with tabs for blanks.
pub answers-read : answer_text 13 'G' (shown.Number 0) (shown.Number 0) ∷ answer_text 9 'S' (shown.Number 0) shown.Nothing ∷ answer_text 2 '?' shown.Unknown shown.Nothing ∷ [] ≡ (49 ∷ 51 ∷ tab ∷ 'G' ∷ tab ∷ '0' ∷ tab ∷ '0' ∷ feed ∷ []) ∷ ('9' ∷ tab ∷ 'S' ∷ tab ∷ '0' ∷ tab ∷ '-' ∷ feed ∷ []) ∷ (50 ∷ tab ∷ '?' ∷ tab ∷ '?' ∷ tab ∷ '-' ∷ feed ∷ []) ∷ []
unfolding spelled answer_text
answers-read = refl
