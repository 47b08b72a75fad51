-- Document 01, "The drill program", the fault program, "the drill with damage", and the page and HEX programs, which have the drill's lines: what a line of the script means. A line is its bytes, without the line feed.
use Rattle.std.specs.Prelude.{ℕ, ◌-◌, ◌^◌, List, [], ◌∷◌, map, Bool, true, cond, ◌&&◌, leb, ltb, eqb, length}
use Rattle.board.specs.declared.Call.TheVariants.{FormatStart, RecoveryStart, Step, Update, RestartPoint, Advance, Request, WriteBack, Read, GoAway, ComeBack, Count, TakeLock, GiveBackLock}
use Rattle.script.specs.declared.Line.{Line}
use Rattle.script.specs.declared.Line.TheVariants.{Format, Make, Show, Cut, Damage as Damaging, Page as Paging, Text as Texting, Unknown}
use Rattle.script.specs.declared.Damage.TheVariants.{Lengths, Memory, Cache, Dirty, Field, Worker, Holder, Checksum}
use Rattle.script.specs.declared.TextWork.TheVariants as work
use Rattle.script.specs.declared.Program.{Program}
use Rattle.script.specs.declared.Program.TheVariants.{Drill, Fault, Page, Hex}
use Rattle.text.specs.Numbers.{all_digits, value}
use Rattle.text.specs.Ascii.{tab, 'A', 'B', 'C', 'E', 'F', 'G', 'H', 'K', 'M', 'N', 'O', 'P', 'Q', 'R', 'S', 'T', 'U', 'V', 'W', 'X', 'Y', 'a', 'b', 'f', 'h', 'n', 'p', 'y'}

-- A byte put in front of the first field.
abbrev pub joined : ℕ → List (List ℕ) → List (List ℕ)
joined b [] = (b ∷ []) ∷ []
joined b (f ∷ fs) = (b ∷ f) ∷ fs

-- "fields parted by tabs": what stands before, between and after the tabs.
unfoldable pub fields : List ℕ → List (List ℕ)
fields [] = [] ∷ []
fields (b ∷ bs) = cond (eqb b tab) ([] ∷ fields bs) (joined b (fields bs))

-- A field is a number: one digit or more, and not "a number past 2^64 − 1".
unfoldable pub is_number : List ℕ → Bool
is_number f = ltb 0 (length f) && (all_digits f && leb (value f) (2 ^ 64 - 1))

-- Every field is a number.
unfoldable pub all_numbers : List (List ℕ) → Bool
all_numbers [] = true
all_numbers (f ∷ fs) = is_number f && all_numbers fs

-- What a letter of the drill with its numbers asks for; any other letter asks for `other`.
unfoldable pub drilled : ℕ → List ℕ → Line → Line
-- "C (request), S (step), X (cut), R (recovery's start)".
drilled letter [] other =
    cond (eqb letter 'C') (Make Request) (cond (eqb letter 'S') (Make Step) (cond (eqb letter 'X') Cut (cond (eqb letter 'R') (Make RecoveryStart) other)))
-- "A worker", "E line", "G cell (read)".
drilled letter (a ∷ []) other =
    cond (eqb letter 'A') (Make (Advance a)) (cond (eqb letter 'E') (Make (WriteBack a)) (cond (eqb letter 'G') (Show (Read a)) other))
-- "F L W (format to the end)", "P worker number"; 02, ticket 6: "H (take) and V (give back), worker and lock".
drilled letter (a ∷ b ∷ []) other =
    cond (eqb letter 'F') (Format a b) (cond (eqb letter 'P') (Make (RestartPoint a b)) (cond (eqb letter 'H') (Make (TakeLock a b)) (cond (eqb letter 'V') (Make (GiveBackLock a b)) other)))
-- "U worker cell value".
drilled letter (a ∷ b ∷ c ∷ []) other = cond (eqb letter 'U') (Make (Update a b c)) other
drilled letter (a ∷ b ∷ c ∷ d ∷ more) other = other

-- What a letter of the fault program alone with its numbers asks for.
unfoldable pub damaging : ℕ → List ℕ → Line
-- "T": the checksum of everything; "n": the count.
damaging letter [] = cond (eqb letter 'T') (Damaging Checksum) (cond (eqb letter 'n') (Show Count) Unknown)
-- "p room: a page in a text row of `room` bytes"; "h room", "y n": memory written as HEX into the text, and read from it; "a w, b w: going away, coming back".
damaging letter (a ∷ []) =
    cond (eqb letter 'p') (Paging a) (cond (eqb letter 'h') (Texting (work.Write a)) (cond (eqb letter 'y') (Texting (work.Read a)) (cond (eqb letter 'a') (Make (GoAway a)) (cond (eqb letter 'b') (Make (ComeBack a)) Unknown))))
-- "f L W: a format's start alone"; "W m c: the rows' lengths"; "M i v", "N i v", "Q i v: word i .. of the record's line bits", "B k v", "O k h: lock k .. its holder := h", "Y i v: text byte i := v".
damaging letter (a ∷ b ∷ []) =
    cond (eqb letter 'f') (Make (FormatStart a b)) (cond (eqb letter 'W') (Damaging (Lengths a b)) (cond (eqb letter 'M') (Damaging (Memory a b)) (cond (eqb letter 'N') (Damaging (Cache a b)) (cond (eqb letter 'Q') (Damaging (Dirty a b)) (cond (eqb letter 'B') (Damaging (Field a b)) (cond (eqb letter 'O') (Damaging (Holder a b)) (cond (eqb letter 'Y') (Texting (work.Put a b)) Unknown)))))))
damaging letter (a ∷ b ∷ c ∷ []) = Unknown
damaging letter (a ∷ b ∷ c ∷ d ∷ []) = Unknown
-- "K w c n a v".
damaging letter (a ∷ b ∷ c ∷ d ∷ e ∷ []) = cond (eqb letter 'K') (Damaging (Worker a b c d e)) Unknown
damaging letter (a ∷ b ∷ c ∷ d ∷ e ∷ f ∷ more) = Unknown

-- What a letter that is not the drill's asks for in a program.
abbrev pub further : Program → ℕ → List ℕ → Line
further Drill letter numbers = Unknown
further Fault letter numbers = damaging letter numbers
further Page letter numbers = Unknown
further Hex letter numbers = Unknown

-- What a letter with its numbers asks for in a program: "the drill's letters with the same meaning".
abbrev pub command : Program → ℕ → List ℕ → Line
command program letter numbers = drilled letter numbers (further program letter numbers)

-- The first field is one letter, every further one a number.
unfoldable pub formed : Program → List (List ℕ) → Line
formed program [] = Unknown
formed program ([] ∷ fs) = Unknown
formed program ((letter ∷ []) ∷ fs) = cond (all_numbers fs) (command program letter (map value fs)) Unknown
formed program ((a ∷ b ∷ more) ∷ fs) = Unknown

-- "A line of another form, over 79 bytes, or with a number past 2^64 − 1" is unknown.
unfoldable pub meaning : Program → List ℕ → Line
meaning program line = cond (ltb 79 (length line)) Unknown (formed program (fields line))
