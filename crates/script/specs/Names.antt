-- What messages call a program and the reason why a line is answered `?`.
use Rattle.std.specs.Prelude.{ℕ, List, codes}
use Rattle.script.specs.declared.Program.{Program}
use Rattle.script.specs.declared.Program.TheVariants.{Drill, Fault, Page, Hex}
use Rattle.script.specs.declared.Reason.{Reason}
use Rattle.script.specs.declared.Reason.TheVariants.{Long, ByteOrderMark, CarriageReturn, Blanks, Empty, Letter, Past, NoNumber, Count, Unfit}

abbrev pub name_of : Program → List ℕ
name_of Drill = codes "drill"
name_of Fault = codes "fault"
name_of Page = codes "page"
name_of Hex = codes "hex"

abbrev pub words_of : Reason → List ℕ
words_of Long = codes "over 79 bytes"
words_of ByteOrderMark = codes "it begins with a byte-order mark"
words_of CarriageReturn = codes "a carriage return"
words_of Blanks = codes "blanks where tabs belong"
words_of Empty = codes "an empty line"
words_of Letter = codes "unknown letter"
words_of Past = codes "a number past 2^64 - 1"
words_of NoNumber = codes "a field that is no number"
words_of Count = codes "too few or too many numbers"
words_of Unfit = codes "a number that cannot be put there"
