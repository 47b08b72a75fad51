-- THE THEOREMS about single calls: every statement of `specs/Steps.antt`, proved.
use Rattle.board.specs.Steps.{FormatWrites, RecoveryWrites, Releases, LastStore, TableBothWays, FormatStarts, FormatBegins, RecoveryBegins, RecoveryTakes, Requests, FormatOpens, RecoveryOpens, GoesAway, ComesBack, OthersStay}
use Rattle.board.proofs.Steps.Format
use Rattle.board.proofs.Steps.Recovery
use Rattle.board.proofs.Steps.Workers
use Rattle.board.proofs.Steps.Others
use Rattle.board.proofs.Steps.Table
use Rattle.board.proofs.Steps.Starts
use Rattle.board.proofs.Steps.Opens

-- 1. Each step of a format writes its own line in both rows, and no other.
pub format-writes : FormatWrites
format-writes = Format.format-writes

-- 2. A recovery's step writes nothing but the cell at its place.
pub recovery-writes : RecoveryWrites
recovery-writes = Recovery.recovery-writes

-- 3. A release frees the eight workers but those that are away, and stores nothing.
pub releases : Releases
releases = Workers.releases

-- 4. The last store of an update leaves the worker waiting exactly at a restart point under a request.
pub last-store : LastStore
last-store = Workers.last-store

-- 5. A call is taken exactly when no line of its table stands, and refused by the first that does; a format within the limits starts.
pub table-both-ways : TableBothWays
table-both-ways = Table.table-both-ways

pub format-starts : FormatStarts
format-starts = Table.format-starts

-- 6. The two starts set every field; a format's changes no row, a recovery's copies memory to cache.
pub format-begins : FormatBegins
format-begins = Starts.format-begins

pub recovery-begins : RecoveryBegins
recovery-begins = Starts.recovery-begins

-- Recovery's start takes exactly the boards that can be recovered.
pub recovery-takes : RecoveryTakes
recovery-takes = Starts.recovery-takes

-- 7. A request sets the place and nothing else; the end of a format or recovery opens the board.
pub requests : Requests
requests = Opens.requests

pub format-opens : FormatOpens
format-opens = Opens.format-opens

pub recovery-opens : RecoveryOpens
recovery-opens = Opens.recovery-opens

-- 8. Going away and coming back change that worker's condition and nothing else; every call leaves the workers that it does not name in theirs.
pub goes-away : GoesAway
goes-away = Workers.goes-away

pub comes_back_lem : ComesBack
comes_back_lem = Workers.comes_back_lem

pub others-stay : OthersStay
others-stay = Others.others-stay
