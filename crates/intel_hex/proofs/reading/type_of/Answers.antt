-- `hex::reading::type_of` meets its contract.
use Prim.Native.Nat.{ℕ}
use mathlib.Core.Path.{◌≡◌, sym, ◌∙◌}
use mathlib.Core.Bool.{false}
use mathlib.Core.List.{List}
use native.Mathlib.Omega.{arith}
use lib.ListN.{get_or}
use Rattle.std.specs.Prelude.{Option, Some, None, MatchOption}
use Rattle.board.specs.Hex.{byte_of, has_record, type_of}
use Rattle.intel_hex.proofs.Fronts.{front-type, no-byte}
use Rattle.intel_hex.proofs.reading.type_of.Goals as goal

typed : (text : List ℕ) (byte : Option ℕ) → MatchOption byte (byte_of (get_or text 7 0) (get_or text 8 0) ≡ 256) (λ b. b ≡ byte_of (get_or text 7 0) (get_or text 8 0)) →
    MatchOption byte (has_record text ≡ false) (λ n. n ≡ type_of text)
typed text None e = no-byte text 3 (omega arith) e
typed text (Some b) e = e ∙ sym (front-type text)

pub returns : goal.returns
returns c = typed c.args.text.now c.byte.result c.byte.ensures
