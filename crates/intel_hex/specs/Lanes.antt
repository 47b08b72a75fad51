-- Four numbers in one word, sixteen bits each, as the private functions that write and read a word's digits hold them.
use Rattle.std.specs.Prelude.{ℕ, ◌+◌, ◌*◌, ◌/◌, ◌%◌, ◌<◌, ◌≡◌}
use Rattle.board.specs.Hex.{hex_character}

-- Four numbers, the lowest first.
unfoldable pub lanes : ℕ → ℕ → ℕ → ℕ → ℕ
lanes a b c d = a + 65536 * b + 4294967296 * c + 281474976710656 * d

-- The four bytes of half a word.
unfoldable pub spaced : ℕ → ℕ
spaced half = lanes (half % 256) (half / 256 % 256) (half / 65536 % 256) (half / 16777216 % 256)

-- A byte's two characters, the first of them low.
unfoldable pub pair_of : ℕ → ℕ
pair_of b = hex_character (b / 16) + 256 * hex_character (b % 16)

-- Where `bytes` are four bytes, `pairs` are their characters.
pub record Paired (bytes pairs : ℕ) : Type 0 where
  pub each : (a b c d : ℕ) → a < 256 → b < 256 → c < 256 → d < 256 → bytes ≡ lanes a b c d → pairs ≡ lanes (pair_of a) (pair_of b) (pair_of c) (pair_of d)
