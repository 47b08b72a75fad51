use Prim.Native.Nat.{ℕ, ◌+◌, ◌*◌, ◌/◌, ◌<◌}
use mathlib.Core.Path.{◌≡◌, ◌∙◌}
use mathlib.Core.List.{List, []}
use mathlib.Core.Bool.{true}
use native.Mathlib.Omega.{arith}
use lib.ListN.{length, get_or}
use Rattle.std.specs.Simd.{first_chunks}
use Rattle.board.specs.Hex.{byte_of, bytes_in, all_bytes}
use Rattle.intel_hex.proofs.Chunks.{pair_at}
use Rattle.intel_hex.proofs.Stored.{text-byte, filled-begins, filled_more, filled-ends}
use Rattle.intel_hex.proofs.storing.store_bytes.Goals as goal

module _ {pairs : List (List ℕ)} (digits : List ℕ) (k : ℕ) (e : pairs ≡ first_chunks 2 (length digits / 2) digits) (h : k < length digits / 2) where
  -- Pair `k` is the digits of byte `k`.
  same : byte_of (get_or (get_or pairs k []) 0 0) (get_or (get_or pairs k []) 1 0) ≡ byte_of (get_or digits (2 * k) 0) (get_or digits (2 * k + 1) 0)
  same = let p = pair_at digits k e h in (λ i. byte_of (p.0 i) (p.1 i))

  -- And that is a byte.
  under : all_bytes (bytes_in (length digits / 2) digits) ≡ true → byte_of (get_or (get_or pairs k []) 0 0) (get_or (get_or pairs k []) 1 0) < 256
  under a = omega (arith, same, text-byte (length digits / 2) digits k a h)

pub loop-k-init : goal.loop-k-init
loop-k-init c = filled-begins _ _ _ _

pub byte_of-requires : goal.byte_of-requires
byte_of-requires c =
    under c.args.digits.now c.loop-k.k c.as_chunks.ensures.front (omega (arith, c.loop-k-test.true, c.as_chunks.ensures.front_len)) c.requires.0

pub overflow_mul-row : goal.overflow_mul-row
overflow_mul-row c =
    let u = under c.args.digits.now c.loop-k.k c.as_chunks.ensures.front (omega (arith, c.loop-k-test.true, c.as_chunks.ensures.front_len)) c.requires.0 in
    record { fits = omega (arith, c.byte_of.ensures) }

pub overflow_add-row : goal.overflow_add-row
overflow_add-row c =
    let u = under c.args.digits.now c.loop-k.k c.as_chunks.ensures.front (omega (arith, c.loop-k-test.true, c.as_chunks.ensures.front_len)) c.requires.0 in
    record { fits = omega (arith, c.byte_of.ensures) }

pub loop-k-preserved : goal.loop-k-preserved
loop-k-preserved c =
    let d = c.args.digits.now in
    let h : c.loop-k.k < length d / 2 = omega (arith, c.loop-k-test.true, c.as_chunks.ensures.front_len) in
    filled_more c.loop-k.invariant h (c.byte_of.ensures ∙ same d c.loop-k.k c.as_chunks.ensures.front h)

pub returns : goal.returns
returns c = filled-ends c.loop-k.invariant (omega (arith, c.loop-k-test.false, c.as_chunks.ensures.front_len))
