-- `hex::reading::address_of` meets its contract.
use native.Mathlib.Omega.{arith}
use Rattle.intel_hex.proofs.Fronts.{front-address, no-byte}
use Rattle.intel_hex.proofs.reading.address_of.Goals as goal

pub returns-in_err-byte : goal.returns-in_err-byte
returns-in_err-byte c = rw c.from_residual.ensures (no-byte c.args.text.now 1 (omega arith) c.in_err-byte.ensures)

pub returns-in_err-byte-2 : goal.returns-in_err-byte-2
returns-in_err-byte-2 c = rw c.from_residual-in_err-byte-2.ensures (no-byte c.args.text.now 2 (omega arith) c.in_err-byte-2.ensures)

pub returns : goal.returns
returns c = omega (arith, c.from_be_bytes.ensures, c.in_ok-byte.ensures, c.in_ok-byte-2.ensures, front-address c.args.text.now)
