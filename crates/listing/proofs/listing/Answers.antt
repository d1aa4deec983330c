-- `listing::listing` meets its contract: a refusal of the circuit, or the rest.
-- Assumes nothing.
use native.Mathlib.Omega.{arith}
use Rattle.listing.proofs.Whole.{circuit_listed}
use Rattle.circuit.proofs.Accepted.{accepts, refuses, known}
use Rattle.listing.proofs.listing.Goals as goal

pub put_accepted-requires : goal.put_accepted-requires
put_accepted-requires c = (known (accepts c.in-Ok.is c.check-v.ensures), omega arith, omega arith)

pub returns-in-Err : goal.returns-in-Err
returns-in-Err c = circuit_listed (omega arith) (refuses c.in-Err.is c.check-v.ensures) (rw c.number.ensures at c.put_refused.ensures)
