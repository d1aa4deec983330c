-- How long the records are: eight bytes each.
-- Assumes nothing.
use mathlib.Core.Path.{◌≡◌, refl}
use mathlib.Core.Bool.{Bool, true, false}
use mathlib.Core.List.{List}
use Prim.Native.Nat.{ℕ, ◌*◌}
use native.Mathlib.Omega.{arith}
use lib.Dec.{ltb}
use lib.ListN.{length}
use Rattle.ground.specs.Choose.{choose}
use Rattle.ground.proofs.Gather.{gather-length}
use Rattle.little.specs.Little.{le}
use Rattle.records.specs.Net.{Net, record_on, records_to}
use Rattle.records.specs.Owed.{Lined, record_of, gate_record, record_by, records_by}

pub record_length : (net : Net) (k : ℕ) → length (record_on net k) ≡ 8
unfolding record_on le
record_length net k = refl

pub records_length : (net : Net) (k : ℕ) → length (records_to net k) ≡ 8 * k
unfolding records_to
records_length net k = omega (arith, gather-length (record_on net) 8 (record_length net) k)

-- as they are written
record_by_length : (l : Lined) (k : ℕ) → length (record_by l k) ≡ 8
unfolding record_by gate_record record_of le
record_by_length l k = chosen (ltb k l.net.inputs) _ _ refl refl
  where
    chosen : (t : Bool) (a b : List ℕ) → length a ≡ 8 → length b ≡ 8 → length (choose t a b) ≡ 8
    chosen true a b e f = e
    chosen false a b e f = f

pub records_by_length : (l : Lined) (k : ℕ) → length (records_by l k) ≡ 8 * k
records_by_length l k = omega (arith, gather-length (record_by l) 8 (record_by_length l) k)
