-- An entry is made of its bit of each of the two words.
-- Assumes nothing.
use mathlib.Core.Path.{◌≡◌, refl, ap₂, ◌∙◌}
use Prim.Native.Nat.{ℕ, zero, suc, ◌+◌, ◌*◌, ◌≤◌, ◌<◌}
use native.Mathlib.Omega.{arith}
use lib.Dec.{eqb}
use Rattle.ground.specs.Choose.{one}
use Rattle.lanes.specs.Lanes.{bit_at}
use Rattle.lanes.proofs.Bits.{bits_of}
use Rattle.tables.specs.Entries.{fail, unknown}
use Rattle.columns.specs.Entries.{entry_lanes}

-- what the words say of lane i
abbrev pub entry_in : ℕ → ℕ → ℕ → ℕ
entry_in fails unknowns i = bit_at fails i + 2 * bit_at unknowns i

from_bits : (e : ℕ) → e ≤ 2 → one (eqb e fail) + 2 * one (eqb e unknown) ≡ e
from_bits zero l = refl
from_bits (suc zero) l = refl
from_bits (suc (suc zero)) l = refl
from_bits (suc (suc (suc e))) l = absurd (omega arith)

pub entry_in_lem : (e : ℕ → ℕ) (i : ℕ) → i < 64 → e i ≤ 2 → entry_in (entry_lanes e).fails (entry_lanes e).unknowns i ≡ e i
entry_in_lem e i l small =
    ap₂ (λ (f u : ℕ). f + 2 * u) ((bits_of _).bits i l) ((bits_of _).bits i l) ∙ from_bits (e i) small
