-- Without X no entry is unknown, with masks or without.
-- Assumes nothing.
use mathlib.Core.Path.{◌≡◌}
use mathlib.Core.List.{List}
use Prim.Native.Nat.{ℕ, ◌<◌, ◌≤◌}
use native.Mathlib.Decide.{ℕ_discrete}
use native.Mathlib.Omega.{arith}
use lib.ListN.{length, get_or}
use Rattle.circuit.specs.Record.{out_at}
use Rattle.circuit.specs.Formed.{WellFormed}
use Rattle.lists.specs.declared.Fault.{Fault}
use Rattle.simulate.specs.Simulate.{unforced, stuck_at}
use Rattle.simulate.specs.Vectors.{NoX}
use Rattle.simulate.specs.Work.{good_of, faulty_of}
use Rattle.simulate.proofs.Keeps.{unforced_keeps, stuck_keeps}
use Rattle.simulate.proofs.Known.{values_known}
use Rattle.tables.specs.Entries.{unknown}
use Rattle.entry.specs.Entry.{Test, entry_by}
use Rattle.entry.specs.Words.{Differ, Agree, SomeOutput, EntryBy}
use Rattle.entry.proofs.Words.{Passes, entry_words}

module _ {t : Test} {P : ℕ → ℕ → Type 0} (passes : Passes t P) where
  -- known values at every output differ at one, or agree at all
  pub known_decided : (c g f : List ℕ) (n : ℕ) → ((k : ℕ) → k < n → out_at c k ≡ 1 → (get_or g k 0 < 2) × (get_or f k 0 < 2)) → entry_by t c g f n ≡ unknown → ⊥
  known_decided c g f n known e =
      omega (arith, words.is_pass (λ k l out. passes.covers _ _ (go k l out (ℕ_discrete (get_or g k 0) (get_or f k 0)))))
    where
      words : EntryBy P c g f n (entry_by t c g f n)
      words = entry_words passes c g f n

      go : (k : ℕ) → k < n → out_at c k ≡ 1 → Dec (get_or g k 0 ≡ get_or f k 0) → Agree (get_or g k 0) (get_or f k 0)
      go k l out (yes q) = let both = known k l out in record { good_known = both.0; faulty_known = both.1; equal = q }
      go k l out (no d) =
          let both = known k l out in
          let there : SomeOutput Differ c g f n =
          (k, record { inside = l; output = out; holds = record { good_known = both.0; faulty_known = both.1; differ = d } }) in
          absurd (omega (arith, words.is_fail there))

  pub decided : (fault : Fault) (c p : List ℕ) (n : ℕ)
      → fault.value ≤ 1
      → WellFormed c (length p) n
      → NoX p
      → entry_by t c (good_of c p n) (faulty_of fault c p n) n ≡ unknown
      → ⊥
  decided fault c p n small well full =
      known_decided c (good_of c p n) (faulty_of fault c p n) n
      (λ k _ _. (
        values_known unforced (unforced_keeps 2) c p n well full k,
        values_known (stuck_at fault) (stuck_keeps 2 fault (omega arith)) c p n well full k,
      ))
