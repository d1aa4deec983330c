-- What a node says: the definition and its words, and that it says neither only with an X.
-- Assumes nothing.
use mathlib.Core.Path.{◌≡◌}
use mathlib.Core.Logic.{⊎_elim}
use mathlib.Core.List.{List}
use Prim.Native.Nat.{ℕ, ◌+◌, ◌≤◌, ◌<◌}
use native.Mathlib.Omega.{arith}
use Rattle.ground.proofs.Tests.{either}
use Rattle.circuit.specs.Record.{inputs_before}
use Rattle.circuit.specs.Formed.{WellFormed}
use Rattle.lists.specs.declared.Fault.{Fault}
use Rattle.simulate.specs.Vectors.{NoX}
use Rattle.simulate.specs.Work.{good_of, faulty_of}
use Rattle.entry.specs.Words.{Differ, SomeOutput, EveryOutput, EntryBy}
use Rattle.entry.proofs.Words.{agree-passes, entry_three, fail-some, pass_every, entry_words}
use Rattle.entry.proofs.Decided.{decided}
use Rattle.nodes.specs.Node.{Node, IsNode, count_x}
use Rattle.nodes.proofs.Node.{all_set}
use Rattle.simulate.specs.Owed.{AllSmall}
use Rattle.simulate.proofs.Settled.{shaped}
use Rattle.simulate.proofs.Small.{all_small}
use Rattle.sides.specs.Look.{settled, Settled, look_of}
use Rattle.sides.specs.Owed.{SideReady}

module _ (fault : Fault) (c : List ℕ) (n : ℕ) (s : Node) where
  -- in words: fail at some output; left if every output is settled; otherwise neither
  pub look_says : EntryBy Settled c (good_of c s n) (faulty_of fault c s n) n (look_of fault c n s)
  unfolding look_of
  look_says = entry_words agree-passes c (good_of c s n) (faulty_of fault c s n) n

  -- and backwards
  pub look-fails : look_of fault c n s ≡ 1 → SomeOutput Differ c (good_of c s n) (faulty_of fault c s n) n
  unfolding look_of
  look-fails = fail-some agree-passes c (good_of c s n) (faulty_of fault c s n) n

  pub look-leaves : look_of fault c n s ≡ 0 → EveryOutput Settled c (good_of c s n) (faulty_of fault c s n) n
  unfolding look_of
  look-leaves = pass_every agree-passes c (good_of c s n) (faulty_of fault c s n) n

  pub look_three : look_of fault c n s ≤ 2
  unfolding look_of
  look_three = entry_three settled c (good_of c s n) (faulty_of fault c s n) n

  -- it says neither only with an X
  pub unknown-has_x : fault.value ≤ 1 → WellFormed c (inputs_before c n) n → IsNode (inputs_before c n) s → look_of fault c n s ≡ 2 → 0 < count_x s
  unfolding look_of
  unknown-has_x small well i e = ⊎_elim (λ l. l) (λ l. absurd (without (all_set i (omega arith)) e)) (either 0 (count_x s))
    where
      without : NoX s → look_of fault c n s ≡ 2 → ⊥
      without = decided agree-passes fault c s n small (rw i.size well)

-- a node has no other values than 0, 1 and X
pub node_small : {n : ℕ} {s : Node} → IsNode n s → AllSmall s
node_small {n} {s} i = all_small s (λ k l. i.bytes k (omega (arith, i.size)))

-- what a search of an accepted circuit needs
pub prepared : (fault : Fault) (c : List ℕ) (n room : ℕ) → WellFormed c (inputs_before c n) n → fault.line < n → fault.value ≤ 1 → room ≡ n + n → SideReady c fault n room
prepared fault c n room well line small two = record {
  shaped = shaped well;
  line = line;
  value = small;
  looks = record { three = λ s i. look_three fault c n s; unknown = λ s i. unknown-has_x fault c n s small well i };
  two = two;
}
