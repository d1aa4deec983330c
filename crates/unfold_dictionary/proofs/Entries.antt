-- The entry over the unfolded circuit's outputs is that over the lines of the clocked circuit that are looked at.
-- Assumes nothing.
use mathlib.Core.Path.{◌≡◌}
use mathlib.Core.List.{List}
use Prim.Native.Nat.{ℕ, ◌+◌, ◌*◌, ◌<◌}
use native.Mathlib.Omega.{arith}
use lib.ListN.{get_or}
use Rattle.circuit.specs.Record.{lines_of, out_at}
use Rattle.circuit.specs.Formed.{Good}
use Rattle.lists.specs.Faults.{FaultLayout, fault_at}
use Rattle.simulate.specs.Simulate.{unforced, stuck_at, in_steps, values_to}
use Rattle.simulate.specs.Work.{good_of}
use Rattle.simulate.specs.Owed.{AllSmall}
use Rattle.simulate.proofs.Keeps.{unforced_keeps, stuck_keeps}
use Rattle.tables.specs.Entries.{pass, fail}
use Rattle.entry.specs.Entry.{entry_under}
use Rattle.entry.specs.Words.{Differ, AsExpected, AtOutput, SomeOutput, EveryOutput, Chosen}
use Rattle.entry.proofs.Words.{expected_passes, fail-some, pass_every, entry_says, says_entry}
use Rattle.states.specs.Rules.{lines_after, GoodSteps}
use Rattle.unfolded.specs.Unfolded.{unfolded}
use Rattle.unfolded.proofs.Steps.{line_inside, by_steps}
use Rattle.clocked.proofs.Values.{unfolded_values}
use Rattle.clocked.proofs.Faults.{unforced-leaves, fault_leaves}
use Rattle.unfold_dictionary.specs.Promise.{in_every_step}
use Rattle.unfold_dictionary.specs.Words.{LookedIn, values_in, ThereHolds, StepsEntry}
use Rattle.unfold_dictionary.proofs.Looked.{output_looked, looked_output}

-- a choice by other words that say the same
chosen_by : {F P F' P' : Type 0} {e : ℕ} → (F' → F) → (F → F') → (P' → P) → (P → P') → Chosen F P e → Chosen F' P' e
chosen_by fails failed passes passed w = record {
  is_fail = λ f. w.is_fail (fails f);
  is_pass = λ p. w.is_pass (passes p);
  is_unknown = λ no never. w.is_unknown (λ f. no (failed f)) (λ p. never (passed p));
}

module _ {c st : List ℕ} {k : ℕ} (good : Good c) (steps : GoodSteps c st k) (p : List ℕ) (small : AllSmall p) where
  abbrev u : List ℕ
  u = unfolded c st k

  module _ (i m : ℕ) (h : i < k) (l : m < lines_of c) where
    pub good-there : get_or (good_of u p (lines_after c k)) (i * lines_of c + m) 0 ≡ get_or (values_in unforced c st p i) m 0
    unfolding in_steps
    good-there = unfolded_values good steps unforced (unforced-leaves c) p (record { keeps = unforced_keeps 3; pattern = small }) i m h l

  module _ (fs : List ℕ) (j : ℕ) (layout : FaultLayout c fs j) where
    abbrev forced : List ℕ
    forced = values_to (in_every_step c (fault_at fs j)) u p (lines_after c k)

    pub faulty-there : (i m : ℕ) → i < k → m < lines_of c → get_or forced (i * lines_of c + m) 0 ≡ get_or (values_in (stuck_at (fault_at fs j)) c st p i) m 0
    faulty-there =
        unfolded_values good steps (stuck_at (fault_at fs j)) (fault_leaves c fs j layout) p
        (record { keeps = stuck_keeps 3 (fault_at fs j) (omega (arith, layout.value)); pattern = small })

    -- whatever is asked of good and faulty values
    module _ (P : ℕ → ℕ → Type 0) where
      abbrev There : ℕ → ℕ → Type 0
      There = ThereHolds P (fault_at fs j) c st p

      to_there : (i m : ℕ) → i < k → m < lines_of c → P (get_or (good_of u p (lines_after c k)) (i * lines_of c + m) 0) (get_or forced (i * lines_of c + m) 0) → There i m
      to_there i m h l w = rw (good-there i m h l, faulty-there i m h l) at w

      from_there : (i m : ℕ) → i < k → m < lines_of c → There i m → P (get_or (good_of u p (lines_after c k)) (i * lines_of c + m) 0) (get_or forced (i * lines_of c + m) 0)
      from_there i m h l w = rw (good-there i m h l, faulty-there i m h l) w

      some-looked : SomeOutput P u (good_of u p (lines_after c k)) forced (lines_after c k) → (i m : ℕ) × LookedIn c st k i m × There i m
      some-looked (l, w) =
          by_steps (λ l. AtOutput P u (good_of u p (lines_after c k)) forced (lines_after c k) l → (i m : ℕ) × LookedIn c st k i m × There i m) (lines_of c) k
          (λ i m h g at. (i, m, output_looked c st k i m h g at.output, to_there i m h g at.holds))
          l w.inside w

      looked-some : (i m : ℕ) × LookedIn c st k i m × There i m → SomeOutput P u (good_of u p (lines_after c k)) forced (lines_after c k)
      looked-some (i, m, w, there) = (
        i * lines_of c + m,
        record {
          inside = line_inside (lines_of c) i m w.line k w.step;
          output = looked_output c st k i m w;
          holds = from_there i m w.step w.line there;
        },
      )

      every_looked : EveryOutput P u (good_of u p (lines_after c k)) forced (lines_after c k) → (i m : ℕ) → LookedIn c st k i m → There i m
      every_looked all i m w =
          to_there i m w.step w.line (all (i * lines_of c + m) (line_inside (lines_of c) i m w.line k w.step) (looked_output c st k i m w))

      looked_every : ((i m : ℕ) → LookedIn c st k i m → There i m) → EveryOutput P u (good_of u p (lines_after c k)) forced (lines_after c k)
      looked_every all =
          by_steps (λ l. out_at u l ≡ 1 → P (get_or (good_of u p (lines_after c k)) l 0) (get_or forced l 0)) (lines_of c) k
          (λ i m h g out. from_there i m h g (all i m (output_looked c st k i m h g out)))

    abbrev entry : ℕ
    entry = entry_under (in_every_step c (fault_at fs j)) u p (lines_after c k)

    pub steps_entry : StepsEntry (fault_at fs j) c st k p entry
    unfolding entry_under
    steps_entry =
        chosen_by (looked-some Differ) (some-looked Differ) (looked_every AsExpected) (every_looked AsExpected)
        (entry_says u (good_of u p (lines_after c k)) forced (lines_after c k))

    pub one_entry : {e : ℕ} → StepsEntry (fault_at fs j) c st k p e → e ≡ entry
    unfolding entry_under
    one_entry w =
        says_entry u (good_of u p (lines_after c k)) forced (lines_after c k)
        (chosen_by (some-looked Differ) (looked-some Differ) (every_looked AsExpected) (looked_every AsExpected) w)

    -- and read backwards
    pub fail-looked : entry ≡ fail → (i m : ℕ) × LookedIn c st k i m × There Differ i m
    unfolding entry_under
    fail-looked e = some-looked Differ (fail-some expected_passes u (good_of u p (lines_after c k)) forced (lines_after c k) e)

    pub pass-looked : entry ≡ pass → (i m : ℕ) → LookedIn c st k i m → There AsExpected i m
    unfolding entry_under
    pass-looked e = every_looked AsExpected (pass_every expected_passes u (good_of u p (lines_after c k)) forced (lines_after c k) e)
