-- Fault i at a node: what is lent of the memory for the tests, and reaches, counts and tests when it has come back.
-- Assumes nothing.
use mathlib.Core.Path.{◌≡◌, refl}
use mathlib.Core.Bool.{Bool}
use mathlib.Core.List.{List}
use Prim.Native.Nat.{ℕ, ◌+◌, ◌*◌, ◌≤◌, ◌<◌}
use native.Mathlib.Omega.{arith}
use lib.ListN.{length, get_or, set}
use lib.Seq.{get_or-set_same, get_or-set_other}
use Rattle.lists.specs.declared.Fault.{Fault}
use Rattle.lists.specs.Faults.{fault_at}
use Rattle.lists.proofs.Patterns.{part_fits}
use Rattle.lists.proofs.Parts.{lent, back, lent_long, lent_piece, back-same, back_other}
use Rattle.nodes.specs.Node.{Node}
use Rattle.standings.proofs.Levels.{asleep_at}
use Rattle.meetings.specs.Owed.{ListReady, MeetReady, MeetDone, Held, MeetAllReady, MeetAtDone}

-- the test of fault i lies in the memory for the tests
pub test_fits : {c fs : List ℕ} {n inputs b reaches k tests room i : ℕ} → ListReady c fs n inputs b reaches k tests room → i < reaches → i * inputs + inputs ≤ tests
test_fits {inputs = inputs} {reaches = reaches} {i = i} r h = omega (arith, part_fits i reaches inputs h, r.tests_are)

module _ (alone : Bool) {c fs : List ℕ} (bs : List ℕ) (held : Held) {n : ℕ} {s : Node} {level i : ℕ} {w : List ℕ}
    (r : MeetAllReady alone c fs n s level (length bs) (length held.0) (length held.1) (length held.2) w) (h : i < length held.0) where
  -- a fault that does not look at the level leaves as it came
  pub unmet : get_or held.0 i 0 < level → MeetAtDone alone c fs bs n s level i held held w
  unmet l = record { met = asleep_at alone l; others = λ j b d. record { reach = refl; count = refl; test = refl }; good = r.good }

  -- one that does finds its test lent
  pub meet_ready : {fault : Fault} → fault ≡ fault_at fs i → MeetReady alone c fault n s level (length (lent (i * length s) (length s) held.2)) w
  meet_ready e = record {
    shaped = r.list.shaped;
    line = rw e (r.list.lines i h);
    value = rw e (r.list.values i h);
    looks = rw e (r.list.looks i h);
    two = r.list.two;
    good = r.good;
    node = r.node;
    most = r.list.most;
    size = lent_long (i * length s) (length s) held.2 (test_fits r.list h);
    levels = r.levels;
    below = r.below;
  }

  -- and leaves with its reach, its count and its test; the others stay
  pub met_back : {fault : Fault} {m' k' : ℕ} {t' w' : List ℕ}
      → fault ≡ fault_at fs i
      → level ≤ get_or held.0 i 0
      → length t' ≡ length s
      → MeetDone alone c fault n s level (get_or held.1 i 0) (get_or bs i 0) (lent (i * length s) (length s) held.2) m' k' t' w'
      → MeetAtDone alone c fs bs n s level i held (set held.0 i m', set held.1 i k', back (i * length s) (length s) held.2 t') w'
  met_back {fault} {m'} {k'} {t'} e l long p =
      let fits = test_fits r.list h in
      record {
        met =
            rw (get_or-set_same held.0 i m' 0 h, get_or-set_same held.1 i k' 0 (omega (arith, r.list.counts_are)), back-same (length s) held.2 t' i fits long, ← e, ← lent_piece (length s) held.2 i)
            (p.met (get_or held.0 i 0) l);
        others = λ j b d. record {
          reach = get_or-set_other held.0 i j m' 0 d;
          count = get_or-set_other held.1 i j k' 0 d;
          test = back_other (length s) held.2 t' i j fits long d;
        };
        good = p.good;
      }
