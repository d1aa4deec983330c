-- The rules of a fault list: tests and words agree, and what is not refused is good.
-- Assumes nothing.
use mathlib.Core.Path.{◌≡◌}
use mathlib.Core.Bool.{true}
use mathlib.Core.List.{List}
use Prim.Native.Nat.{ℕ, ◌+◌, ◌*◌}
use native.Mathlib.Omega.{arith}
use lib.Dec.{eqb, leb, ltb}
use lib.ListN.{length}
use borrow.Author.Tests.{eqb-true, leb-true, ltb-true, eq-eqb, le-leb, lt-ltb}
use Rattle.ground.proofs.Tests.{both, and_both}
use Rattle.answers.specs.Rules.{Ruling}
use Rattle.answers.specs.Rules.{refusal, Applies, Same, AllSay, AllHold}
use Rattle.answers.proofs.Rules as rules
use Rattle.answers.proofs.Rules.{all_hold}
use Rattle.answers.proofs.Records.{records_same}
use Rattle.gates.specs.Gate.{pins_of}
use Rattle.little.specs.Little.{pair_at}
use Rattle.circuit.specs.Record.{lines_of, kind_at}
use Rattle.lists.specs.Faults.{fault_line, fault_site, fault_value, fault_ok, FaultLayout, fault_rules, GoodFaults}
use Rattle.std.specs.Prelude.{Ok, Err}
use Rattle.answers.specs.declared.Reason.{Reason}

module _ (c fs : List ℕ) (j : ℕ) where
  fault_layout : fault_ok c fs j ≡ true → FaultLayout c fs j
  unfolding fault_ok
  fault_layout e =
      let p = both (ltb (fault_line fs j) (lines_of c)) _ e in
      let q = both (leb (fault_site fs j) (pins_of (kind_at c (fault_line fs j)))) _ p.1 in
      let r = both (leb (fault_value fs j) 1) _ q.1 in
      let t = both (eqb (pair_at fs (8 * j + 4)) 0) _ r.1 in
      record {
        line = ltb-true _ _ p.0;
        site = leb-true _ _ q.0;
        value = leb-true _ _ r.0;
        low = eqb-true _ _ t.0;
        high = eqb-true _ _ t.1;
      }

  fault_layout_ok : FaultLayout c fs j → fault_ok c fs j ≡ true
  unfolding fault_ok
  fault_layout_ok l =
      and_both (lt-ltb _ _ l.line)
      (and_both (le-leb _ _ l.site) (and_both (le-leb _ _ l.value) (and_both (eq-eqb _ _ l.low) (eq-eqb _ _ l.high))))

  pub fault_same : Same (fault_ok c fs j) (FaultLayout c fs j)
  fault_same = record { holds = fault_layout; tests = fault_layout_ok }

module _ (most : ℕ) (c fs : List ℕ) where
  pub faults_say : AllSay (fault_rules most c fs)
  unfolding fault_rules AllSay
  faults_say = (records_same 8 most (length fs) (omega arith), ((λ j l. fault_same c fs j), tt))

  pub good_faults : refusal (fault_rules most c fs) ≡ Ok tt → GoodFaults most c fs
  unfolding fault_rules AllHold
  good_faults e = let a = all_hold (fault_rules most c fs) faults_say e in record { records = a.0; faults = a.1.0 }

-- a refusal of the check is the first that applies, with the lowest place; and where one applies, it is given
module _ (most : ℕ) (c fs : List ℕ) {r : Ruling} (is : r ≡ refusal (fault_rules most c fs)) (reason : Reason) (place : ℕ) where
  pub refused_applies : r ≡ Err (reason, place) → Applies (fault_rules most c fs) reason place
  refused_applies = rules.refused_applies (fault_rules most c fs) (faults_say most c fs) is reason place

  pub applies_refused : Applies (fault_rules most c fs) reason place → r ≡ Err (reason, place)
  applies_refused = rules.applies_refused (fault_rules most c fs) (faults_say most c fs) is reason place
