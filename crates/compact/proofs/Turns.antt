-- What a turn leaves, and the invariant of the turns.
-- Assumes nothing.
use mathlib.Core.Path.{◌≡◌, refl, sym, ap, ◌∙◌}
use mathlib.Core.Bool.{Bool, true, false, not}
use mathlib.Core.List.{List}
use Prim.Native.Nat.{ℕ, suc, ◌+◌, ◌-◌, ◌*◌, ◌≤◌, ◌<◌}
use native.Mathlib.Omega.{arith}
use lib.ListN.{length, set, replicate}
use Rattle.tables.specs.Entries.{entries_of}
use Rattle.needs.specs.Needs.{lacks, kept, turns, compacted}
use Rattle.needs.specs.Words.{Meets}
use Rattle.needs.proofs.Words.{meets-is}
use Rattle.needs.proofs.Turns.{not-kept, kept_other, turn_drops, turn_keeps}
use Rattle.needs.proofs.Sound.{all-kept, start-meets}
use Rattle.counts.specs.Counted.{hit}
use Rattle.counts.specs.Owed.{CellsDone, needed_of}
use Rattle.counts.proofs.Moves.{Bytes}
use Rattle.counts.proofs.Sets.{counted_out}
use Rattle.counts.proofs.Detected.{seen-whole}
use Rattle.counts.proofs.Decided.{decided}
use Rattle.tallies.specs.Tally.{Tallied}
use Rattle.compact.specs.Owed.{TurnReady, TurnDone}

-- ---- a turn

module _ {t : List ℕ} {F P p : ℕ} {m c s : List ℕ} (few : F ≤ 256) (many : P ≤ 256) (l : p < P) (ready : TurnReady t F P (p + 1) m c s) where
  by_counts : {r : Bool} → r ≡ needed_of c s t (p * F) F → lacks (entries_of F t) F P (kept (set m p 0)) ≡ r
  by_counts e = sym (e ∙ decided m few many ready.counted ready.seen ready.enough p l (ready.in_set p (omega arith)))

  pub stays : {r : Bool} → r ≡ needed_of c s t (p * F) F → r ≡ true → TurnDone t F P p m m c s
  stays e q = record {
    marks = sym (turn_keeps (entries_of F t) F P m p (by_counts e ∙ q));
    ready = record { counted = ready.counted; seen = ready.seen; enough = ready.enough; in_set = λ q h. ready.in_set q (omega arith) };
  }

  pub goes : {r : Bool} {d : List ℕ} → r ≡ needed_of c s t (p * F) F → r ≡ false → CellsDone false (hit t (p * F) F) c d → Bytes d → TurnDone t F P p m (set m p 0) d s
  goes e q moved byte = record {
    marks = sym (turn_drops (entries_of F t) F P m p (by_counts e ∙ q));
    ready = record {
      counted = counted_out P p l (kept (set m p 0)) (kept m) (not-kept m p) (ready.in_set p (omega arith)) (λ q _ n. kept_other m p q n) ready.counted moved byte;
      seen = ready.seen;
      enough = meets-is (entries_of F t) F P (kept (set m p 0)) (ap not (by_counts e ∙ q));
      in_set = λ q h. kept_other m p q (omega arith) ∙ ready.in_set q (omega arith);
    };
  }

-- ---- the turns of the first k patterns are left

pub record ToGo (t : List ℕ) (F P : ℕ) (s c₀ m₀ : List ℕ) (k : ℕ) (c m : List ℕ) : Type 0 where
  pub at_most : k ≤ P
  pub cells : length c ≡ length c₀
  pub marks : length m ≡ length m₀
  pub ready : TurnReady t F P k m c s
  pub to_go : turns (entries_of F t) F P k m ≡ compacted (entries_of F t) F P

module _ {t : List ℕ} {F P : ℕ} {s c₀ m₀ : List ℕ} where
  pub all_to_go : m₀ ≡ replicate P 1 → Tallied t F P (kept m₀) c₀ s → ToGo t F P s c₀ m₀ P c₀ m₀
  unfolding compacted
  all_to_go e a = record {
    at_most = omega arith;
    cells = refl;
    marks = refl;
    ready = record {
      counted = a.counted;
      seen = seen-whole a.seen enough;
      enough = enough;
      in_set = λ q h. rw e (all-kept (entries_of F t) F P q h);
    };
    to_go = rw e;
  }
    where
      enough : Meets (entries_of F t) F P (kept m₀)
      enough = rw e (start-meets (entries_of F t) F P)

  module _ {k : ℕ} {c m : List ℕ} (so : ToGo t F P s c₀ m₀ k c m) where
    pub ready-next : 0 < k → TurnReady t F P (k - 1 + 1) m c s
    ready-next h = let q : k - 1 + 1 ≡ k = omega arith in rw q so.ready

    pub one_gone : {d l : List ℕ} → 0 < k → length d ≡ length c → length l ≡ length m → TurnDone t F P (k - 1) m l d s → ToGo t F P s c₀ m₀ (k - 1) d l
    unfolding turns
    one_gone h ec em w = let q : suc (k - 1) ≡ k = omega arith in record {
      at_most = omega (arith, so.at_most);
      cells = ec ∙ so.cells;
      marks = em ∙ so.marks;
      ready = w.ready;
      to_go = ap (turns (entries_of F t) F P (k - 1)) w.marks ∙ ap (λ (x : ℕ). turns (entries_of F t) F P x m) q ∙ so.to_go;
    }

    pub none_to_go : k ≤ 0 → m ≡ compacted (entries_of F t) F P
    unfolding turns
    none_to_go h = let q : k ≡ 0 = omega arith in rw q at so.to_go
