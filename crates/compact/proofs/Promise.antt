-- What the compactor's promise says: one result; marks untouched by a refusal; and on success marks that are sound.
-- Assumes nothing.
use mathlib.Core.Path.{◌≡◌, sym, ◌∙◌}
use mathlib.Core.List.{List}
use Prim.Native.Nat.{ℕ, ◌<◌}
use lib.ListN.{replicate}
use Rattle.answers.specs.Rules.{refusal}
use Rattle.answers.specs.Rules.{Ruling}
use Rattle.tables.specs.Entries.{entries_of}
use Rattle.tables.specs.Marks.{kept_rules}
use Rattle.needs.specs.Needs.{whole, compacted}
use Rattle.needs.specs.Words.{Detected, LastToFirst, Sound}
use Rattle.needs.proofs.Sound.{compacted_so, compacted_sound, none_detected}
use Rattle.compact.specs.Promise.{Compacts}
use Rattle.std.specs.Prelude.{Ok, Err}
use Rattle.answers.specs.declared.Refusal.{Refusal}

module _ {F P : ℕ} {t m : List ℕ} where
  -- two results that the promise allows are equal
  pub one_result : {r s : Ruling} {a b : List ℕ} → Compacts F P t m r a → Compacts F P t m s b → (r ≡ s) × (a ≡ b)
  one_result p q = (p.answer ∙ sym q.answer, p.marks ∙ sym q.marks)

  -- a refusal writes nothing
  pub refused_leaves : {why : Refusal} {m' : List ℕ} → Compacts F P t m (Err why) m' → m' ≡ m
  refused_leaves so = so.marks ∙ rw (← so.answer)

  module _ {m' : List ℕ} (so : Compacts F P t m (Ok tt) m') where
    pub marks_are : m' ≡ compacted (entries_of F t) F P
    marks_are = so.marks ∙ rw (← so.answer)

    -- each mark as the process says
    pub fine_so : LastToFirst (entries_of F t) F P m'
    fine_so = rw marks_are (compacted_so (entries_of F t) F P)

    -- the kept patterns meet every need, and none of them can be spared
    pub fine_sound : Sound (entries_of F t) F P m'
    fine_sound = rw marks_are (compacted_sound (entries_of F t) F P)

    -- with no detected fault, all are dropped
    pub fine_empty : ((f : ℕ) → f < F → Detected (entries_of F t) P whole f → ⊥) → m' ≡ replicate P 0
    fine_empty none = marks_are ∙ none_detected (entries_of F t) F P none

  -- ---- as the code comes to it

  pub refused : {why : Refusal} → refusal (kept_rules F P t m) ≡ Err why → Compacts F P t m (Err why) m
  refused e = record { answer = sym e; numbers = rw e; marks = rw e }

  pub marked : {m' : List ℕ} → refusal (kept_rules F P t m) ≡ Ok tt → m' ≡ compacted (entries_of F t) F P → Compacts F P t m (Ok tt) m'
  marked e w = record { answer = sym e; numbers = rw e; marks = rw e w }
