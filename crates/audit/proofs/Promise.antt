-- What the promise of the audit says: one answer; a finding where nothing is refused, the one that the words say; and what sound means.
-- Assumes nothing.
use mathlib.Core.Path.{◌≡◌, sym, ap, ◌∙◌}
use mathlib.Core.Logic.{◌↔◌}
use mathlib.Core.List.{List}
use Prim.Native.Nat.{ℕ}
use Rattle.answers.specs.Rules.{refusal}
use Rattle.answers.specs.Answer.{answered}
use Rattle.answers.proofs.Rules.{same_good}
use Rattle.answers.proofs.Answer.{numbers-told, was_ruled}
use Rattle.tables.specs.Entries.{entries_of}
use Rattle.tables.specs.Marks.{kept_rules}
use Rattle.needs.specs.Words as needs
use Rattle.findings.specs.declared.Finding.{Finding}
use Rattle.findings.specs.declared.Finding.TheVariants.{Sound}
use Rattle.findings.specs.Findings.{finding_of}
use Rattle.findings.specs.Words.{Finds, ZeroOrOne}
use Rattle.findings.proofs.Finds.{finding_words}
use Rattle.findings.proofs.Sound.{sound_words}
use Rattle.audit.specs.Promise.{audited_numbers, Audits}
use Rattle.std.specs.Prelude.{Ok, Err, Result}
use Rattle.answers.specs.declared.Refusal.{Refusal}

module _ {F P : ℕ} {t m : List ℕ} where
  -- two answers that the promise allows are equal
  pub one_answer : {r s : Result Finding Refusal} → Audits F P t m r → Audits F P t m s → r ≡ s
  one_answer p q = p.answer ∙ sym q.answer

  -- ---- what a finding says

  module _ {r : Result Finding Refusal} (so : Audits F P t m r) where
    -- the finding is given exactly if nothing is refused and the words say it
    pub found_words : (x : Finding) → (r ≡ Ok x) ↔ ((refusal (kept_rules F P t m) ≡ Ok tt) × Finds (entries_of F t) F P m x)
    found_words x = (
      λ e.
          let fine : refusal (kept_rules F P t m) ≡ Ok tt = was_ruled _ so.answer (rw e) in
          (fine, (finding_words (entries_of F t) F P m x).0 (same_good (sym (so.answer ∙ rw fine) ∙ e))),
      λ w. so.answer ∙ rw w.0 (ap Ok ((finding_words (entries_of F t) F P m x).1 w.1)),
    )

    -- sound exactly if, moreover, all marks are 0 or 1, every need is met and no kept pattern can be spared alone
    pub found_sound : (r ≡ Ok Sound) ↔ ((refusal (kept_rules F P t m) ≡ Ok tt) × (ZeroOrOne P m × needs.Sound (entries_of F t) F P m))
    found_sound = (
      λ e. let w = (found_words Sound).0 e in (w.0, (sound_words (entries_of F t) F P m).0 w.1),
      λ w. (found_words Sound).1 (w.0, (sound_words (entries_of F t) F P m).1 w.1),
    )

  -- ---- as the code comes to it

  audits : {r : Result Finding Refusal} → r ≡ answered (refusal (kept_rules F P t m)) (finding_of (entries_of F t) F P m) → Audits F P t m r
  unfolding audited_numbers
  audits e = record {
    answer = e;
    numbers = ap audited_numbers e ∙ numbers-told _ (refusal (kept_rules F P t m)) (finding_of (entries_of F t) F P m);
  }

  pub marks_refused : {why : Refusal} → refusal (kept_rules F P t m) ≡ Err why → Audits F P t m (Err why)
  marks_refused e = audits (rw e)

  pub marks_fine : {x : Finding} → refusal (kept_rules F P t m) ≡ Ok tt → x ≡ finding_of (entries_of F t) F P m → Audits F P t m (Ok x)
  marks_fine e is = audits (rw e (ap Ok is))
