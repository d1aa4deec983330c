-- The promises of the searches' entries and of the chances' allow one result only. That of the clause writer does so as it has one lent memory (`one_lent` in
-- `replies`), and that of the check as it has none (`one_return`).
-- Assumes nothing.
use mathlib.Core.Path.{◌≡◌, sym, ◌∙◌}
use mathlib.Core.List.{List}
use Prim.Native.Nat.{ℕ}
use lib.Ieee.{Float}
use Rattle.answers.specs.Rules.{Rule}
use Rattle.nodes.specs.declared.Verdict.{Verdict}
use Rattle.replies.proofs.Entered.{one_return}
use Rattle.circuit_entries.specs.Entries.{FoundEntered, SearchAllEntered, ControlEntered}

-- of either search for one fault
module _ {rules : List Rule} {found : Verdict} {t test w work a : List ℕ} {r s : ℕ} {t₁ w₁ a₁ t₂ w₂ a₂ : List ℕ} where
  pub one_found :
      FoundEntered rules found t test w work a r t₁ w₁ a₁
      → FoundEntered rules found t test w work a s t₂ w₂ a₂
      → (r ≡ s) × (t₁ ≡ t₂) × (w₁ ≡ w₂) × (a₁ ≡ a₂)
  one_found p q =
      let o = one_return p.answer q.answer in
      (o.0, p.test_is ∙ sym q.test_is, p.work_is ∙ sym q.work_is, o.1)

module _ {c fs bs o k t w a : List ℕ} {r s : ℕ} {o₁ k₁ t₁ w₁ a₁ o₂ k₂ t₂ w₂ a₂ : List ℕ} where
  pub one_list :
      SearchAllEntered c fs bs o k t w a r o₁ k₁ t₁ w₁ a₁
      → SearchAllEntered c fs bs o k t w a s o₂ k₂ t₂ w₂ a₂
      → (r ≡ s) × (o₁ ≡ o₂) × (k₁ ≡ k₂) × (t₁ ≡ t₂) × (w₁ ≡ w₂) × (a₁ ≡ a₂)
  one_list p q =
      let same = one_return p.answer q.answer in
      (same.0, p.outcomes ∙ sym q.outcomes, p.counts ∙ sym q.counts, p.tests ∙ sym q.tests, p.work ∙ sym q.work, same.1)

module _ {c a : List ℕ} {ones zeros : List Float} {r s : ℕ} {ones₁ zeros₁ ones₂ zeros₂ : List Float} {a₁ a₂ : List ℕ} where
  pub one_control :
      ControlEntered c ones zeros a r ones₁ zeros₁ a₁
      → ControlEntered c ones zeros a s ones₂ zeros₂ a₂
      → (r ≡ s) × (ones₁ ≡ ones₂) × (zeros₁ ≡ zeros₂) × (a₁ ≡ a₂)
  one_control p q =
      let same = one_return p.answer q.answer in
      (same.0, p.ones_are ∙ sym q.ones_are, p.zeros_are ∙ sym q.zeros_are, same.1)
