-- The finding that is defined is the one that the words say, and they say one alone.
-- Assumes nothing.
use mathlib.Core.Path.{◌≡◌, sym, ap, ◌∙◌}
use mathlib.Core.Logic.{◌⊎◌, inl, inr, ⊎_elim, ◌↔◌}
use mathlib.Core.List.{List}
use Prim.Native.Nat.{ℕ, ◌≤◌, ◌<◌}
use native.Mathlib.Decide.{dec_lt, ℕ_discrete}
use native.Mathlib.Omega.{arith}
use Rattle.tables.specs.Entries.{Entries}
use Rattle.findings.specs.declared.Finding.{Finding}
use Rattle.findings.specs.declared.Finding.TheVariants.{Sound, BadMark, LostFault, LostPair, SparePattern}
use Rattle.findings.specs.Findings.{pair_lost, first_where, finding_of}
use Rattle.findings.specs.Words.{LostPairAt, LowestAt, LowestPairAt, Finds}
use Rattle.findings.proofs.Words.{bad_same, lost-same, pair_same, spare-same, PairedAt, paired_same, met}
use Rattle.findings.proofs.Firstly.{one-lowest, some-lowest, firstly_case, firstly-found, firstly-next}

module _ (E : Entries) (F P : ℕ) (m : List ℕ) where
  -- ---- the lowest pair: the lowest fault that is the lower one of a pair, and the lowest with which it is

  first_lowest : {f g : ℕ} → LowestPairAt F (LostPairAt E P m) f g → LowestAt F (PairedAt E F P m) f
  first_lowest {f} {g} p = record {
    inside = omega (arith, p.inside, p.holds.order);
    holds = (g, p.inside, p.holds);
    lower = λ h l w. ⊎_elim (λ b. omega arith) (λ b. omega (arith, b.0)) (p.lower h w.0 w.1 w.2);
  }

  second_lowest : {f g : ℕ} → LowestPairAt F (LostPairAt E P m) f g → LowestAt F (LostPairAt E P m f) g
  second_lowest {f} p = record {
    inside = p.inside;
    holds = p.holds;
    lower = λ k l w. ⊎_elim (λ b. omega arith) (λ b. omega (arith, b.1)) (p.lower f k (omega (arith, p.inside)) w);
  }

  lowest-pair : {f g : ℕ} → LowestAt F (PairedAt E F P m) f → LowestAt F (LostPairAt E P m f) g → LowestPairAt F (LostPairAt E P m) f g
  lowest-pair {f} {g} p q = record { inside = q.inside; holds = q.holds; lower = λ h k l w. go h k l w (dec_lt f h) (ℕ_discrete f h) }
    where
      go : (h k : ℕ) → k < F → LostPairAt E P m h k → Dec (f < h) → Dec (f ≡ h) → (f < h) ⊎ ((f ≡ h) × (g ≤ k))
      go h k l w (yes b) y = inl b
      go h k l w (no n) (yes e) = let not_lower : k < g → ⊥ = λ b. q.lower k b (rw e w) in inr (e, omega arith)
      go h k l w (no n) (no d) = absurd (p.lower h (omega arith) (k, l, w))

  second_found : {f : ℕ} → LowestAt F (PairedAt E F P m) f → LowestAt F (LostPairAt E P m f) (first_where F (pair_lost E P m f))
  second_found {f} p = some-lowest (pair_same E P m f) ((paired_same E F P m f).tests p.holds)

  -- ---- the finding

  abbrev pair_at : ℕ → Finding
  pair_at f = LostPair f (first_where F (pair_lost E P m f))

  finding_finds : Finds E F P m (finding_of E F P m)
  unfolding finding_of Finds
  finding_finds =
      firstly_case (bad_same m) BadMark _ (Finds E F P m) (λ bad. bad) (λ marks.
      firstly_case (lost-same E P m) LostFault _ (Finds E F P m) (λ lost. (marks, lost)) (λ faults.
      firstly_case (paired_same E F P m) pair_at _ (Finds E F P m) (λ pair. (marks, faults, lowest-pair pair (second_found pair))) (λ pairs.
      let meets = (met E F P m).1 (faults, pairs) in
      firstly_case (spare-same E F P m) SparePattern Sound (Finds E F P m) (λ spare. (marks, meets, spare)) (λ spares. (marks, meets, spares)))))

  finds_is : (x : Finding) → Finds E F P m x → finding_of E F P m ≡ x
  unfolding finding_of Finds
  finds_is (BadMark k) h = firstly-found (bad_same m) BadMark _ h
  finds_is (LostFault f) h = firstly-next (bad_same m) BadMark _ h.0 ∙ firstly-found (lost-same E P m) LostFault _ h.1
  finds_is (LostPair f g) h =
      firstly-next (bad_same m) BadMark _ h.0
      ∙ firstly-next (lost-same E P m) LostFault _ h.1
      ∙ firstly-found (paired_same E F P m) pair_at _ (first_lowest h.2)
      ∙ ap (LostPair f) (one-lowest (second_found (first_lowest h.2)) (second_lowest h.2))
  finds_is (SparePattern p) h =
      let none = (met E F P m).0 h.1 in
      firstly-next (bad_same m) BadMark _ h.0
      ∙ firstly-next (lost-same E P m) LostFault _ none.0
      ∙ firstly-next (paired_same E F P m) pair_at _ none.1
      ∙ firstly-found (spare-same E F P m) SparePattern Sound h.2
  finds_is Sound h =
      let none = (met E F P m).0 h.1 in
      firstly-next (bad_same m) BadMark _ h.0
      ∙ firstly-next (lost-same E P m) LostFault _ none.0
      ∙ firstly-next (paired_same E F P m) pair_at _ none.1
      ∙ firstly-next (spare-same E F P m) SparePattern Sound h.2

  pub finding_words : (x : Finding) → (finding_of E F P m ≡ x) ↔ Finds E F P m x
  finding_words x = (λ e. rw e at finding_finds, finds_is x)

  pub one_finding : {x y : Finding} → Finds E F P m x → Finds E F P m y → x ≡ y
  one_finding {x} {y} h k = sym (finds_is x h) ∙ finds_is y k
