-- A list of rules refuses with one of its numbers.
-- Assumes nothing.
use mathlib.Core.Path.{◌≡◌, refl}
use mathlib.Core.Bool.{Bool, true, false}
use mathlib.Core.List.{List, [], ◌∷◌}
use Prim.Native.Nat.{ℕ}
use lib.Dec.{ltb}
use Rattle.ground.specs.Choose.{choose}
use Rattle.ground.specs.Below.{first_not}
use Rattle.answers.specs.Rules.{Ruling}
use Rattle.answers.specs.Rules.{Rule, said, or_else, refusal, reason_of}
use Rattle.answers.specs.Rules.Rule.{whole, each}
use Rattle.answers.proofs.Rules.{not_fine, same_reason}
use Rattle.std.specs.Prelude.{Ok, Err}
use Rattle.answers.specs.declared.Reason.{Reason}

said-number : (r : Rule) {m : Reason} {k : ℕ} → said r ≡ Err (m, k) → reason_of r ≡ m
unfolding said
said-number (whole n test asked p) e = go test e
  where
    go : (b : Bool) {m : Reason} {k : ℕ} → choose {A = Ruling} b (Ok tt) (Err (n, p)) ≡ Err (m, k) → n ≡ m
    go true q = absurd (not_fine q)
    go false q = same_reason q
said-number (each n c test asked) e = go (ltb (first_not c test) c) e
  where
    go : (b : Bool) {m : Reason} {k : ℕ} → choose {A = Ruling} b (Err (n, first_not c test)) (Ok tt) ≡ Err (m, k) → n ≡ m
    go true q = same_reason q
    go false q = absurd (not_fine q)

module _ (P : Reason → Type 0) where
  -- each rule's number is so
  abbrev pub Numbers : List Rule → Type 0
  Numbers [] = Unit
  Numbers (r ∷ rules) = P (reason_of r) × Numbers rules

  pub refused_number : (rules : List Rule) → Numbers rules → {m : Reason} {k : ℕ} → refusal rules ≡ Err (m, k) → P m
  unfolding refusal
  refused_number [] a e = absurd (not_fine e)
  refused_number (r ∷ rules) (a, b) {m} {k} e = go (said r) refl e (λ q. refused_number rules b q)
    where
      go : (v : Ruling) → said r ≡ v → or_else v (refusal rules) ≡ Err (m, k) → (refusal rules ≡ Err (m, k) → P m) → P m
      go (Ok u) q f ih = ih f
      go (Err why) q f ih = let z : why.0 ≡ m = same_reason f in rw (← z, ← said-number r q) a
