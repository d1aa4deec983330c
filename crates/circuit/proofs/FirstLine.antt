-- Why no refusal has the number 3: a gate reads a line below it, and below line 0 there is none, so past refusal 2 there is an input.
-- Assumes nothing.
use mathlib.Core.Path.{◌≡◌, refl, sym, ◌∙◌}
use mathlib.Core.List.{List, ◌∷◌, ◌++◌}
use Prim.Native.Nat.{ℕ, ◌≤◌}
use native.Mathlib.Decide.{ℕ_discrete}
use native.Mathlib.Omega.{arith}
use lib.Dec.{leb}
use borrow.Author.Tests.{eq-eqb, le-leb}
use Rattle.ground.proofs.Counting.{count_below_lem}
use Rattle.answers.specs.Rules.{Ruling}
use Rattle.answers.specs.Rules.{Rule, or_else, said, refusal, AllHold}
use Rattle.answers.specs.Rules.Rule.{whole}
use Rattle.answers.proofs.Rules.{all_hold, in_order}
use Rattle.answers.proofs.Numbers.{refused_number}
use Rattle.gates.proofs.Laws.{gate-pin}
use Rattle.circuit.specs.declared.Counts.{Counts}
use Rattle.circuit.specs.Record.{kind_at, lines_of, is_input, inputs_of, outputs_of}
use Rattle.circuit.specs.Layout.{Layout}
use Rattle.circuit.specs.Promise.{layout_rules, count_rules, circuit_rules, Checks}
use Rattle.circuit.proofs.Answer.{layout_refused}
use Rattle.circuit.proofs.Says.{layout_says}
use Rattle.std.specs.Prelude.{Ok, Err, Result}
use Rattle.answers.specs.declared.Refusal.{Refusal}
use Rattle.answers.specs.declared.Reason.{Reason}
use Rattle.answers.specs.Area.{number_of}

-- a gate has a first pin, and there is no line below line 0 for it to read
first_kind : (c : List ℕ) → Layout c 0 → kind_at c 0 ≡ 0
first_kind c l = go (ℕ_discrete (kind_at c 0) 0)
  where
    go : Dec (kind_at c 0 ≡ 0) → kind_at c 0 ≡ 0
    go (yes e) = e
    go (no ne) = let low = (l.pin 1 (omega arith) (omega arith)).has (gate-pin (kind_at c 0) ne) in absurd (omega arith)

-- past refusal 2, line 0 is an input
module _ (c : List ℕ) (past : refusal (layout_rules c) ≡ Ok tt) where
  held : AllHold (layout_rules c)
  held = all_hold (layout_rules c) (layout_says c) past

  pub first_input : kind_at c 0 ≡ 0
  unfolding layout_rules AllHold
  first_input = first_kind c (held.1.0 0 held.0.some)

  -- so there is one
  pub some-input : 1 ≤ inputs_of c
  unfolding layout_rules AllHold
  some-input = omega (arith, count_below_lem (is_input c) 0 (lines_of c) held.0.some (eq-eqb (kind_at c 0) 0 first_input))

-- the rules up to 2 refuse with no higher number
layout_number : (c : List ℕ) {m : Reason} {k : ℕ} → refusal (layout_rules c) ≡ Err (m, k) → number_of m ≤ 2
unfolding layout_rules
layout_number c = refused_number (λ m. number_of m ≤ 2) (layout_rules c) (omega arith, (omega arith, tt))

-- a circuit to which the check gives no refusal up to 2 gets past it
pub gets_past : (c : List ℕ) {r : Result Counts Refusal} → Checks c r → ((m : Reason) (k : ℕ) → number_of m ≤ 2 → r ≡ Err (m, k) → ⊥) → refusal (layout_rules c) ≡ Ok tt
gets_past c p not = go (refusal (layout_rules c)) refl
  where
    go : (v : Ruling) → refusal (layout_rules c) ≡ v → refusal (layout_rules c) ≡ Ok tt
    go (Ok u) past = past
    go (Err why) e = absurd (not why.0 why.1 (layout_number c e) (p.answer ∙ layout_refused c why.0 why.1 e))

-- a rule that asks for an input, in the place between the others that number 3 had, would change no refusal, whatever its reason
module _ (c : List ℕ) (reason : Reason) where
  abbrev counts : List Rule
  counts = count_rules (inputs_of c) (outputs_of c)

  abbrev counts_with_3 : List Rule
  counts_with_3 = whole reason (leb 1 (inputs_of c)) (1 ≤ inputs_of c) 0 ∷ counts

  pub three_never : refusal (layout_rules c ++ counts_with_3) ≡ refusal (circuit_rules c)
  unfolding refusal said
  three_never = in_order (layout_rules c) counts_with_3 ∙ go (refusal (layout_rules c)) refl ∙ sym (in_order (layout_rules c) counts)
    where
      go : (v : Ruling) → refusal (layout_rules c) ≡ v → or_else v (refusal counts_with_3) ≡ or_else v (refusal counts)
      go (Ok u) past = rw (le-leb 1 (inputs_of c) (some-input c past))
      go (Err why) e = refl
