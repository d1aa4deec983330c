-- Kind by kind: what is so of each kind, and the exponents of a gate whose kind is known.
-- Assumes nothing.
use mathlib.Core.Path.{◌≡◌}
use Prim.Native.Nat.{ℕ, zero, suc, ◌≤◌}
use native.Mathlib.Omega.{arith}
use borrow.Author.Tests.{ne_eqb}
use Rattle.gates.specs.Gate.{last_kind}
use Rattle.chances.specs.declared.Chances.{Chances}
use Rattle.chances.specs.Exponents.{Exponents, sure, gate_exponents}
use Rattle.chances.specs.Owed.{Are}

-- what is so of each kind that has a rule, and of an input, is so of every kind of a circuit
pub each_kind : (P : ℕ → Type 0) → P 0 → P 1 → P 2 → P 3 → P 4 → P 5 → P 6 → P 7 → P 8 → P 9 → (kind : ℕ) → kind ≤ last_kind → P kind
each_kind P a b c d e f g h i j zero l = a
each_kind P a b c d e f g h i j (suc zero) l = b
each_kind P a b c d e f g h i j (suc (suc zero)) l = c
each_kind P a b c d e f g h i j (suc (suc (suc zero))) l = d
each_kind P a b c d e f g h i j (suc (suc (suc (suc zero)))) l = e
each_kind P a b c d e f g h i j (suc (suc (suc (suc (suc zero))))) l = f
each_kind P a b c d e f g h i j (suc (suc (suc (suc (suc (suc zero)))))) l = g
each_kind P a b c d e f g h i j (suc (suc (suc (suc (suc (suc (suc zero))))))) l = h
each_kind P a b c d e f g h i j (suc (suc (suc (suc (suc (suc (suc (suc zero)))))))) l = i
each_kind P a b c d e f g h i j (suc (suc (suc (suc (suc (suc (suc (suc (suc zero))))))))) l = j
each_kind P a b c d e f g h i j (suc (suc (suc (suc (suc (suc (suc (suc (suc (suc kind)))))))))) l = absurd (omega arith)

pub of_kind : (k : ℕ) (e : ℕ → Exponents) {kind : ℕ} {r : Chances} → kind ≡ k → Are r (gate_exponents k e) → Are r (gate_exponents kind e)
of_kind k e is a = rw is a

-- none of the kinds that have a rule
pub no_rule : (kind : ℕ) (e : ℕ → Exponents)
    → (kind ≡ 1 → ⊥) → (kind ≡ 2 → ⊥) → (kind ≡ 3 → ⊥) → (kind ≡ 4 → ⊥) → (kind ≡ 5 → ⊥) → (kind ≡ 6 → ⊥) → (kind ≡ 7 → ⊥) → (kind ≡ 8 → ⊥) → (kind ≡ 9 → ⊥)
    → gate_exponents kind e ≡ sure
unfolding gate_exponents
no_rule kind e a b c d f g h i j =
    rw (ne_eqb kind 1 a, ne_eqb kind 2 b, ne_eqb kind 3 c, ne_eqb kind 4 d, ne_eqb kind 5 f, ne_eqb kind 6 g, ne_eqb kind 7 h, ne_eqb kind 8 i, ne_eqb kind 9 j)
