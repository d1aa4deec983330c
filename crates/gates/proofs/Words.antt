-- The tables say what the gate rule says in words.
-- Assumes nothing.
use mathlib.Core.Path.{◌≡◌, refl, sym, ◌∙◌}
use mathlib.Core.Logic.{⊎_elim}
use mathlib.Core.Bool.{false, and-false, or-false}
use Prim.Native.Nat.{ℕ, zero, suc, ◌≤◌}
use native.Mathlib.Omega.{arith}
use lib.Dec.{eqb, eqb→eq}
use borrow.Author.Tests.{ne_eqb}
use Rattle.ground.proofs.Tests.{either}
use Rattle.gates.specs.Gate.{last_kind, selector, three_of, gate_of, at_pins}
use Rattle.gates.specs.Words.{not_of, and_of, or_of, xor_of, select_of, rule_of}
use Rattle.gates.proofs.Values.{unknown, three_small}
use Rattle.gates.proofs.Computed.{at_gates, words_test, words_all}
use Rattle.gates.proofs.Table.{other}

-- ---- in words too a value above 2 is as good as 2

pub not0 : (a : ℕ) → eqb (suc (suc a)) 0 ≡ false
not0 a = ne_eqb (suc (suc a)) 0 (omega arith)

pub not1 : (a : ℕ) → eqb (suc (suc a)) 1 ≡ false
not1 a = ne_eqb (suc (suc a)) 1 (omega arith)

-- what is the same for all values from 2 on is the same for a value and for what it counts as
pub clip : (F : ℕ → ℕ) → ((a : ℕ) → F (suc (suc a)) ≡ F 2) → (a : ℕ) → F a ≡ F (three_of a)
unfolding three_of
clip F h zero = refl
clip F h (suc zero) = refl
clip F h (suc (suc a)) = rw (unknown a) (h a)

first_clip : (k b c a : ℕ) → rule_of k (at_pins (suc (suc a)) b c) ≡ rule_of k (at_pins 2 b c)
unfolding rule_of three_of not_of and_of or_of xor_of select_of
first_clip k b c a = simp (not0 a, not1 a, unknown a)

second_clip : (k a c b : ℕ) → rule_of k (at_pins a (suc (suc b)) c) ≡ rule_of k (at_pins a 2 c)
unfolding rule_of three_of not_of and_of or_of xor_of select_of
second_clip k a c b = simp (not0 b, not1 b, unknown b, and-false, or-false)

third_clip : (k a b c : ℕ) → rule_of k (at_pins a b (suc (suc c))) ≡ rule_of k (at_pins a b 2)
unfolding rule_of select_of
third_clip k a b c = simp (not0 c, not1 c)

values_clip : (k a b c : ℕ) → rule_of k (at_pins a b c) ≡ rule_of k (at_pins (three_of a) (three_of b) (three_of c))
values_clip k a b c =
    clip (λ (x : ℕ). rule_of k (at_pins x b c)) (first_clip k b c) a
    ∙ clip (λ (y : ℕ). rule_of k (at_pins (three_of a) y c)) (second_clip k (three_of a) c) b
    ∙ clip (λ (z : ℕ). rule_of k (at_pins (three_of a) (three_of b) z)) (third_clip k (three_of a) (three_of b)) c

clipped : (k : ℕ) (v : ℕ → ℕ) → rule_of k v ≡ rule_of k (at_pins (three_of (v 1)) (three_of (v 2)) (three_of (v 3)))
unfolding rule_of
clipped k v = values_clip k (v 1) (v 2) (v 3)

-- a kind without a rule
no_rule : (k : ℕ) (v : ℕ → ℕ) → suc last_kind ≤ k → rule_of k v ≡ 2
unfolding rule_of
no_rule k v h =
    simp (
      ne_eqb k 1 (omega arith),
      ne_eqb k 2 (omega arith),
      ne_eqb k 3 (omega arith),
      ne_eqb k 4 (omega arith),
      ne_eqb k 5 (omega arith),
      ne_eqb k 6 (omega arith),
      ne_eqb k 7 (omega arith),
      ne_eqb k 8 (omega arith),
      ne_eqb k 9 (omega arith),
    )

-- the look-up and the words, of every kind and whatever the pins see
pub in_words : (k : ℕ) (v : ℕ → ℕ) → gate_of k v ≡ rule_of k v
unfolding gate_of words_test
in_words k v =
    ⊎_elim
    (λ l. eqb→eq _ _ (at_gates words_test words_all k _ _ _ l (three_small (v 1)) (three_small (v 2)) (three_small (v 3))) ∙ sym (clipped k v))
    (λ l. other k v l ∙ sym (no_rule k v l))
    (either k (suc last_kind))

-- so a selector's value is that of its words
pub by_select : (a b c : ℕ) {k r : ℕ} → k ≡ selector → r ≡ select_of a b c → r ≡ gate_of k (at_pins a b c)
unfolding rule_of
by_select a b c e s = s ∙ rw e (sym (in_words selector (at_pins a b c)))
