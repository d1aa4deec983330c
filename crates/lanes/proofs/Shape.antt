-- Every gate but the selector is AND or XOR, with its pins or its result negated: for each kind and whatever the pins see, this is what the table says.
-- Assumes nothing.
use mathlib.Core.Path.{◌≡◌, sym, subst, ◌∙◌}
use mathlib.Core.Bool.{Bool, true, false, ◌||◌}
use Prim.Native.Nat.{ℕ, suc, ◌≤◌, ◌<◌}
use native.Mathlib.Omega.{arith}
use lib.Dec.{T, eqb, leb, eqb→eq}
use borrow.Author.Tests.{ne_eqb}
use Rattle.ground.specs.Choose.{choose}
use Rattle.gates.specs.Gate.{selector, gate_table, three_of, gate_of, at_pins}
use Rattle.gates.specs.Words.{not_of, and_of, xor_of, select_of, rule_of}
use Rattle.gates.proofs.Values.{unknown, three_small}
use Rattle.gates.proofs.Words.{not0, not1, clip, in_words}
use Rattle.gates.proofs.Table.{table_at, by_kind}
use Rattle.gates.proofs.Computed.{all_gates, at_gates}
use Rattle.lanes.specs.declared.Lanes.{Lanes}
use Rattle.lanes.specs.Lanes.{InLane, GateLanes}
use Rattle.lanes.specs.Owed.{Lanewise, Lanewise2, Lanewise3, turns_pins, turns_result, turned_of, second_of, core_of, shape_of}

-- kinds 1 to 8
shape_test : ℕ → ℕ → ℕ → ℕ → Bool
shape_test k a b c = eqb k 0 || (eqb k selector || eqb (shape_of k a b) (table_at k a b c))

shapes_all : T (all_gates shape_test)
unfolding shape_test shape_of turns_pins turns_result turned_of second_of core_of gate_table three_of not_of and_of xor_of
shapes_all = tt

-- here too a value above 2 is as good as 2
turn_clip : (turn : Bool) (a : ℕ) → turned_of turn a ≡ turned_of turn (three_of a)
unfolding turned_of not_of three_of
turn_clip turn = clip (turned_of turn) (above turn)
  where
    above : (turn : Bool) (a : ℕ) → turned_of turn (suc (suc a)) ≡ turned_of turn 2
    above true a = simp (not0 a, not1 a)
    above false a = simp (unknown a)

shape_clip : (k a b : ℕ) → shape_of k a b ≡ shape_of k (three_of a) (three_of b)
unfolding shape_of second_of
shape_clip k a b = go (leb k 2)
  where
    go : (t : Bool)
        → turned_of (turns_result k) (core_of k (turned_of (turns_pins k) a) (turned_of (turns_pins k) (choose t a b)))
        ≡ turned_of (turns_result k) (core_of k (turned_of (turns_pins k) (three_of a)) (turned_of (turns_pins k) (choose t (three_of a) (three_of b))))
    go true = rw (turn_clip (turns_pins k) a)
    go false = rw (turn_clip (turns_pins k) a, turn_clip (turns_pins k) b)

shape_is : (k a b c : ℕ) → 1 ≤ k → k < selector → shape_of k a b ≡ gate_of k (at_pins a b c)
unfolding shape_test
shape_is k a b c some few =
    shape_clip k a b
    ∙ eqb→eq _ _
    (simp (ne_eqb k 0 (omega arith), ne_eqb k selector (omega arith)) at
    (at_gates shape_test shapes_all k (three_of a) (three_of b) (three_of c) (omega arith) (three_small a) (three_small b) (three_small c)))
    ∙ sym (by_kind k (at_pins a b c) (λ e. omega arith))

-- the steps, each in every lane, make the gate
pub all_steps : {k : ℕ} {pins result : Bool} {a b c s x y r z : Lanes}
    → 1 ≤ k
    → k < selector
    → pins ≡ turns_pins k
    → result ≡ turns_result k
    → Lanewise (turned_of pins) a x
    → Lanewise2 (second_of k) a b s
    → Lanewise (turned_of pins) s y
    → Lanewise2 (core_of k) x y r
    → Lanewise (turned_of result) r z
    → GateLanes k a b c z
unfolding shape_of
all_steps {k} {pins} {result} some few p q first second other cored turned i u v w l h m _ =
    subst (InLane _ i) at (turned i _ l (cored i _ _ l (first i u l h) (other i _ l (second i u v l h m))))
  where
    at : turned_of result (core_of k (turned_of pins u) (turned_of pins (second_of k u v))) ≡ gate_of k (at_pins u v w)
    at = rw (p, q) (shape_is k u v w some few)

-- the selector is one step
pub one_step : {k : ℕ} {a b c r : Lanes} → k ≡ selector → Lanewise3 select_of a b c r → GateLanes k a b c r
unfolding rule_of
one_step e chosen i u v w l h m s = rw e (subst (InLane _ i) (sym (in_words selector (at_pins u v w))) (chosen i u v w l h m s))
