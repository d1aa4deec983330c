-- The laws of the gates as tests over the kinds and the three values at each pin, each computed whole.
-- Assumes nothing.
use mathlib.Core.Bool.{Bool, true, false, not, ◌&&◌, ◌||◌}
use Prim.Native.Nat.{ℕ, suc, ◌<◌}
use lib.Dec.{T, ltb, leb, eqb}
use mir.Facts.{and_yes}
use Rattle.ground.specs.Choose.{one}
use Rattle.ground.specs.Below.{all_below}
use Rattle.ground.proofs.Below.{at_below}
use Rattle.gates.specs.Gate.{X, last_kind, pins_of, gate_table, selector_table, three_of, gate_of, at_pins}
use Rattle.gates.specs.Words.{not_of, and_of, or_of, xor_of, select_of, rule_of}
use Rattle.gates.specs.Boolean.{bool_gate}
use Rattle.gates.proofs.Table.{table_at}

-- a test of three values: at all 27 of them, and so at each
abbrev pub all_threes : (ℕ → ℕ → ℕ → Bool) → Bool
all_threes t = all_below 3 (λ a. all_below 3 (λ b. all_below 3 (λ c. t a b c)))

pub at_threes : (t : ℕ → ℕ → ℕ → Bool) → T (all_threes t) → (a b c : ℕ) → a < 3 → b < 3 → c < 3 → T (t a b c)
at_threes t h a b c ha hb hc =
    at_below 3 (λ z. t a b z) (at_below 3 (λ y. all_below 3 (λ z. t a y z)) (at_below 3 (λ x. all_below 3 (λ y. all_below 3 (λ z. t x y z))) h a ha) b hb) c hc

-- of a kind too
abbrev pub all_gates : (ℕ → ℕ → ℕ → ℕ → Bool) → Bool
all_gates t = all_below (suc last_kind) (λ k. all_threes (t k))

pub at_gates : (t : ℕ → ℕ → ℕ → ℕ → Bool) → T (all_gates t) → (k a b c : ℕ) → k < suc last_kind → a < 3 → b < 3 → c < 3 → T (t k a b c)
at_gates t h k a b c hk = at_threes (t k) (at_below (suc last_kind) (λ m. all_threes (t m)) h k hk) a b c

-- ---- the tables say what the gate rule says in words

unfoldable pub words_test : ℕ → ℕ → ℕ → ℕ → Bool
words_test k a b c = eqb (table_at k a b c) (rule_of k (at_pins a b c))

pub words_all : T (all_gates words_test)
unfolding words_test gate_table selector_table rule_of three_of not_of and_of or_of xor_of select_of
words_all = tt

-- ---- a gate's value is 0, 1 or 2

unfoldable pub small_test : ℕ → ℕ → ℕ → ℕ → Bool
small_test k a b c = leb (table_at k a b c) 2

pub small_all : T (all_gates small_test)
unfolding small_test gate_table selector_table
small_all = tt

-- ---- two X's at the first two pins give X

unfoldable pub unknown_test : ℕ → ℕ → Bool
unknown_test k c = eqb (table_at k X X c) X

unknown-all : T (all_below (suc last_kind) (λ k. all_below 3 (unknown_test k)))
unfolding unknown_test gate_table selector_table
unknown-all = tt

pub at_unknown : (k c : ℕ) → k < suc last_kind → c < 3 → T (unknown_test k c)
at_unknown k c l = at_below 3 (unknown_test k) (at_below (suc last_kind) (λ m. all_below 3 (unknown_test m)) unknown-all k l) c

-- ---- where each pin that the kind has sees a known value, the gate's value is known

-- the kind has pin s, and it sees X
abbrev pub sees_x : ℕ → ℕ → ℕ → Bool
sees_x k s x = leb s (pins_of k) && leb 2 x

unfoldable pub known_test : ℕ → ℕ → ℕ → ℕ → Bool
known_test k a b c = eqb k 0 || (sees_x k 1 a || (sees_x k 2 b || (sees_x k 3 c || ltb (table_at k a b c) 2)))

pub known-all : T (all_gates known_test)
unfolding known_test pins_of gate_table selector_table
known-all = tt

-- ---- where each pin that the kind has sees a refinement, the gate's value is refined

abbrev pub refines : ℕ → ℕ → Bool
refines x y = leb 2 x || eqb y x

abbrev pub pin_refines : ℕ → ℕ → ℕ → ℕ → Bool
pin_refines k s x y = not (leb s (pins_of k)) || refines x y

unfoldable pub refine_test : ℕ → ℕ → ℕ → ℕ → ℕ → ℕ → ℕ → Bool
refine_test k a b c a' b' c' =
    not (pin_refines k 1 a a') || (not (pin_refines k 2 b b') || (not (pin_refines k 3 c c') || refines (table_at k a b c) (table_at k a' b' c')))

refine_all : T (all_gates (λ k a b c. all_threes (refine_test k a b c)))
unfolding refine_test pins_of gate_table selector_table
refine_all = tt

pub at_refined : (k a b c a' b' c' : ℕ) → k < suc last_kind → a < 3 → b < 3 → c < 3 → a' < 3 → b' < 3 → c' < 3 → T (refine_test k a b c a' b' c')
at_refined k a b c a' b' c' hk ha hb hc =
    at_threes (refine_test k a b c) (at_gates (λ k a b c. all_threes (refine_test k a b c)) refine_all k a b c hk ha hb hc) a' b' c'

-- ---- on known values a gate is the Boolean gate

unfoldable pub bool_test : ℕ → Bool → Bool → Bool → Bool
bool_test k x y z = eqb k 0 || eqb (gate_of k (at_pins (one x) (one y) (one z))) (one (bool_gate k (at_pins x y z)))

-- a test of a Boolean, at both
all_bool : (Bool → Bool) → Bool
all_bool t = t true && t false

at_bool : (t : Bool → Bool) → T (all_bool t) → (x : Bool) → T (t x)
unfolding all_bool
at_bool t h true = (and_yes (t true) _ h).0
at_bool t h false = (and_yes (t true) _ h).1

bool_all : T (all_below (suc last_kind) (λ k. all_bool (λ x. all_bool (λ y. all_bool (λ z. bool_test k x y z)))))
unfolding bool_test all_bool bool_gate gate_table selector_table three_of gate_of
bool_all = tt

pub at_booleans : (k : ℕ) (x y z : Bool) → k < suc last_kind → T (bool_test k x y z)
at_booleans k x y z h =
    at_bool (λ z. bool_test k x y z)
    (at_bool (λ y. all_bool (λ z. bool_test k x y z))
    (at_bool (λ x. all_bool (λ y. all_bool (λ z. bool_test k x y z)))
    (at_below (suc last_kind) (λ m. all_bool (λ x. all_bool (λ y. all_bool (λ z. bool_test m x y z)))) bool_all k h) x) y) z
