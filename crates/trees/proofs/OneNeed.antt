-- The words about a gate's sources leave one choice for each pin that the kind has.
-- Assumes nothing.
use mathlib.Core.Path.{◌≡◌, refl, sym, ◌∙◌}
use mathlib.Core.Logic.{◌⊎◌, inl, inr, ⊎_elim}
use mathlib.Core.Bool.{Bool, true, false, not, ◌||◌}
use Prim.Native.Nat.{ℕ, suc, ◌≤◌, ◌<◌}
use native.Mathlib.Decide.{ℕ_discrete}
use native.Mathlib.Omega.{arith}
use lib.Dec.{T, eqb, leb, eqb→eq}
use borrow.Author.Tests.{eq-eqb, ne_eqb, le-leb, lt-leb, leb-false}
use Rattle.ground.specs.Choose.{choose}
use Rattle.ground.specs.Below.{all_below}
use Rattle.ground.proofs.Below.{at_below}
use Rattle.ground.proofs.Tests.{either}
use Rattle.gates.specs.Gate.{X, last_kind, pins_of, gate_table, selector_table, three_of, gate_of, at_pins}
use Rattle.gates.proofs.Laws.{few_pins, two_pins, gate_same}
use Rattle.circuit.proofs.Lines.{three}
use Rattle.trees.specs.Need.{ForcedBy, Needs}
use Rattle.trees.proofs.Needs.{forced_by, where_so}

-- what is put where the first source alone forces nothing, by a known value u: on both, on the second after a 0, or on the first with select 0
unfoldable shape : ℕ → ℕ → ℕ → ℕ
shape k u = choose (leb k 6) (at_pins u u X) (choose (leb k 8) (at_pins 0 u X) (at_pins u X 0))

-- a buffer or NOT is always forced, and for every other kind the value tells u
unfoldable one_test : ℕ → ℕ → ℕ → Bool
one_test k u w = choose (leb k 2) (eqb k 0 || all_below 2 (λ v. forced_by k v 0 || forced_by k v 1)) (not (eqb (gate_of k (shape k u)) (gate_of k (shape k w))) || eqb u w)

one-all : T (all_below (suc last_kind) (λ k. all_below 2 (λ u. all_below 2 (one_test k u))))
unfolding one_test shape forced_by gate_of gate_table selector_table three_of
one-all = tt

module _ (k v : ℕ) (some : 1 ≤ k) (last : k ≤ last_kind) (known : v < 2) where
  told : (u w : ℕ) → u < 2 → w < 2 → T (one_test k u w)
  told u w a b =
      at_below 2 (one_test k u)
      (at_below 2 (λ u. all_below 2 (one_test k u)) (at_below (suc last_kind) (λ k. all_below 2 (λ u. all_below 2 (one_test k u))) one-all k (omega arith)) u a) w b

  -- ---- where the first source alone forces nothing

  module _ (none : (u : ℕ) → u < 2 → ForcedBy k v u → ⊥) where
    gate : leb k 2 ≡ false
    unfolding one_test forced_by
    gate = go (leb k 2) refl (told 0 0 (omega arith) (omega arith))
      where
        go : (t : Bool) → leb k 2 ≡ t → T (one_test k 0 0) → t ≡ false
        go false e h = refl
        go true e h =
            let z : eqb (gate_of k (at_pins 0 X X)) v ≡ false = ne_eqb _ v (none 0 (omega arith)) in
            let o : eqb (gate_of k (at_pins 1 X X)) v ≡ false = ne_eqb _ v (none 1 (omega arith)) in
            let t = at_below 2 (λ v. eqb (gate_of k (at_pins 0 X X)) v || eqb (gate_of k (at_pins 1 X X)) v) (simp (e, ne_eqb k 0 (omega arith)) at h) v known in
            absurd (simp (z, o) at t)

    -- what is put has such a shape
    abbrev OfShape : (ℕ → ℕ) → Type 0
    OfShape p = (u : ℕ) × (u < 2) × ((s : ℕ) → 1 ≤ s → s ≤ pins_of k → p s ≡ shape k u s)

    -- a kind below the selector has two pins at most
    at_two : (p t : ℕ → ℕ) → k ≤ 8 → p 1 ≡ t 1 → p 2 ≡ t 2 → (s : ℕ) → 1 ≤ s → s ≤ pins_of k → p s ≡ t s
    at_two p t l first second s a b =
        three (λ s. s ≤ 2 → p s ≡ t s) (λ _. first) (λ _. second) (λ z. absurd (omega arith)) s a (omega (arith, few_pins k)) (omega (arith, two_pins k (λ e. omega arith)))

    shaped : (p : ℕ → ℕ) → Needs k v p → OfShape p
    unfolding shape
    shaped p n = ⊎_elim (λ l. pair (omega arith)) (λ l. ⊎_elim (λ m. second l (omega arith)) (λ m. chosen (omega arith)) (either k 9)) (either k 7)
      where
        pair : k ≤ 6 → OfShape p
        pair l =
            let b = n.both none (omega (arith, leb-false k 2 gate)) l in
            (p 1, b.0, rw (le-leb k 6 l) (at_two p (at_pins (p 1) (p 1) X) (omega arith) refl b.1))

        second : 7 ≤ k → k ≤ 8 → OfShape p
        second l m =
            let b = n.differs (⊎_elim (λ h. inl (omega arith)) (λ h. inr (omega arith)) (either k 8)) in
            (p 2, b.1, rw (lt-leb k 6 l, le-leb k 8 m) (at_two p (at_pins 0 (p 2) X) m b.0 refl))

        chosen : k ≡ 9 → OfShape p
        chosen e =
            let b = n.chooses e in (
              p 1,
              b.1,
              rw (lt-leb k 6 (omega arith), lt-leb k 8 (omega arith))
                  (λ s x y. three (λ s. p s ≡ at_pins (p 1) X 0 s) refl b.2 b.0 s x (omega (arith, few_pins k))),
            )

    unforced-one : (p q : ℕ → ℕ) → Needs k v p → Needs k v q → (s : ℕ) → 1 ≤ s → s ≤ pins_of k → p s ≡ q s
    unfolding one_test
    unforced-one p q n m s a b =
        let x = shaped p n in
        let y = shaped q m in
        let same : gate_of k (shape k x.0) ≡ gate_of k (shape k y.0) =
        sym (gate_same k p (shape k x.0) x.2) ∙ n.gives ∙ sym m.gives ∙ gate_same k q (shape k y.0) y.2 in
        let e : x.0 ≡ y.0 = eqb→eq _ _ (where_so (eqb (gate_of k (shape k x.0)) (gate_of k (shape k y.0))) _ (simp gate at (told x.0 y.0 x.1 y.1)) (eq-eqb _ _ same)) in
        x.2 s a b ∙ rw e (sym (y.2 s a b))

  -- ---- where it forces the value

  forced-one : (p q : ℕ → ℕ) → Needs k v p → Needs k v q → (u : ℕ) → u < 2 → ForcedBy k v u → (s : ℕ) → 1 ≤ s → s ≤ pins_of k → p s ≡ q s
  forced-one p q n m u l e s a b =
      let x = n.forced u l e in
      let y = m.forced u l e in
      three (λ s. p s ≡ q s) (x.first ∙ sym y.first) (x.second ∙ sym y.second) (x.third ∙ sym y.third) s a (omega (arith, few_pins k))

  pub one_need : (p q : ℕ → ℕ) → Needs k v p → Needs k v q → (s : ℕ) → 1 ≤ s → s ≤ pins_of k → p s ≡ q s
  one_need p q n m = go (ℕ_discrete (gate_of k (at_pins 0 X X)) v) (ℕ_discrete (gate_of k (at_pins 1 X X)) v)
    where
      go : Dec (ForcedBy k v 0) → Dec (ForcedBy k v 1) → (s : ℕ) → 1 ≤ s → s ≤ pins_of k → p s ≡ q s
      go (yes e) _ = forced-one p q n m 0 (omega arith) e
      go (no d) (yes e) = forced-one p q n m 1 (omega arith) e
      go (no d) (no f) = unforced-one (λ u l h. neither u l h (either u 1)) p q n m
        where
          neither : (u : ℕ) → u < 2 → ForcedBy k v u → (u < 1) ⊎ (1 ≤ u) → ⊥
          neither u l h (inl x) = let z : u ≡ 0 = omega arith in d (rw z at h)
          neither u l h (inr x) = let z : u ≡ 1 = omega arith in f (rw z at h)
