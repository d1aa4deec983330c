-- What is put on a gate's sources: the table says what the words say, once over the kinds.
-- Assumes nothing.
use mathlib.Core.Path.{◌≡◌, sym}
use mathlib.Core.Logic.{◌⊎◌, inl, inr}
use mathlib.Core.Bool.{Bool, true, false, not, ◌&&◌, ◌||◌, true≢false}
use Prim.Native.Nat.{ℕ, suc, ◌≤◌, ◌<◌}
use native.Mathlib.Omega.{arith}
use lib.Dec.{T, eqb, leb, ltb, eqb→eq, ltb→lt}
use mir.Facts.{and_yes}
use borrow.Author.Tests.{eq-eqb, ne_eqb, le-leb}
use Rattle.ground.specs.Below.{all_below}
use Rattle.ground.proofs.Below.{at_below}
use Rattle.gates.specs.Gate.{X, last_kind, selector, gate_table, selector_table, three_of, gate_of, at_pins}
use Rattle.trees.specs.Need.{need_table, need_of, ForcedBy, Alone, Needs}

-- ---- as tests, each computed whole

unfoldable pub forced_by : ℕ → ℕ → ℕ → Bool
forced_by k v u = eqb (gate_of k (at_pins u X X)) v

unfoldable gives_test : ℕ → ℕ → Bool
gives_test k v = eqb k 0 || eqb (gate_of k (need_of k v)) v

unfoldable forced_test : ℕ → ℕ → ℕ → Bool
forced_test k v u = eqb k 0 || (not (forced_by k v u) || (eqb (need_of k v 1) u && (eqb (need_of k v 2) X && eqb (need_of k v 3) X)))

unfoldable both_test : ℕ → ℕ → Bool
both_test k v = not (leb 3 k && leb k 6) || (forced_by k v 0 || (forced_by k v 1 || (ltb (need_of k v 1) 2 && eqb (need_of k v 2) (need_of k v 1))))

unfoldable differs_test : ℕ → ℕ → Bool
differs_test k v = not (eqb k 7 || eqb k 8) || (eqb (need_of k v 1) 0 && ltb (need_of k v 2) 2)

unfoldable chooses_test : ℕ → ℕ → Bool
chooses_test k v = not (eqb k selector) || (eqb (need_of k v 3) 0 && (ltb (need_of k v 1) 2 && eqb (need_of k v 2) X))

need_test : ℕ → ℕ → Bool
need_test k v = gives_test k v && (all_below 2 (forced_test k v) && (both_test k v && (differs_test k v && chooses_test k v)))

need_all : T (all_below (suc last_kind) (λ k. all_below 2 (need_test k)))
unfolding need_test gives_test forced_test forced_by both_test differs_test chooses_test need_of need_table gate_of gate_table selector_table three_of
need_all = tt

-- ---- so in words

-- where the first of two tests holds, the other does
pub where_so : (a b : Bool) → T (not a || b) → a ≡ true → T b
where_so true b h e = h
where_so false b h e = absurd (true≢false (sym e))

module _ (k v : ℕ) (some : 1 ≤ k) (last : k ≤ last_kind) (known : v < 2) where
  tested : T (need_test k v)
  tested = at_below 2 (need_test k) (at_below (suc last_kind) (λ k. all_below 2 (need_test k)) need_all k (omega arith)) v known

  pub need_says : Needs k v (need_of k v)
  unfolding need_test gives_test forced_test forced_by both_test differs_test chooses_test
  need_says =
      let a = and_yes (gives_test k v) _ tested in
      let b = and_yes (all_below 2 (forced_test k v)) _ a.1 in
      let d = and_yes (both_test k v) _ b.1 in
      let e = and_yes (differs_test k v) _ d.1 in
      record {
        gives = eqb→eq _ _ (simp (ne_eqb k 0 (omega arith)) at a.0);
        forced = λ u l q. alone u (where_so (eqb (gate_of k (at_pins u X X)) v) _ (simp (ne_eqb k 0 (omega arith)) at (at_below 2 (forced_test k v) b.0 u l)) (eq-eqb _ v q));
        both = λ none x y. pair (where_so (leb 3 k && leb k 6) _ d.0 (rw (le-leb 3 k x, le-leb k 6 y))) none;
        differs = λ w. let h = and_yes (eqb (need_of k v 1) 0) _ (where_so (eqb k 7 || eqb k 8) _ e.0 (seven w)) in (eqb→eq _ _ h.0, ltb→lt _ _ h.1);
        chooses = λ w.
            let h = and_yes (eqb (need_of k v 3) 0) _ (where_so (eqb k selector) _ e.1 (eq-eqb k selector w)) in
            let i = and_yes (ltb (need_of k v 1) 2) _ h.1 in
            (eqb→eq _ _ h.0, ltb→lt _ _ i.0, eqb→eq _ _ i.1);
      }
    where
      alone : (u : ℕ) → T (eqb (need_of k v 1) u && (eqb (need_of k v 2) X && eqb (need_of k v 3) X)) → Alone (need_of k v) u
      alone u h =
          let a = and_yes (eqb (need_of k v 1) u) _ h in
          let b = and_yes (eqb (need_of k v 2) X) _ a.1 in
          record { first = eqb→eq _ _ a.0; second = eqb→eq _ _ b.0; third = eqb→eq _ _ b.1 }

      pair : T (eqb (gate_of k (at_pins 0 X X)) v || (eqb (gate_of k (at_pins 1 X X)) v || (ltb (need_of k v 1) 2 && eqb (need_of k v 2) (need_of k v 1))))
          → ((u : ℕ) → u < 2 → ForcedBy k v u → ⊥)
          → (need_of k v 1 < 2) × (need_of k v 2 ≡ need_of k v 1)
      pair h none =
          let z : eqb (gate_of k (at_pins 0 X X)) v ≡ false = ne_eqb _ v (none 0 (omega arith)) in
          let o : eqb (gate_of k (at_pins 1 X X)) v ≡ false = ne_eqb _ v (none 1 (omega arith)) in
          let a = and_yes (ltb (need_of k v 1) 2) _ (simp (z, o) at h) in
          (ltb→lt _ _ a.0, eqb→eq _ _ a.1)

      seven : (k ≡ 7) ⊎ (k ≡ 8) → (eqb k 7 || eqb k 8) ≡ true
      seven (inl e) = rw e
      seven (inr e) = rw e
