-- Refusal 16 is given exactly if there is a cycle.
-- Assumes nothing.
use mathlib.Core.Path.{◌≡◌, refl, sym, ap, ◌∙◌}
use mathlib.Core.Logic.{inl, inr}
use mathlib.Core.Bool.{Bool, true, false, ◌&&◌, false≢true}
use mathlib.Core.List.{List, [], ◌∷◌, ◌++◌}
use Prim.Native.Nat.{ℕ, zero, suc, ◌+◌, ◌<◌}
use native.Mathlib.Decide.{ℕ_discrete}
use native.Mathlib.Omega.{arith}
use lib.Dec.{leb}
use lib.ListN.{length, get_or}
use borrow.Author.Tests.{leb-false}
use Rattle.ground.specs.Below.{count_below}
use Rattle.ground.specs.Lists.{elem, index_in}
use Rattle.ground.proofs.Counting.{count_none, count_most}
use Rattle.ground.proofs.Lists.{At, index_in_lem, elem_other}
use Rattle.ground.proofs.Elem.{index_of}
use Rattle.ground.proofs.Tests.{neither}
use Rattle.answers.specs.Rules.{refusal, Ruling}
use Rattle.order.specs.Order.{there, ready, order_of, Order, Placed, Source, Way, last, then, Cycle, cycle_rules}
use Rattle.order.proofs.Gates.{count_snoc, sources_placed}
use Rattle.order.proofs.Unique.{order_placed}
use Rattle.order.proofs.Says.{LowestLeft, gate_says, all_placed, refused_left}
use Rattle.std.specs.Prelude.{Ok, Err}
use Rattle.answers.specs.declared.Reason.{Reason}
use Rattle.answers.specs.declared.Reason.TheVariants.{BenchCycle}
use Rattle.answers.specs.declared.Refusal.{Refusal}

-- ---- from a gate that is placed every way leads to gates placed before it

module _ {a b p : List ℕ} (o : Order a b p) where
  behind : {g s : ℕ} → At p (length p) g → Source a b g s → At p (index_in p g) s
  behind {g} {s} w r = index_in_lem p (index_in p g) s (sources_placed o (index_in p g) w.below s (rw w.is r))

  along : {g t : ℕ} → At p (length p) g → Way a b g t → At p (index_in p g) t
  along w (last r) = behind w r
  along {g} {t} w (then r v) =
      let u = behind w r in
      let x = along (record { below = omega (arith, u.below, w.below); is = u.is }) v in
      record { below = omega (arith, u.below, x.below); is = x.is }

  -- so a gate that depends on itself is not placed
  cycle_left : (g : ℕ) → Way a b g g → elem p g ≡ false
  cycle_left g w = go (elem p g) refl
    where
      go : (t : Bool) → elem p g ≡ t → t ≡ false
      go true e = absurd (omega (arith, (along (index_of p g e) w).below))
      go false e = refl

-- ---- a gate that is left over has a source that is left over, and so on, until one comes again

snoc : {a b : List ℕ} {g s t : ℕ} → Way a b g s → Source a b s t → Way a b g t
snoc (last r) q = then r (last q)
snoc (then r w) q = then r (snoc w q)

not_there : (gates : ℕ) (p : List ℕ) (s : ℕ) → there gates p s ≡ false → (s < gates) × (elem p s ≡ false)
unfolding there
not_there gates p s e = let w = neither (leb gates s) (elem p s) e in (leb-false gates s w.0, w.1)

Stuck : List ℕ → List ℕ → List ℕ → ℕ → Type 0
Stuck a b p g = (s : ℕ) × Source a b g s × (elem p s ≡ false)

stuck : (a b p : List ℕ) (g : ℕ) → ready a b p g ≡ false → elem p g ≡ false → Stuck a b p g
unfolding ready Stuck
stuck a b p g e f = go (there (length a) p (get_or a g 0)) refl (there (length a) p (get_or b g 0)) refl (rw f at e)
  where
    go : (s : Bool) → there (length a) p (get_or a g 0) ≡ s → (t : Bool) → there (length a) p (get_or b g 0) ≡ t → (s && t) ≡ false
        → (s : ℕ) × Source a b g s × (elem p s ≡ false)
    go false i t j k = let w = not_there (length a) p (get_or a g 0) i in (get_or a g 0, record { gate = w.0; is = inl refl }, w.1)
    go true i false j k = let w = not_there (length a) p (get_or b g 0) j in (get_or b g 0, record { gate = w.0; is = inr refl }, w.1)
    go true i true j k = absurd (false≢true (sym k))

-- the gates met so far lead to g, which is left over and not among them, and m more can be met
abbrev Find : List ℕ → List ℕ → List ℕ → ℕ → Type 0
Find a b p m =
    (met : List ℕ) (g : ℕ) → count_below (length a) (elem met) + m ≡ length a → g < length a → elem p g ≡ false → elem met g ≡ false
    → ((x : ℕ) → elem met x ≡ true → Way a b x g) → Cycle a b

module _ (a b p : List ℕ) (d : Placed a b p) where
  find : (m : ℕ) → Find a b p m
  unfolding Stuck
  find zero met g e l f k ways =
      absurd (omega (arith, count_snoc (length a) met g l k, count_most (length a) (elem (met ++ (g ∷ [])))))
  find (suc m) met g e l f k ways = go (find m) (stuck a b p g (d.ended g l) f)
    where
      met' : List ℕ
      met' = met ++ (g ∷ [])

      ahead : (s : ℕ) → Source a b g s → (x : ℕ) → elem met' x ≡ true → Dec (g ≡ x) → Way a b x s
      ahead s r x n (yes q) = rw (← q) (last r)
      ahead s r x n (no q) = snoc (ways x (sym (elem_other met g x q) ∙ n)) r

      turn : Find a b p m → (s : ℕ) → Source a b g s → elem p s ≡ false → Dec (g ≡ s) → (t : Bool) → elem met s ≡ t → Cycle a b
      turn ih s r q (yes i) t j = (g, l, last (rw (← i) at r))
      turn ih s r q (no i) true j = (s, r.gate, snoc (ways s j) r)
      turn ih s r q (no i) false j =
          ih met' s (omega (arith, count_snoc (length a) met g l k)) r.gate q (elem_other met g s i ∙ j)
          (λ x n. ahead s r x n (ℕ_discrete g x))

      go : Find a b p m → Stuck a b p g → Cycle a b
      go ih w = turn ih w.0 w.1 w.2 (ℕ_discrete g w.0) (elem met w.0) refl

  left_cycle : (g : ℕ) → g < length a → elem p g ≡ false → Cycle a b
  unfolding elem
  left_cycle g l f =
      find (length a) [] g (omega (arith, count_none (length a) (elem []) (λ k i. refl))) l f refl (λ x n. absurd (false≢true n))

-- ---- both ways

module _ (a b : List ℕ) where
  pub cycle_refused : Cycle a b → (k : ℕ) × (refusal (cycle_rules a b) ≡ Err (BenchCycle, k))
  cycle_refused c = go (refusal (cycle_rules a b)) refl
    where
      go : (r : Ruling) → refusal (cycle_rules a b) ≡ r → (k : ℕ) × (r ≡ Err (BenchCycle, k))
      go (Ok u) e =
          absurd (false≢true (sym (cycle_left (order_placed a b).steps c.0 c.2) ∙ all_placed a b e c.0 c.1))
      go (Err why) e = (why.1, ap (λ (m : Reason). Err (m, why.1)) (refused_left a b e).reason)

  -- and nothing else is refused
  pub refused_cycle : {why : Refusal} → refusal (cycle_rules a b) ≡ Err why → Cycle a b
  refused_cycle {why} e = left_cycle a b (order_of a b) (order_placed a b) why.1 w.inside (go (elem (order_of a b) why.1) refl)
    where
      w : LowestLeft a b why.0 why.1
      w = refused_left a b e

      go : (t : Bool) → elem (order_of a b) why.1 ≡ t → t ≡ false
      go true q = absurd (w.left ((gate_says a b why.1).holds q))
      go false q = refl
