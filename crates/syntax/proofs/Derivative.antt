-- The derivative is right: what follows a first symbol, what may follow a beginning, and whether anything can.
-- Assumes nothing.
use mathlib.Core.Path.{◌≡◌, refl, sym, ap, ◌∙◌, subst}
use mathlib.Core.Logic.{◌⊎◌, inl, inr, ⊎_elim}
use mathlib.Core.Bool.{Bool, true, false, ◌||◌}
use mathlib.Core.List.{List, [], ◌∷◌, ◌++◌, append-nil}
use Prim.Native.Nat.{ℕ}
use native.Mathlib.Omega.{arith}
use lib.Dec.{T, eqb, eqb_refl}
use mir.Facts.{and_yes, yes_and}
use Rattle.ground.specs.Choose.{choose}
use Rattle.ground.proofs.Tests.{T-is, is_T}
use Rattle.answers.specs.Rules.{Same}
use Rattle.syntax.specs.Regular.{Re, none, eps, one, seq, alt, star, has, Many, stop, more, Has}
use Rattle.syntax.specs.Derivative.{cat, empty, next, after, live}
use Rattle.syntax.proofs.Shortened.{cat_to, cat_from, either_to, either_from}

-- ---- the empty text

or_yes : (a b : Bool) → T (a || b) → T a ⊎ T b
or_yes true b t = inl tt
or_yes false b t = inr t

yes_or : (a b : Bool) → T a ⊎ T b → T (a || b)
yes_or true b t = tt
yes_or false b t = ⊎_elim (λ x. absurd x) (λ x. x) t

-- two lists whose join is empty are empty
nil_parts : (u v : List ℕ) → ◌≡◌ {A = List ℕ} [] (u ++ v) → (u ≡ []) × (v ≡ [])
nil_parts [] v e = (refl, sym e)
nil_parts (x ∷ u) v e = let z : ◌≡◌ {A = ℕ} 0 1 = cc in absurd (omega arith)

pub empty_to : (r : Re) → T (empty r) → Has r []
unfolding Has empty
empty_to none t = absurd t
empty_to eps t = refl
empty_to (one s) t = absurd t
empty_to (seq r s) t = ([], [], refl, empty_to r (and_yes (empty r) (empty s) t).0, empty_to s (and_yes (empty r) (empty s) t).1)
empty_to (alt r s) t = ⊎_elim (λ x. inl (empty_to r x)) (λ x. inr (empty_to s x)) (or_yes (empty r) (empty s) t)
empty_to (star r) t = stop

pub empty_from : (r : Re) → Has r [] → T (empty r)
unfolding Has empty
empty_from none h = h
empty_from eps h = tt
empty_from (one s) h = let e = h.2 in let z : ◌≡◌ {A = ℕ} 0 1 = cc in absurd (omega arith)
empty_from (seq r s) h =
    let p = nil_parts h.0 h.1 h.2 in
    yes_and (empty r) (empty s) (empty_from r (subst (Has r) p.0 h.3)) (empty_from s (subst (Has s) p.1 h.4))
empty_from (alt r s) h = yes_or (empty r) (empty s) (⊎_elim (λ x. inl (empty_from r x)) (λ x. inr (empty_from s x)) h)
empty_from (star r) h = tt

-- ---- the derivative

picked : (t : Bool) (r : Re) (w : List ℕ) → Has (choose t r none) w → T t × Has r w
unfolding Has
picked true r w h = (tt, h)
picked false r w h = absurd h

pick_it : (t : Bool) (r : Re) (w : List ℕ) → T t → Has r w → Has (choose t r none) w
pick_it true r w t h = h
pick_it false r w t h = absurd t

pub next_to : (r : Re) (c : ℕ) (w : List ℕ) → Has (next r c) w → Has r (c ∷ w)
unfolding Has next
next_to none c w h = h
next_to eps c w h = absurd h
next_to (one s) c w h = let p = picked (has s c) eps w h in (c, p.0, ap (λ (l : List ℕ). c ∷ l) p.1)
next_to (seq r s) c w h =
    ⊎_elim
    (λ x. let p = cat_from (next r c) s w x in (c ∷ p.0, p.1, ap (λ (l : List ℕ). c ∷ l) p.2, next_to r c p.0 p.3, p.4))
    (λ x. let p = picked (empty r) (next s c) w x in ([], c ∷ w, refl, empty_to r p.0, next_to s c w p.1))
    (either_from (cat (next r c) s) (choose (empty r) (next s c) none) w h)
next_to (alt r s) c w h = ⊎_elim (λ x. inl (next_to r c w x)) (λ x. inr (next_to s c w x)) (either_from (next r c) (next s c) w h)
next_to (star r) c w h =
    let p = cat_from (next r c) (star r) w h in
    more (c ∷ p.0) p.1 (ap (λ (l : List ℕ). c ∷ l) p.2) (next_to r c p.0 p.3) p.4

-- where the first symbol of a join is
First : ℕ → List ℕ → List ℕ → List ℕ → Type 0
First c w u v = ((u ≡ []) × (v ≡ c ∷ w)) ⊎ ((u' : List ℕ) × (u ≡ c ∷ u') × (w ≡ u' ++ v))

first_of : (c : ℕ) (w u v : List ℕ) → c ∷ w ≡ u ++ v → First c w u v
unfolding First
first_of c w [] v e = inl (refl, sym e)
first_of c w (x ∷ u) v e = inr (u, cc, cc)

many_next : (r : Re) (c : ℕ) (w : List ℕ)
    → ((v : List ℕ) → Has r (c ∷ v) → Has (next r c) v)
    → {x : List ℕ} → Many (Has r) x → x ≡ c ∷ w → Has (seq (next r c) (star r)) w
unfolding Has First
many_next r c w ih stop e = let z : ◌≡◌ {A = ℕ} 0 1 = cc in absurd (omega arith)
many_next r c w ih (more u v j p m) e =
    let again = many_next r c w ih m in
    ⊎_elim (λ q. again q.1)
    (λ q. (q.0, v, q.2, ih q.0 (subst (Has r) q.1 p), m))
    (first_of c w u v (sym e ∙ j))

pub next_from : (r : Re) (c : ℕ) (w : List ℕ) → Has r (c ∷ w) → Has (next r c) w
unfolding Has next First
next_from none c w h = h
next_from eps c w h = let z : ◌≡◌ {A = ℕ} 0 1 = cc in absurd (omega arith)
next_from (one s) c w h =
    let e : c ≡ h.0 = let j = h.2 in cc in
    let n : w ≡ [] = let j = h.2 in cc in
    pick_it (has s c) eps w (subst (λ (x : ℕ). T (has s x)) (sym e) h.1) n
next_from (seq r s) c w h =
    either_to (cat (next r c) s) (choose (empty r) (next s c) none) w
    (⊎_elim
    (λ q. inr (pick_it (empty r) (next s c) w (empty_from r (subst (Has r) q.0 h.3)) (next_from s c w (subst (Has s) q.1 h.4))))
    (λ q. inl (cat_to (next r c) s w (q.0, h.1, q.2, next_from r c q.0 (subst (Has r) q.1 h.3), h.4)))
    (first_of c w h.0 h.1 h.2))
next_from (alt r s) c w h =
    either_to (next r c) (next s c) w (⊎_elim (λ x. inl (next_from r c w x)) (λ x. inr (next_from s c w x)) h)
next_from (star r) c w h = cat_to (next r c) (star r) w (many_next r c w (λ v x. next_from r c v x) h refl)

-- ---- after a beginning

pub after_to : (u : List ℕ) (r : Re) (w : List ℕ) → Has (after r u) w → Has r (u ++ w)
unfolding after
after_to [] r w h = h
after_to (c ∷ u) r w h = next_to r c (u ++ w) (after_to u (next r c) w h)

pub after_from : (u : List ℕ) (r : Re) (w : List ℕ) → Has r (u ++ w) → Has (after r u) w
unfolding after
after_from [] r w h = h
after_from (c ∷ u) r w h = after_from u (next r c) w (next_from r c (u ++ w) h)

pub after_snoc : (u : List ℕ) (r : Re) (c : ℕ) → after r (u ++ (c ∷ [])) ≡ next (after r u) c
unfolding after
after_snoc [] r c = refl
after_snoc (x ∷ u) r c = after_snoc u (next r x) c

-- ---- whether anything can follow

pub live_to : (r : Re) → T (live r) → (w : List ℕ) × Has r w
unfolding Has live has
live_to none t = absurd t
live_to eps t = ([], refl)
live_to (one []) t = absurd t
live_to (one (x ∷ l)) t = (x ∷ [], (x, yes_or (eqb x x) (has l x) (inl (eqb_refl x)), refl))
live_to (seq r s) t =
    let p = live_to r (and_yes (live r) (live s) t).0 in
    let q = live_to s (and_yes (live r) (live s) t).1 in
    (p.0 ++ q.0, (p.0, q.0, refl, p.1, q.1))
live_to (alt r s) t =
    ⊎_elim (λ x. let p = live_to r x in (p.0, inl p.1)) (λ x. let p = live_to s x in (p.0, inr p.1))
    (or_yes (live r) (live s) t)
live_to (star r) t = ([], stop)

pub live_from : (r : Re) (w : List ℕ) → Has r w → T (live r)
unfolding Has live has
live_from none w h = h
live_from eps w h = tt
live_from (one []) w h = h.1
live_from (one (x ∷ l)) w h = tt
live_from (seq r s) w h = yes_and (live r) (live s) (live_from r h.0 h.3) (live_from s h.1 h.4)
live_from (alt r s) w h = yes_or (live r) (live s) (⊎_elim (λ x. inl (live_from r w x)) (λ x. inr (live_from s w x)) h)
live_from (star r) w h = tt

-- ---- the tests and what they say

-- the grammar has u exactly if what may follow u has the empty text
pub has_same : (r : Re) (u : List ℕ) → Same (empty (after r u)) (Has r u)
has_same r u = record {
  holds = λ e. subst (Has r) (append-nil u) (after_to u r [] (empty_to (after r u) (is_T (empty (after r u)) e)));
  tests = λ h. T-is (empty (after r u)) (empty_from (after r u) (after_from u r [] (subst (Has r) (sym (append-nil u)) h)));
}

-- some text of the grammar begins with u exactly if what may follow u is live
pub begins : (r : Re) (u : List ℕ) → live (after r u) ≡ true → (w : List ℕ) × Has r (u ++ w)
begins r u e = let p = live_to (after r u) (is_T (live (after r u)) e) in (p.0, after_to u r p.0 p.1)

pub is_begun : (r : Re) (u w : List ℕ) → Has r (u ++ w) → live (after r u) ≡ true
is_begun r u w h = T-is (live (after r u)) (live_from (after r u) w (after_from u r w h))
