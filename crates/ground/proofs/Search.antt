-- What `any`, `all`, `find` and `position` return, over the numbers below n and over a list of numbers. In each lemma t is the test that the
-- closure computes, and its last two facts say so: what is known of t where the closure gives true, and where it gives false. A call after which
-- the search goes on leaves the closure as it was. Over the numbers below n each fact may use that its number is below n.
-- Assumes nothing.
use mathlib.Core.Path.{◌≡◌, refl, sym, ap, ◌∙◌}
use mathlib.Core.Logic.{⊎_elim}
use mathlib.Core.Bool.{cond, Bool, true, false, true≢false}
use mathlib.Core.List.{List}
use Prim.Native.Nat.{ℕ, zero, suc, ◌≤◌, ◌<◌}
use native.Mathlib.Numerals.{add-one}
use native.Mathlib.Omega.{arith}
use lib.ListN.{length, get_or, take}
use lib.Seq.{take_all, take-length}
use denote.Ref.{Bor}
use denote.Param.Members.{Mut}
use borrow.Author.Tests.{lt-ltb, le-ltb}
use Rattle.std.specs.declared.ops.Range.{Range}
use Rattle.std.specs.declared.slice.Iter.{Iter}
use Rattle.std.specs.declared.iter.Filter.{Filter}
use Rattle.std.specs.Iterator.Adapters.{filter_source, filter_callee, filter_steps}
use Rattle.std.proofs.lemmas.Iterator.Consumers.{YieldsList-from_filter, YieldsList-at, count_from_yields_List}
use Rattle.std.proofs.lemmas.List.Sums.{length-filter, sum_by_more}
use Rattle.std.specs.Prelude.{Option, Some, None}
use Rattle.std.specs.Bool.{⊤, MatchBool}
use Rattle.std.specs.Option.{MatchOption, unwrap_or}
use Rattle.std.specs.Fn.{Called, CalledAt}
use Rattle.std.specs.Iterator.{YieldsThen, Drains}
use Rattle.std.specs.List.{filter, FoldsTo, AllWithin, HoldsAt, range_with_len}
use Rattle.std.specs.Slice.Iter.{iter_rest}
use Rattle.std.proofs.iter.Yields.{fronts, nat_range_steps}
use Rattle.std.proofs.lemmas.Iterator.{YieldsList-from_range, YieldsList-from_slice, cases_from_any, cases_from_all, first_from_Range, IsFirst-from_position}
use Rattle.std.proofs.lemmas.List.FromFn.{length-range_with_len, get_or-range_with_len}
use Rattle.ground.specs.Choose.{one}
use Rattle.ground.specs.Below.{any_below, all_below, count_below, first_not, first_failing}
use Rattle.ground.proofs.Tests.{either, T-is, is_T}
use Rattle.ground.proofs.Below.{any_some, none_any, every_all, at_below}
use Rattle.ground.proofs.Counting.{count_same}
use Rattle.ground.proofs.First.{Every, Lowest, first_cases, first_is, first_none}

-- ---- one answer

module _ (n : ℕ) (t : ℕ → Bool) where
  all_is : ((k : ℕ) → k < n → t k ≡ true) → true ≡ all_below n t
  all_is h = sym (T-is (all_below n t) (every_all n t (λ k l. is_T (t k) (h k l))))

  not-all : (k : ℕ) → k < n → t k ≡ false → false ≡ all_below n t
  not-all k l e = go (all_below n t) refl
    where
      go : (b : Bool) → all_below n t ≡ b → false ≡ b
      go false q = refl
      go true q = absurd (true≢false (sym (T-is (t k) (at_below n t (is_T (all_below n t) q) k l)) ∙ e))

  pub Some-failing : {k : ℕ} → Lowest t 0 n k → Some k ≡ first_failing n t
  Some-failing {k} p = rw (first_is n t p, lt-ltb k n p.inside)

  pub None-failing : Every t 0 n → None ≡ first_failing n t
  None-failing h = rw (first_none n t h, le-ltb n n (omega arith))

-- ---- over the numbers below n

at : (n k : ℕ) → k < n → get_or (range_with_len 0 n) k 0 ≡ k
at n k l = get_or-range_with_len 0 n k 0 l ∙ omega arith

module _ {F : Type 0} {g : Mut F (ℕ × Unit {0}) Bool} {n : ℕ} (t : ℕ → Bool) (u : Range ℕ) (f : F) (r : Bool) where
  pub any_over : (xs : List ℕ) × (o : Option ℕ) × (j : F) × YieldsThen nat_range_steps (record { start = 0; end = n }) xs o u × FoldsTo (λ p x q. Called g p (x, tt) false q) f xs j × MatchOption o (r ≡ false) (λ x. (r ≡ true) × ((h : F) × Called g j (x, tt) true h))
      → ((x : ℕ) (q : F) → Called g f (x, tt) true q → x < n → t x ≡ true)
      → ((x : ℕ) (q : F) → Called g f (x, tt) false q → (q ≡ f) × (x < n → t x ≡ false))
      → r ≡ any_below n t
  any_over d yes' no' = go r (cases_from_any u f r (λ x. x < n → t x ≡ true) (λ x. x < n → t x ≡ false) d (YieldsList-from_range 0 n n refl (omega arith)) yes' no')
    where
      go : (b : Bool) → MatchBool b ((k : ℕ) × (k < length (range_with_len 0 n)) × HoldsAt (λ x. x < n → t x ≡ true) (range_with_len 0 n) k) (AllWithin (λ x. x < n → t x ≡ false) (range_with_len 0 n) 0 (length (range_with_len 0 n))) → b ≡ any_below n t
      go true h = let l : h.0 < n = omega (arith, h.1, length-range_with_len 0 n) in sym (any_some n t h.0 l (rw (at n h.0 l) at (h.2 0) (omega arith)))
      go false h = sym (none_any n t (λ k l. rw (at n k l) at (h k 0 (omega arith) (omega (arith, length-range_with_len 0 n, l))) l))

  pub all_over : (xs : List ℕ) × (o : Option ℕ) × (j : F) × YieldsThen nat_range_steps (record { start = 0; end = n }) xs o u × FoldsTo (λ p x q. Called g p (x, tt) true q) f xs j × MatchOption o (r ≡ true) (λ x. (r ≡ false) × ((h : F) × Called g j (x, tt) false h))
      → ((x : ℕ) (q : F) → Called g f (x, tt) true q → (q ≡ f) × (x < n → t x ≡ true))
      → ((x : ℕ) (q : F) → Called g f (x, tt) false q → x < n → t x ≡ false)
      → r ≡ all_below n t
  all_over d yes' no' = go r (cases_from_all u f r (λ x. x < n → t x ≡ true) (λ x. x < n → t x ≡ false) d (YieldsList-from_range 0 n n refl (omega arith)) yes' no')
    where
      go : (b : Bool) → MatchBool b (AllWithin (λ x. x < n → t x ≡ true) (range_with_len 0 n) 0 (length (range_with_len 0 n))) ((k : ℕ) × (k < length (range_with_len 0 n)) × HoldsAt (λ x. x < n → t x ≡ false) (range_with_len 0 n) k) → b ≡ all_below n t
      go true h = all_is n t (λ k l. rw (at n k l) at (h k 0 (omega arith) (omega (arith, length-range_with_len 0 n, l))) l)
      go false h = let l : h.0 < n = omega (arith, h.1, length-range_with_len 0 n) in not-all n t h.0 l (rw (at n h.0 l) at (h.2 0) (omega arith))

module _ {F : Type 0} {g : Mut F (Bor ℕ × Unit {0}) Bool} {n : ℕ} (t : ℕ → Bool) (u : Range ℕ) (f : F) (r : Option ℕ) where
  -- it looks for a place at which t fails, from a on, where t holds below a
  pub find_from : (a : ℕ) → ((x : ℕ) → x < a → t x ≡ true)
      → (xs : List ℕ) × (j : F) × YieldsThen nat_range_steps (record { start = a; end = n }) xs r u × FoldsTo (λ p x q. CalledAt g p x false q) f xs j × MatchOption r ⊤ (λ x. (h : F) × CalledAt g j x true h)
      → ((x : ℕ) (q : F) → CalledAt g f x true q → a ≤ x → x < n → t x ≡ false)
      → ((x : ℕ) (q : F) → CalledAt g f x false q → (q ≡ f) × (a ≤ x → x < n → t x ≡ true))
      → r ≡ first_failing n t
  find_from a before d yes' no' = go r (first_from_Range (record { start = a; end = n }) u f r (λ x. a ≤ x → x < n → t x ≡ false) (λ x. a ≤ x → x < n → t x ≡ true) d yes' no')
    where
      go : (o : Option ℕ) → MatchOption o ((k : ℕ) → a ≤ k → k < n → a ≤ k → k < n → t k ≡ true) (λ i. (a ≤ i) × (i < n) × (a ≤ i → i < n → t i ≡ false) × ((k : ℕ) → a ≤ k → k < i → a ≤ k → k < n → t k ≡ true)) → o ≡ first_failing n t
      go None h = None-failing n t (λ j _ b. ⊎_elim (before j) (λ l. h j l b l b) (either j a))
      go (Some i) h =
          Some-failing n t (record {
            above = omega arith;
            inside = h.1;
            bad = h.2 h.0 h.1;
            below = λ j _ b. ⊎_elim (before j) (λ l. h.3 j l b l (omega (arith, h.1))) (either j a);
          })

  pub find_over : (xs : List ℕ) × (j : F) × YieldsThen nat_range_steps (record { start = 0; end = n }) xs r u × FoldsTo (λ p x q. CalledAt g p x false q) f xs j × MatchOption r ⊤ (λ x. (h : F) × CalledAt g j x true h)
      → ((x : ℕ) (q : F) → CalledAt g f x true q → x < n → t x ≡ false)
      → ((x : ℕ) (q : F) → CalledAt g f x false q → (q ≡ f) × (x < n → t x ≡ true))
      → r ≡ first_failing n t
  find_over d yes' no' =
      find_from 0 (λ x l. absurd (omega arith)) d (λ x q k _. yes' x q k) (λ x q k. let w = no' x q k in (w.0, λ _. w.1))

-- ---- over a list of numbers

module _ {F : Type 0} {g : Mut F (Bor ℕ × Unit {0}) Bool} {l : List ℕ} {s : Iter ℕ} (t : ℕ → Bool) (u : Iter ℕ) (f : F) where
  pub any_along : (r : Bool) → iter_rest s ≡ l
      → (xs : List (Bor ℕ)) × (o : Option (Bor ℕ)) × (j : F) × YieldsThen fronts s xs o u × FoldsTo (λ p x q. Called g p (x, tt) false q) f xs j × MatchOption o (r ≡ false) (λ x. (r ≡ true) × ((h : F) × Called g j (x, tt) true h))
      → ((x : Bor ℕ) (q : F) → Called g f (x, tt) true q → t x.now ≡ true)
      → ((x : Bor ℕ) (q : F) → Called g f (x, tt) false q → (q ≡ f) × (t x.now ≡ false))
      → r ≡ any_below (length l) (λ k. t (get_or l k 0))
  any_along r e d yes' no' = go r (cases_from_any u f r (λ x. t x ≡ true) (λ x. t x ≡ false) d (YieldsList-from_slice l e) yes' no')
    where
      go : (b : Bool) → MatchBool b ((k : ℕ) × (k < length l) × HoldsAt (λ x. t x ≡ true) l k) (AllWithin (λ x. t x ≡ false) l 0 (length l)) → b ≡ any_below (length l) (λ k. t (get_or l k 0))
      go true h = sym (any_some (length l) _ h.0 h.1 (h.2 0))
      go false h = sym (none_any (length l) _ (λ k b. h k 0 (omega arith) b))

  pub all_along : (r : Bool) → iter_rest s ≡ l
      → (xs : List (Bor ℕ)) × (o : Option (Bor ℕ)) × (j : F) × YieldsThen fronts s xs o u × FoldsTo (λ p x q. Called g p (x, tt) true q) f xs j × MatchOption o (r ≡ true) (λ x. (r ≡ false) × ((h : F) × Called g j (x, tt) false h))
      → ((x : Bor ℕ) (q : F) → Called g f (x, tt) true q → (q ≡ f) × (t x.now ≡ true))
      → ((x : Bor ℕ) (q : F) → Called g f (x, tt) false q → t x.now ≡ false)
      → r ≡ all_below (length l) (λ k. t (get_or l k 0))
  all_along r e d yes' no' = go r (cases_from_all u f r (λ x. t x ≡ true) (λ x. t x ≡ false) d (YieldsList-from_slice l e) yes' no')
    where
      go : (b : Bool) → MatchBool b (AllWithin (λ x. t x ≡ true) l 0 (length l)) ((k : ℕ) × (k < length l) × HoldsAt (λ x. t x ≡ false) l k) → b ≡ all_below (length l) (λ k. t (get_or l k 0))
      go true h = all_is (length l) _ (λ k b. h k 0 (omega arith) b)
      go false h = not-all (length l) _ h.0 h.1 (h.2 0)

  -- it looks for a number at which t fails
  pub position_along : (r : Option ℕ) → iter_rest s ≡ l
      → (xs : List (Bor ℕ)) × (o : Option (Bor ℕ)) × (j : F) × YieldsThen fronts s xs o u × FoldsTo (λ p x q. Called g p (x, tt) false q) f xs j × MatchOption o (r ≡ None) (λ x. (r ≡ Some (length xs)) × ((h : F) × Called g j (x, tt) true h))
      → ((x : Bor ℕ) (q : F) → Called g f (x, tt) true q → t x.now ≡ false)
      → ((x : Bor ℕ) (q : F) → Called g f (x, tt) false q → (q ≡ f) × (t x.now ≡ true))
      → r ≡ first_failing (length l) (λ k. t (get_or l k 0))
  position_along r e d yes' no' = go r (IsFirst-from_position u f r (λ x. t x ≡ false) (λ x. t x ≡ true) d (YieldsList-from_slice l e) yes' no')
    where
      go : (o : Option ℕ) → MatchOption o (AllWithin (λ x. t x ≡ true) l 0 (length l)) (λ i. (i < length l) × HoldsAt (λ x. t x ≡ false) l i × AllWithin (λ x. t x ≡ true) l 0 i) → o ≡ first_failing (length l) (λ k. t (get_or l k 0))
      go None h = None-failing (length l) _ (λ j a b. h j 0 a b)
      go (Some i) h = Some-failing (length l) _ (record { above = omega arith; inside = h.0; bad = h.1 0; below = λ j a b. h.2 j 0 a b })

-- ---- how many: `filter(..).count()`

module _ (t : ℕ → Bool) where
  one-cond : (b : Bool) → cond b 1 0 ≡ one b
  one-cond true = refl
  one-cond false = refl

  -- those of the first n of a list that pass
  passing : (l : List ℕ) (n : ℕ) → n ≤ length l → length (filter t (take n l)) ≡ count_below n (λ k. t (get_or l k 0))
  unfolding count_below
  passing l zero h = length-filter t (take 0 l)
  passing l (suc n) h =
      rw (length-filter t (take (suc n) l), ← add-one n, sum_by_more (λ x. cond (t x) 1 0) l n 0 (omega arith), ← length-filter t (take n l), passing l n (omega arith), one-cond (t (get_or l n 0)))

  module _ {F : Type 0} {g : Mut F (Bor (Bor ℕ) × Unit {0}) Bool} {s : Filter (Iter ℕ) F} {it : Iter ℕ} {f : F} {r : ℕ} (source : filter_source s ≡ it)
      (closure : filter_callee s ≡ f) (ran : (xs : List (Bor ℕ)) × Drains (filter_steps fronts g) s xs × (r ≡ length xs))
      (tells : (x : Bor ℕ) (b : Bool) (q : F) → CalledAt g f x b q → (q ≡ f) × (b ≡ t x.now))
    where
      passed-on : (l : List ℕ) → iter_rest it ≡ l → r ≡ length (filter t l)
      passed-on l e = count_from_yields_List s r ran (YieldsList-from_filter g t (YieldsList-at source (YieldsList-from_slice l e)) closure tells)

      pub count_along : (l : List ℕ) → iter_rest it ≡ l → r ≡ count_below (length l) (λ k. t (get_or l k 0))
      count_along l e = passed-on l e ∙ rw (take-length l) at (passing l (length l) (omega arith))

      -- of the first n of a list
      pub count_front : (l : List ℕ) (n : ℕ) → iter_rest it ≡ take n l → n ≤ length l → r ≡ count_below n (λ k. t (get_or l k 0))
      count_front l n e h = passed-on (take n l) e ∙ passing l n h

  -- of the numbers below n
  numbered : (n : ℕ) → length (filter t (range_with_len 0 n)) ≡ count_below n t
  numbered n =
      let e = length-range_with_len 0 n in
      rw (take_all n (range_with_len 0 n) (omega (arith, e))) at (passing (range_with_len 0 n) n (omega (arith, e)))
      ∙ count_same n _ t (λ k l. ap t (at n k l))

  pub count_over : {F : Type 0} {g : Mut F (Bor ℕ × Unit {0}) Bool} {s : Filter (Range ℕ) F} {n : ℕ} {f : F} {r : ℕ} → filter_source s ≡ record { start = 0; end = n } → filter_callee s ≡ f
      → (xs : List ℕ) × Drains (filter_steps nat_range_steps g) s xs × (r ≡ length xs)
      → ((x : ℕ) (b : Bool) (q : F) → CalledAt g f x b q → (q ≡ f) × (b ≡ t x))
      → r ≡ count_below n t
  count_over {g = g} {s} {n} source closure ran tells =
      count_from_yields_List s _ ran (YieldsList-from_filter g t (YieldsList-from_range 0 n n source (omega arith)) closure tells) ∙ numbered n

-- ---- `unwrap_or` of what is found

pub unwrap_first : (n : ℕ) (t : ℕ → Bool) → unwrap_or (first_failing n t) n ≡ first_not n t
unwrap_first n t = ⊎_elim (λ p. rw (lt-ltb _ n p.inside)) (λ a. rw (a.0, le-ltb n n (omega arith))) (first_cases n t)
