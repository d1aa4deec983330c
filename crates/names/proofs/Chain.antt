-- A walk along the definitions of one hash finds the definition of a name.
-- Assumes nothing.
use mathlib.Core.Path.{◌≡◌, refl, sym, ap, ◌∙◌}
use mathlib.Core.Bool.{Bool, true, false}
use mathlib.Core.List.{List}
use Rattle.std.specs.Prelude.{None, Some}
use Prim.Native.Nat.{ℕ, suc, ◌-◌, ◌≤◌, ◌<◌}
use native.Mathlib.Omega.{arith}
use lib.ListN.{get_or}
use borrow.Author.Tests.{eq-eqb, eqb-true}
use Rattle.ground.specs.Choose.{choose}
use Rattle.words.specs.Words.{word_at}
use Rattle.words.proofs.Same.{same_eq}
use Rattle.names.specs.Names.{last_with, named, definition}
use Rattle.names.specs.Owed.{hash_from, hashed, linked, Table}
use Rattle.names.proofs.Mixed.{hash_of}
use Rattle.names.proofs.Last.{last_is, last_most, skip_none, skip}

same_hash : (t defs w : List ℕ) (h : ℕ) → h ≡ hash_from 0 w → (d : ℕ) → named t defs w d ≡ true → hashed t defs h d ≡ true
same_hash t defs w h e d s = eq-eqb (hash_of t defs d) h (ap (hash_from 0) (same_eq (word_at t (get_or defs d 0)) w s) ∙ sym e)

-- at p, what is left to look at are the definitions below `upto`
pub record ChainWalk (t defs w : List ℕ) (n h p : ℕ) : Type 0 where
  pub upto : ℕ
  pub known : upto ≤ n
  pub hash : h ≡ hash_from 0 w
  pub at : p ≡ last_with (hashed t defs h) upto
  pub left : definition t defs n w ≡ last_with (named t defs w) upto

pub start : {t defs w head next : List ℕ} {n h p : ℕ} → Table t defs head next n → h ≡ hash_from 0 w → h < 8192 → p ≡ get_or head h 0 → ChainWalk t defs w n h p
unfolding definition
start {n = n} {h = h} T e l q = record { upto = n; known = omega arith; hash = e; at = q ∙ T.first h l; left = refl }

module _ {t defs w : List ℕ} {n h p : ℕ} (k : ChainWalk t defs w n h p) where
  pub ended : p ≤ 0 → None ≡ linked (definition t defs n w)
  ended z = sym (ap linked (k.left ∙ skip_none (named t defs w) (hashed t defs h) (same_hash t defs w h k.hash) k.upto (sym k.at ∙ omega arith)))

  module _ (z : 0 < p) where
    one : last_with (hashed t defs h) k.upto ≡ suc (p - 1)
    one = sym k.at ∙ omega arith

    pub inside : p - 1 < n
    inside = let l = last_is (hashed t defs h) k.upto (p - 1) one in omega (arith, l.below, k.known)

    -- nothing between is of this name: it would have this hash
    skipped : definition t defs n w ≡ choose (named t defs w (p - 1)) (suc (p - 1)) (last_with (named t defs w) (p - 1))
    skipped = k.left ∙ skip (named t defs w) (hashed t defs h) (same_hash t defs w h k.hash) k.upto (p - 1) one

    pub hit : named t defs w (p - 1) ≡ true → Some (p - 1) ≡ linked (definition t defs n w)
    hit e = sym (ap linked (skipped ∙ ap (λ (b : Bool). choose b (suc (p - 1)) (last_with (named t defs w) (p - 1))) e))

    module _ {head next : List ℕ} (T : Table t defs head next n) where
      pub more : (p' : ℕ) → named t defs w (p - 1) ≡ false → p' ≡ get_or next (p - 1) 0 → ChainWalk t defs w n h p'
      more p' e q = record {
        upto = p - 1;
        known = let i = inside in omega arith;
        hash = k.hash;
        at =
            q ∙ T.rest (p - 1) inside
            ∙ ap (λ (x : ℕ). last_with (hashed t defs x) (p - 1)) (eqb-true (hash_of t defs (p - 1)) h (last_is (hashed t defs h) k.upto (p - 1) one).passes);
        left = skipped ∙ ap (λ (b : Bool). choose b (suc (p - 1)) (last_with (named t defs w) (p - 1))) e;
      }

      pub falls : get_or next (p - 1) 0 < p
      falls = omega (arith, T.rest (p - 1) inside, last_most (hashed t defs (hash_of t defs (p - 1))) (p - 1))
