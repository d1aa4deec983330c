-- Refusal 14 in words: its tests say what they ask, it is given exactly at the first bad byte, and exactly the right texts have none.
-- Assumes nothing.
use mathlib.Core.Path.{◌≡◌, refl, sym, ◌∙◌, subst}
use mathlib.Core.Logic.{◌⊎◌, inl, inr, ⊎_elim}
use mathlib.Core.Bool.{Bool, true, false, true≢false}
use mathlib.Core.List.{List, map-append}
use Prim.Native.Nat.{ℕ, suc, ◌≤◌, ◌<◌}
use native.Mathlib.Omega.{arith}
use lib.Dec.{ltb}
use lib.ListN.{length, take, drop, take-append-drop}
use borrow.Author.Tests.{ltb-true, lt-ltb}
use Rattle.ground.proofs.Tests.{either, both, and_both}
use Rattle.answers.specs.Rules.{refusal, Applies, AllHold, Same, AllSay}
use Rattle.answers.proofs.Rules.{applies, refused, all_hold, fine}
use Rattle.syntax.specs.Regular.{Has}
use Rattle.syntax.specs.Derivative.{after, live}
use Rattle.syntax.specs.Grammar.{symbol, symbols, bench}
use Rattle.syntax.specs.Syntax.{most_bytes, formed, Formed, goes_on, GoesOn, syntax_rules, FirstBad, RightText}
use Rattle.syntax.proofs.Derivative.{has_same, begins, is_begun}
use Rattle.syntax.proofs.Spelt.{in_bytes}
use Rattle.std.specs.Prelude.{Ok, Err}
use Rattle.answers.specs.declared.Reason.{Reason}
use Rattle.answers.specs.declared.Reason.TheVariants.{BenchSyntax}

-- ---- the tests and what they ask

pub formed-same : (t : List ℕ) → Same (formed t) (Formed t)
unfolding formed Formed
formed-same t = has_same bench (symbols t)

pub goes_same : (t : List ℕ) (i : ℕ) → Same (goes_on t i) (GoesOn t i)
unfolding goes_on Formed
goes_same t i = record {
  holds = λ e.
      let b = both (ltb i most_bytes) (live (after bench (symbols u))) e in
      let p = begins bench (symbols u) b.1 in
      let q = in_bytes u p.0 p.1 in
      record { room = ltb-true i most_bytes b.0; rest = q.0; right = q.1 };
  tests = λ g.
      and_both (lt-ltb i most_bytes g.room)
      (is_begun bench (symbols u) (symbols g.rest) (subst (Has bench) (map-append symbol u g.rest) g.right));
}
  where
    u : List ℕ
    u = take (suc i) t

pub syntax_says : (t : List ℕ) → AllSay (syntax_rules t)
unfolding AllSay syntax_rules
syntax_says t = (λ k h. goes_same t k, (formed-same t, tt))

-- ---- a right text

-- every byte of a right text goes on
right-on : (t : List ℕ) → RightText t → (k : ℕ) → k < length t → GoesOn t k
right-on t r k h = record {
  room = omega (arith, r.room);
  rest = drop (suc k) t;
  right = subst Formed (sym (take-append-drop (suc k) t)) r.is_formed;
}

pub right_text : (t : List ℕ) → refusal (syntax_rules t) ≡ Ok tt → RightText t
unfolding AllHold syntax_rules
right_text t e = let a = all_hold (syntax_rules t) (syntax_says t) e in record { is_formed = a.1.0; room = short a.0 (either most_bytes (length t)) }
  where
    short : ((k : ℕ) → k < length t → GoesOn t k) → (most_bytes < length t) ⊎ (length t ≤ most_bytes) → length t ≤ most_bytes
    short on (inl h) = let g = (on most_bytes h).room in omega arith
    short on (inr h) = h

pub text_fine : (t : List ℕ) → RightText t → refusal (syntax_rules t) ≡ Ok tt
unfolding AllHold syntax_rules
text_fine t r = fine (syntax_rules t) (syntax_says t) (right-on t r, (r.is_formed, tt))

-- ---- the first bad byte

-- a byte of which it can't be that it stops goes on
goes : (t : List ℕ) (j : ℕ) → ((GoesOn t j → ⊥) → ⊥) → GoesOn t j
goes t j n = go (goes_on t j) refl
  where
    go : (b : Bool) → goes_on t j ≡ b → GoesOn t j
    go true e = (goes_same t j).holds e
    go false e = absurd (n (λ g. true≢false (sym ((goes_same t j).tests g) ∙ e)))

-- what is refused is 14, at the first bad byte
pub first_bad : (t : List ℕ) (m : Reason) (i : ℕ) → refusal (syntax_rules t) ≡ Err (m, i) → (m ≡ BenchSyntax) × FirstBad t i
unfolding Applies syntax_rules
first_bad t m i e = go (applies (syntax_rules t) (syntax_says t) m i e)
  where
    go : Applies (syntax_rules t) m i → (m ≡ BenchSyntax) × FirstBad t i
    go (inl (q, (h, s), low)) = (q, record { before = λ j l. goes t j (λ n. let k = low j (omega arith, n) in omega arith); here = inl (h, s) })
    go (inr (never, inl (q, (p, s), low))) = (q, record { before = λ j l. goes t j (λ n. never j (omega arith, n)); here = inr (p, s) })
    go (inr (never, inr (none, x))) = absurd x

-- and at the first bad byte 14 is refused
pub bad_refused : (t : List ℕ) (i : ℕ) → FirstBad t i → refusal (syntax_rules t) ≡ Err (BenchSyntax, i)
unfolding Applies syntax_rules
bad_refused t i f = refused (syntax_rules t) (syntax_says t) BenchSyntax i (go f.here)
  where
    go : ((i < length t) × (GoesOn t i → ⊥)) ⊎ ((i ≡ length t) × (Formed t → ⊥)) → Applies (syntax_rules t) BenchSyntax i
    go (inl (h, s)) = inl (refl, (h, s), λ j b. ⊎_elim (λ l. absurd (b.1 (f.before j l))) (λ l. l) (either j i))
    go (inr (e, s)) = inr (λ j b. b.1 (f.before j (omega (arith, b.0))), inl (refl, (e, s), λ j b. omega (arith, b.0)))
