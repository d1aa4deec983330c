-- Bound lines and head lines: the definitions say what the words say.
-- Assumes nothing.
use mathlib.Core.Path.{◌≡◌, refl, sym, ◌∙◌}
use mathlib.Core.Logic.{◌⊎◌, inl, inr}
use mathlib.Core.Bool.{Bool, true, false, not, ◌&&◌, ◌||◌, false≢true, or-true}
use mathlib.Core.List.{List}
use Prim.Native.Nat.{ℕ, ◌<◌}
use Rattle.ground.proofs.Below.{each_below}
use Rattle.answers.specs.Rules.{Same}
use Rattle.circuit.specs.Record.{pin_at}
use Rattle.circuit.specs.Formed.{WellFormed}
use Rattle.reads.specs.Reads.{branches}
use Rattle.reads.specs.Words.{PinReads, Branches}
use Rattle.reads.proofs.Pins.{branches_says}
use Rattle.heads.specs.Heads.{bound, read_by_bound, head}
use Rattle.heads.specs.Words.{Bound, branch, beyond, Head}
use Rattle.heads.proofs.Pins.{PinAt, pin-some, pin_lower, reads}
use Rattle.heads.proofs.Forest.{bound_law, reached, bound_reader, reader_bound}

module _ {c : List ℕ} {m n : ℕ} (well : WellFormed c m n) where
  -- ---- bound

  bound_tests : {k : ℕ} → Bound c n k → bound c n k ≡ true
  bound_tests (branch {j = j} r b) = reached well r (rw ((branches_says c n j).tests b))
  bound_tests (beyond r b) = reached well r (rw (bound_tests b, or-true))

  bound-holds : (k : ℕ) → k < n → bound c n k ≡ true → Bound c n k
  bound-holds = each_below (λ k. bound c n k ≡ true → Bound c n k) n (λ k l below e. go k l below (pin-some c k (λ j. branches c n j || bound c n j) (sym (bound_law well k l) ∙ e)))
    where
      go : (k : ℕ)
          → k < n
          → ((j : ℕ) → j < k → bound c n j ≡ true → Bound c n j)
          → PinAt c k (λ j. branches c n j || bound c n j)
          → Bound c n k
      go k l below w = at (branches c n (pin_at c k w.pin)) refl w.passes
        where
          at : (t : Bool) → branches c n (pin_at c k w.pin) ≡ t → (t || bound c n (pin_at c k w.pin)) ≡ true → Bound c n k
          at true q e = branch (reads well k w.pin l w.some w.has) ((branches_says c n _).holds q)
          at false q e = beyond (reads well k w.pin l w.some w.has) (below (pin_at c k w.pin) (pin_lower well k w.pin l w.some w.has) e)

  pub bound_says : (k : ℕ) → k < n → Same (bound c n k) (Bound c n k)
  bound_says k l = record { holds = bound-holds k l; tests = bound_tests }

  -- ---- head lines

  pub head_says : (k : ℕ) → k < n → Same (head c n k) (Head c n k)
  unfolding head
  head_says k l = record { holds = holds (bound c n k) refl (read_by_bound c n k) refl (branches c n k) refl; tests = tests (bound c n k) refl }
    where
      holds : (b : Bool) → bound c n k ≡ b → (r : Bool) → read_by_bound c n k ≡ r → (t : Bool) → branches c n k ≡ t → (not b && (r || t)) ≡ true → Head c n k
      holds true e r f t g h = absurd (false≢true h)
      holds false e true f t g h = record {
        is_free_line = λ b. false≢true (sym e ∙ bound_tests b);
        why = let w = bound_reader well k f in inl (w.0, w.1, w.2, bound-holds w.0 w.2.line w.3);
      }
      holds false e false f true g h = record { is_free_line = λ b. false≢true (sym e ∙ bound_tests b); why = inr ((branches_says c n k).holds g) }
      holds false e false f false g h = absurd (false≢true h)

      why-tests : ((j : ℕ) × (s : ℕ) × PinReads c n k j s × Bound c n j) ⊎ Branches c n k → (read_by_bound c n k || branches c n k) ≡ true
      why-tests (inl w) = rw (reader_bound well w.2 (bound_tests w.3))
      why-tests (inr b) = rw ((branches_says c n k).tests b, or-true)

      tests : (b : Bool) → bound c n k ≡ b → Head c n k → (not b && (read_by_bound c n k || branches c n k)) ≡ true
      tests true e h = absurd (h.is_free_line (bound-holds k l e))
      tests false e h = why-tests h.why

  -- a line that branches has a reader, which is bound: so a free line is a head line exactly if a bound line reads it
  pub head-is : (k : ℕ) → (not (bound c n k) && read_by_bound c n k) ≡ head c n k
  unfolding head
  head-is k = go (read_by_bound c n k) refl (branches c n k) refl
    where
      go : (r : Bool) → read_by_bound c n k ≡ r → (t : Bool) → branches c n k ≡ t → (not (bound c n k) && r) ≡ (not (bound c n k) && (r || t))
      go true e t f = refl
      go false e false f = refl
      go false e true f =
          let b = (branches_says c n k).holds f in
          absurd (false≢true (sym e ∙ reader_bound well b.one (reached well b.one (rw f))))
