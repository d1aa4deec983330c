-- Values that come step by step as those of a clocked circuit do, by any gate rule: what stands in each step on a state line, a free input, a gate.
-- Assumes nothing.
use mathlib.Core.Path.{◌≡◌, sym, ap, subst, ◌∙◌}
use mathlib.Core.Bool.{true, false, not, and-false}
use mathlib.Core.List.{List}
use Prim.Native.Nat.{ℕ, zero, suc, ◌<◌}
use native.Mathlib.Omega.{arith}
use lib.Dec.{leb}
use lib.ListN.{length, get_or}
use borrow.Author.Tests.{le-leb, eq-eqb, eqb-false, not-true}
use Rattle.ground.specs.Choose.{choose}
use Rattle.ground.specs.Lists.{grow}
use Rattle.ground.proofs.Tests.{both}
use Rattle.ground.proofs.Grow.{grow-length}
use Rattle.gates.proofs.Laws.{few_pins}
use Rattle.circuit.specs.Record.{lines_of, kind_at, pin_at, is_input}
use Rattle.circuit.specs.Formed.{Good}
use Rattle.states.specs.States.{state_count, data_line, state_line, is_state, data_of, is_free}
use Rattle.states.specs.Rules.{GoodSteps}
use Rattle.states.proofs.Records.{is_state_lem, data_of_lem}
use Rattle.unfolded.specs.Unfolded.{holds}
use Rattle.clocked.proofs.Lines.{GateRule, ForcingOf, line_by, at_input, at_gate}

-- what is put on the inputs of a step after one with the values vs
abbrev pub next_by : {A : Type 0} → A → List ℕ → List A → (ℕ → A) → ℕ → A
next_by d st vs x m = choose (is_state st m) (get_or vs (data_of st m) d) (x m)

-- in step i, x i m is put on the input at line m
pub record Clocks {A : Type 0} (gate : ℕ → (ℕ → A) → A) (d : A) (f : ForcingOf A) (c st : List ℕ) (x : ℕ → ℕ → A) (values : ℕ → List A) : Type 0 where
  pub first : values 0 ≡ grow (line_by gate d f c (x 0)) (lines_of c)
  pub next : (i : ℕ) → values (suc i) ≡ grow (line_by gate d f c (next_by d st (values i) (x (suc i)))) (lines_of c)

module _ {A : Type 0} {gate : ℕ → (ℕ → A) → A} {d : A} {f : ForcingOf A} {c st : List ℕ} {x : ℕ → ℕ → A} {values : ℕ → List A} (clocks : Clocks gate d f c st x values) where
  -- what is put on the inputs of step i, the state among them
  abbrev put_in : ℕ → ℕ → A
  put_in zero = x 0
  put_in (suc i) = next_by d st (values i) (x (suc i))

  comes : (i : ℕ) → values i ≡ grow (line_by gate d f c (put_in i)) (lines_of c)
  comes zero = clocks.first
  comes (suc i) = clocks.next i

  pub step_long : (i : ℕ) → length (values i) ≡ lines_of c
  step_long i = ap length (comes i) ∙ grow-length (line_by gate d f c (put_in i)) (lines_of c)

  module _ (m : ℕ) (l : m < lines_of c) where
    on-input : (i : ℕ) → is_input c m ≡ true → get_or (values i) m d ≡ f m 0 (put_in i m)
    on-input i e = ap (λ (vs : List A). get_or vs m d) (comes i) ∙ at_input gate d f c (put_in i) (lines_of c) m l e

    -- an input that is no state line, as each is in the first step, has what is put on it
    pub given-there : (i : ℕ) → holds st i m ≡ false → is_input c m ≡ true → get_or (values i) m d ≡ f m 0 (x i m)
    given-there zero kept e = on-input 0 e
    given-there (suc i) kept e =
        let no : is_state st m ≡ false = rw (le-leb 1 (suc i) (omega arith)) at kept in
        on-input (suc i) e ∙ rw no

    -- so a free one in every step
    pub free-there : (i : ℕ) → is_free c st m ≡ true → get_or (values i) m d ≡ f m 0 (x i m)
    unfolding is_free
    free-there i e =
        let w = both (is_input c m) (not (is_state st m)) e in
        given-there i (rw (not-true (is_state st m) w.1) (and-false (leb 1 i))) w.0

    -- after a clock a state line has what its data line had
    pub next_state : (i : ℕ) → is_state st m ≡ true → is_input c m ≡ true → get_or (values (suc i)) m d ≡ f m 0 (get_or (values i) (data_of st m) d)
    next_state i state e = on-input (suc i) e ∙ rw state

    -- and a gate what its kind gives of what its pins see in the same step
    pub on-gate : {Value : A → Type 0} → GateRule gate Value → Good c → (i : ℕ) → is_input c m ≡ false
        → get_or (values i) m d ≡ f m 0 (gate (kind_at c m) (λ s. f m s (get_or (values i) (pin_at c m s) d)))
    on-gate rule good i e =
        subst (λ (vs : List A). get_or vs m d ≡ f m 0 (gate (kind_at c m) (λ s. f m s (get_or vs (pin_at c m s) d)))) (sym (comes i))
        (at_gate gate d f c (put_in i) (lines_of c) m l rule e (good.well.kinds m l)
        (λ s a b. good.well.lower m l (eqb-false (kind_at c m) 0 e) s a (omega (arith, few_pins (kind_at c m)))))

  -- the state line of a record has what the data line of the record had
  pub next_record : {k : ℕ} → GoodSteps c st k → (i r : ℕ) → r < state_count st
      → get_or (values (suc i)) (state_line st r) d ≡ f (state_line st r) 0 (get_or (values i) (data_line st r) d)
  next_record g i r l =
      next_state (state_line st r) (g.layout r l).state_inside i (is_state_lem g r l) (eq-eqb _ _ (g.layout r l).input) ∙ rw (data_of_lem g r l)
