-- What the state records say of a line: that it is a state line, by which record, and its data line; and that it is a data line.
-- Assumes nothing.
use mathlib.Core.Path.{◌≡◌, refl, sym, ap}
use mathlib.Core.Logic.{⊎_elim}
use mathlib.Core.Bool.{Bool, true, false, not}
use mathlib.Core.List.{List}
use Prim.Native.Nat.{ℕ, ◌≤◌, ◌<◌}
use native.Mathlib.Omega.{arith}
use lib.Dec.{eqb}
use borrow.Author.Tests.{eqb-true, eqb-false, ltb-true, ltb-false, lt-ltb, not-true, not-false}
use Rattle.ground.proofs.First.{first_cases}
use Rattle.ground.proofs.Tests.{either}
use Rattle.answers.specs.Rules.{Same}
use Rattle.answers.proofs.Same.{eq_same, some_same}
use Rattle.circuit.specs.Record.{kind_at, lines_of}
use Rattle.states.specs.States.{state_count, data_line, state_line, state_record, is_state, data_of, is_data}
use Rattle.states.specs.Rules.{StateLayout, GoodSteps}

-- ---- whatever the records

module _ (st : List ℕ) (m : ℕ) where
  -- a state line is that of its record
  pub record_inside : is_state st m ≡ true → state_record st m < state_count st
  unfolding is_state
  record_inside e = ltb-true _ _ e

  pub record_line : is_state st m ≡ true → state_line st (state_record st m) ≡ m
  unfolding state_record
  record_line e =
      ⊎_elim (λ l. eqb-true _ _ (not-false _ l.bad)) (λ a. absurd (omega (arith, record_inside e, a.0)))
      (first_cases (state_count st) (λ r. not (eqb (state_line st r) m)))

  -- and no record with that state line comes before its own
  pub record_first : (r : ℕ) → r < state_count st → state_line st r ≡ m → state_record st m ≤ r
  unfolding state_record
  record_first r l is =
      ⊎_elim
      (λ q. ⊎_elim (λ h. absurd (distinct (q.below r (omega arith) h))) (λ h. h) (either r (state_record st m)))
      (λ a. absurd (distinct (a.1 r (omega arith) l)))
      (first_cases (state_count st) (λ r. not (eqb (state_line st r) m)))
    where
      distinct : not (eqb (state_line st r) m) ≡ true → ⊥
      distinct e = eqb-false _ _ (not-true _ e) is

  -- the others have none
  pub no_record : is_state st m ≡ false → state_record st m ≡ state_count st
  unfolding is_state state_record
  no_record e =
      ⊎_elim (λ l. absurd (omega (arith, ltb-false (state_record st m) (state_count st) e, l.inside))) (λ a. a.0)
      (first_cases (state_count st) (λ r. not (eqb (state_line st r) m)))

  -- a line is a state line exactly if it is that of a record
  pub state_same : Same (is_state st m) ((r : ℕ) × (r < state_count st) × (state_line st r ≡ m))
  unfolding is_state
  state_same = record {
    holds = λ e. (state_record st m, record_inside e, record_line e);
    tests = λ w. lt-ltb (state_record st m) (state_count st) (omega (arith, record_first w.0 w.1 w.2, w.1));
  }

  -- and so it is with data lines
  pub data_same : Same (is_data st m) ((r : ℕ) × (r < state_count st) × (data_line st r ≡ m))
  unfolding is_data
  data_same = some_same (state_count st) (λ r. eq_same (data_line st r) m)

-- ---- records that keep their layout

module _ {c st : List ℕ} {k : ℕ} (g : GoodSteps c st k) where
  -- two records have two state lines
  pub state_once : (q r : ℕ) → q < state_count st → r < state_count st → state_line st q ≡ state_line st r → q ≡ r
  state_once q r a b e =
      ⊎_elim (λ l. absurd ((g.layout r b).once q l e))
      (λ l. ⊎_elim (λ h. absurd ((g.layout q a).once r h (sym e))) (λ h. omega arith) (either r q))
      (either q r)

  module _ (r : ℕ) (inside : r < state_count st) where
    -- the state line of record r is a state line, by that record
    pub is_state_lem : is_state st (state_line st r) ≡ true
    is_state_lem = (state_same st (state_line st r)).tests (r, inside, refl)

    pub record_of_lem : state_record st (state_line st r) ≡ r
    record_of_lem = state_once _ r (record_inside st _ is_state_lem) inside (record_line st _ is_state_lem)

    -- so its data line is that of record r
    pub data_of_lem : data_of st (state_line st r) ≡ data_line st r
    unfolding data_of
    data_of_lem = ap (data_line st) record_of_lem

    pub is_data_lem : is_data st (data_line st r) ≡ true
    is_data_lem = (data_same st (data_line st r)).tests (r, inside, refl)

  -- a state line is an input of the circuit, and its data line a line of it
  module _ (m : ℕ) (e : is_state st m ≡ true) where
    layout_of : StateLayout c st (state_record st m)
    layout_of = g.layout (state_record st m) (record_inside st m e)

    pub state_line_inside : m < lines_of c
    state_line_inside = rw (record_line st m e) at layout_of.state_inside

    pub state_input : kind_at c m ≡ 0
    state_input = rw (record_line st m e) at layout_of.input

    pub data_line_inside : data_of st m < lines_of c
    unfolding data_of
    data_line_inside = layout_of.data_inside

    -- and that is a data line
    pub data_is_data : is_data st (data_of st m) ≡ true
    unfolding data_of
    data_is_data = is_data_lem (state_record st m) (record_inside st m e)

  -- a data line is a line of the circuit
  pub data_inside : (m : ℕ) → is_data st m ≡ true → m < lines_of c
  data_inside m e = let w = (data_same st m).holds e in rw w.2 at (g.layout w.0 w.1).data_inside

  -- what is no input is no state line
  pub gate-no_state : (m : ℕ) → (kind_at c m ≡ 0 → ⊥) → is_state st m ≡ false
  gate-no_state m d = go (is_state st m) refl
    where
      go : (b : Bool) → is_state st m ≡ b → b ≡ false
      go true e = absurd (d (state_input m e))
      go false e = refl
