-- The definition of the unfolded circuit says what the request's words say: it keeps to them, and nothing else does.
-- Assumes nothing.
use mathlib.Core.Path.{◌≡◌, refl, ◌∙◌}
use mathlib.Core.Bool.{Bool, true, false, ◌&&◌}
use mathlib.Core.List.{List, ◌∷◌, ◌++◌}
use Prim.Native.Nat.{ℕ, zero, suc, ◌+◌, ◌*◌, ◌-◌, ◌/◌, ◌%◌, ◌≤◌, ◌<◌}
use native.Mathlib.Nat.{zero-add, zero-mul, mod-lt}
use native.Mathlib.Omega.{arith}
use lib.Dec.{eqb}
use borrow.Author.Tests.{eq-eqb, eqb-true, le-leb}
use Rattle.ground.specs.Choose.{choose}
use Rattle.ground.proofs.Tests.{both}
use Rattle.ground.proofs.Gather.{gather_each}
use Rattle.little.specs.Little.{le}
use Rattle.answers.specs.Rules.{refusal}
use Rattle.gates.proofs.Laws.{few_pins}
use Rattle.circuit.specs.Record.{lines_of, kind_at, out_at, pin_at}
use Rattle.circuit.specs.Promise.{circuit_rules}
use Rattle.circuit.proofs.Accepted.{good}
use Rattle.states.specs.States.{state_count, data_line, state_line, is_state, is_data}
use Rattle.states.specs.Rules.{lines_after, GoodSteps}
use Rattle.states.proofs.Records.{state_same, data_same, is_state_lem, data_of_lem}
use Rattle.unfolded.specs.Unfolded.{holds, step_out, step_pin, step_record, unfolded_to, unfolded}
use Rattle.unfolded.specs.Words.{StateLine, DataLine, Moved, BufferOf, Unfolds}
use Rattle.unfolded.proofs.Lines.{held_kind, held-pin, held-lacks, kept_kind, kept-pin, kept-lacks}
use Rattle.unfolded.proofs.Sources.{kind_small}
use Rattle.unfolded.proofs.Fields.{unfolded_long, unfolded_kind, unfolded_out, unfolded-pin}
use Rattle.unfolded.proofs.Bytes.{Bytes}
use Rattle.unfolded.proofs.Accepted.{layouts, out_bit}
use Rattle.unfolded.proofs.Unique.{one_unfolding}
use Rattle.std.specs.Prelude.{Ok}

-- ---- it keeps to the words

-- kind, output byte and three pairs of bytes
record_bytes : (a b x y z : ℕ) → a < 256 → b < 256 → Bytes (a ∷ b ∷ (le 2 x ++ (le 2 y ++ le 2 z)))
unfolding le
record_bytes a b x y z p q zero = p
record_bytes a b x y z p q (suc zero) = q
record_bytes a b x y z p q (suc (suc zero)) = mod-lt x (omega arith)
record_bytes a b x y z p q (suc (suc (suc zero))) = mod-lt (x / 256) (omega arith)
record_bytes a b x y z p q (suc (suc (suc (suc zero)))) = mod-lt y (omega arith)
record_bytes a b x y z p q (suc (suc (suc (suc (suc zero))))) = mod-lt (y / 256) (omega arith)
record_bytes a b x y z p q (suc (suc (suc (suc (suc (suc zero)))))) = mod-lt z (omega arith)
record_bytes a b x y z p q (suc (suc (suc (suc (suc (suc (suc zero))))))) = mod-lt (z / 256) (omega arith)
record_bytes a b x y z p q (suc (suc (suc (suc (suc (suc (suc (suc i)))))))) = omega arith

module _ {c st : List ℕ} {k : ℕ} (fine : refusal (circuit_rules c) ≡ Ok tt) (steps : GoodSteps c st k) where
  abbrev u : List ℕ
  u = unfolded c st k

  unfolded-bytes : Bytes u
  unfolding unfolded_to step_record
  unfolded-bytes =
      gather_each (λ x. x < 256) 0 (omega arith) (λ j. step_record c st k (j / lines_of c) (j % lines_of c)) (lines_after c k)
      (λ j l.
      let inside : j % lines_of c < lines_of c = mod-lt j (good c fine).some_lines in
      record_bytes _ _ _ _ _
      (omega (arith, kind_small (good c fine) steps (j / lines_of c) (j % lines_of c) inside))
      (omega (arith, out_bit fine steps (j / lines_of c) (j % lines_of c) inside)))

  module _ (i m : ℕ) (h : i < k) (l : m < lines_of c) where
    pin : (s : ℕ) → 1 ≤ s → s ≤ 3 → pin_at u (i * lines_of c + m) s ≡ step_pin c st i m s
    pin = unfolded-pin c st k i m h l (good c fine) steps

    moved : holds st i m ≡ false → Moved c u (i * lines_of c + m) m (i * lines_of c)
    moved kept = record {
      kind = unfolded_kind c st k i m h l ∙ kept_kind c st i m kept;
      has = λ s a b. pin s a (omega (arith, few_pins (kind_at c m))) ∙ kept-pin c st i m kept s b;
      lacks = λ s a b. pin s (omega arith) b ∙ kept-lacks c st i m kept s a;
    }

    -- ---- outputs

    out : out_at u (i * lines_of c + m) ≡ step_out c st k i m
    out = unfolded_out c st k i m h l

    out_stays : out_at c m ≡ 1 → step_out c st k i m ≡ 1
    unfolding step_out
    out_stays e = go (eqb (suc i) k && is_data st m)
      where
        go : (t : Bool) → choose t 1 (out_at c m) ≡ 1
        go true = refl
        go false = e

    out_becomes : suc i ≡ k → DataLine st m → step_out c st k i m ≡ 1
    unfolding step_out
    out_becomes e w = rw (eq-eqb (suc i) k e, (data_same st m).tests w)

    out_none : (out_at c m ≡ 1 → ⊥) → (suc i ≡ k → DataLine st m → ⊥) → step_out c st k i m ≡ 0
    unfolding step_out
    out_none n d = go (eqb (suc i) k && is_data st m) refl
      where
        go : (t : Bool) → (eqb (suc i) k && is_data st m) ≡ t → choose t 1 (out_at c m) ≡ 0
        go true e = let w = both (eqb (suc i) k) (is_data st m) e in absurd (d (eqb-true _ _ w.0) ((data_same st m).holds w.1))
        go false e = omega (arith, (layouts c fine m l).output)

  -- ---- a state line of a later step

  buffered : (i r : ℕ) → suc i < k → r < state_count st → BufferOf u (suc i * lines_of c + state_line st r) (i * lines_of c + data_line st r)
  buffered i r h l = record {
    kind = unfolded_kind c st k (suc i) (state_line st r) h inside ∙ held_kind c st (suc i) (state_line st r) held;
    first = pin (suc i) (state_line st r) h inside 1 (omega arith) (omega arith) ∙ held-pin c st (suc i) (state_line st r) held ∙ rw (less, data_of_lem steps r l);
    second = pin (suc i) (state_line st r) h inside 2 (omega arith) (omega arith) ∙ held-lacks c st (suc i) (state_line st r) held 2 (omega arith);
    third = pin (suc i) (state_line st r) h inside 3 (omega arith) (omega arith) ∙ held-lacks c st (suc i) (state_line st r) held 3 (omega arith);
  }
    where
      inside : state_line st r < lines_of c
      inside = (steps.layout r l).state_inside

      held : holds st (suc i) (state_line st r) ≡ true
      held = rw (le-leb 1 (suc i) (omega arith)) (is_state_lem steps r l)

      less : suc i - 1 ≡ i
      less = omega arith

  -- a line that is no state line
  no_state : (i m : ℕ) → (StateLine st m → ⊥) → holds st (suc i) m ≡ false
  no_state i m n = rw (le-leb 1 (suc i) (omega arith)) (go (is_state st m) refl)
    where
      go : (t : Bool) → is_state st m ≡ t → t ≡ false
      go true e = absurd (n ((state_same st m).holds e))
      go false e = refl

  pub unfolded_words : Unfolds c st k u
  unfolded_words = record {
    bytes = unfolded-bytes;
    size = unfolded_long c st k;
    first = λ m l. rw (zero-mul, zero-add) at (moved 0 m steps.some_steps l refl);
    state = buffered;
    other = λ i m h l n. moved (suc i) m h l (no_state i m n);
    stays = λ i m h l e. out i m h l ∙ out_stays i m h l e;
    becomes = λ i m e l w. let h : i < k = omega arith in out i m h l ∙ out_becomes i m h l e w;
    none = λ i m h l n d. out i m h l ∙ out_none i m h l n d;
  }

  -- ---- and nothing else does

  pub words_unfolded : {v : List ℕ} → Unfolds c st k v → v ≡ u
  words_unfolded words = one_unfolding words unfolded_words
