-- The fields of the unfolded circuit's records: kind, output byte and sources of line m of step i are those that the definition gives it.
-- Assumes nothing.
use mathlib.Core.Path.{◌≡◌, refl, ◌∙◌}
use mathlib.Core.List.{List}
use Prim.Native.Nat.{ℕ, ◌+◌, ◌*◌, ◌/◌, ◌%◌, ◌≤◌, ◌<◌}
use native.Mathlib.Nat.{add-zero, mul_comm, mul-div_right}
use native.Mathlib.Omega.{arith}
use lib.ListN.{length, get_or}
use Rattle.ground.proofs.Gather.{gather-length, gather_at}
use Rattle.little.specs.Little.{le, pair_at}
use Rattle.little.proofs.Little.{read_back}
use Rattle.circuit.specs.Record.{lines_of, kind_at, out_at, pin_at}
use Rattle.circuit.specs.Formed.{Good}
use Rattle.circuit.proofs.Lines.{three}
use Rattle.states.specs.Rules.{lines_after, GoodSteps}
use Rattle.unfolded.specs.Unfolded.{step_kind, step_out, step_pin, step_record, unfolded_to, unfolded}
use Rattle.unfolded.proofs.Steps.{step_of, place_of, line_inside}
use Rattle.unfolded.proofs.Sources.{source_most}

-- ---- how long it is

pub record_length : (c st : List ℕ) (k i m : ℕ) → length (step_record c st k i m) ≡ 8
unfolding step_record le
record_length c st k i m = refl

module _ (c st : List ℕ) (k : ℕ) where
  -- the record on line j
  abbrev on : ℕ → List ℕ
  on j = step_record c st k (j / lines_of c) (j % lines_of c)

  on-length : (j : ℕ) → length (on j) ≡ 8
  on-length j = record_length c st k (j / lines_of c) (j % lines_of c)

  -- the first l lines, and all
  pub front_long : (l : ℕ) → length (unfolded_to c st k l) ≡ 8 * l
  unfolding unfolded_to
  front_long l = omega (arith, gather-length on 8 on-length l)

  pub unfolded_long : length (unfolded c st k) ≡ 8 * lines_after c k
  unfolded_long = front_long (lines_after c k)

  pub unfolded_lines : lines_of (unfolded c st k) ≡ lines_after c k
  unfolded_lines = rw unfolded_long (mul-div_right (lines_after c k) (omega arith))

  module _ (i m : ℕ) (h : i < k) (l : m < lines_of c) where
    -- byte b of the record on line m of step i
    byte : (b : ℕ) → b < 8 → get_or (unfolded c st k) (8 * (i * lines_of c + m) + b) 0 ≡ get_or (step_record c st k i m) b 0
    unfolding unfolded_to
    byte b g =
        let j = i * lines_of c + m in
        rw (mul_comm 8 j)
        (gather_at on 8 on-length 0 (lines_after c k) j b (line_inside (lines_of c) i m l k h) g
        ∙ rw (step_of (lines_of c) i m l, place_of (lines_of c) i m l))

    pub unfolded_kind : kind_at (unfolded c st k) (i * lines_of c + m) ≡ step_kind c st i m
    unfolding step_record
    unfolded_kind = rw add-zero at (byte 0 (omega arith))

    pub unfolded_out : out_at (unfolded c st k) (i * lines_of c + m) ≡ step_out c st k i m
    unfolding step_record
    unfolded_out = byte 1 (omega arith)

    module _ (good : Good c) (steps : GoodSteps c st k) where
      -- bytes 2 and 3 have the source at pin 1, the next two that at pin 2, the last two that at pin 3: two bytes have room for 2,048 lines
      words : (s : ℕ) → 1 ≤ s → s ≤ 3 → pair_at (step_record c st k i m) (2 * s) ≡ step_pin c st i m s
      unfolding step_record le pair_at
      words =
          three (λ s. pair_at (step_record c st k i m) (2 * s) ≡ step_pin c st i m s)
          (source 1 (omega arith)) (source 2 (omega arith)) (source 3 (omega arith))
        where
          source : (s : ℕ) → 1 ≤ s → pair_at (le 2 (step_pin c st i m s)) 0 ≡ step_pin c st i m s
          source s a =
              read_back (step_pin c st i m s)
              (omega (arith, source_most good steps i m l s a, line_inside (lines_of c) i m l k h, steps.most_lines))

      pub unfolded-pin : (s : ℕ) → 1 ≤ s → s ≤ 3 → pin_at (unfolded c st k) (i * lines_of c + m) s ≡ step_pin c st i m s
      unfolding pair_at
      unfolded-pin s a b =
          let next : (8 * (i * lines_of c + m) + 2 * s) + 1 ≡ 8 * (i * lines_of c + m) + (2 * s + 1) = omega arith in
          rw (next, byte (2 * s) (omega arith), byte (2 * s + 1) (omega arith)) (words s a b)
