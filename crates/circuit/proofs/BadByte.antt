-- The place of refusal 2: the function and the words say the same byte.
-- Assumes nothing.
use mathlib.Core.Path.{◌≡◌, refl, ap, ◌∙◌}
use mathlib.Core.Logic.{◌⊎◌, ⊎_elim}
use mathlib.Core.Bool.{true, false}
use mathlib.Core.List.{List}
use Prim.Native.Nat.{ℕ, zero, suc, ◌/◌, ◌%◌, ◌≤◌, ◌<◌}
use native.Mathlib.Omega.{arith}
use Rattle.ground.proofs.First.{Every, Lowest, first_cases}
use Rattle.circuit.specs.Record.{lines_of}
use Rattle.circuit.specs.Layout.{field_ok, line_ok, Layout}
use Rattle.circuit.specs.BadByte.{first_byte, bad_field, bad_line, bad_byte, BadFieldAt}
use Rattle.circuit.proofs.All.{all-holds, all-fails, first_breaks, breaks_first}
use Rattle.circuit.proofs.Lines.{field_same, layout_same, layout}

-- ---- of one line

-- a field begins inside its record
begins_inside : (f : ℕ) → f < 5 → first_byte f < 8
begins_inside zero l = omega arith
begins_inside (suc zero) l = omega arith
begins_inside (suc (suc s)) l = omega arith

-- the first field that breaks its rule, or none
field_cases : (c : List ℕ) (k : ℕ) → Lowest (field_ok c k) 0 5 (bad_field c k) ⊎ ((bad_field c k ≡ 5) × Every (field_ok c k) 0 5)
field_cases c k = first_cases 5 (field_ok c k)

-- so a line keeps its layout exactly if that one would begin behind it
module _ (c : List ℕ) (k : ℕ) {r : ℕ} (is : r ≡ first_byte (bad_field c k)) where
  pub broken_line : r < 8 → line_ok c k ≡ false
  unfolding line_ok
  broken_line l =
      ⊎_elim
      (λ q. all-fails 5 (field_ok c k) (bad_field c k) q.inside q.bad)
      (λ a. let behind : r ≡ first_byte 5 = is ∙ ap first_byte a.0 in absurd (omega arith))
      (field_cases c k)

  pub kept_line : 8 ≤ r → line_ok c k ≡ true
  unfolding line_ok
  kept_line l =
      ⊎_elim (λ q. absurd (omega (arith, is, begins_inside (bad_field c k) q.inside))) (λ a. all-holds 5 (field_ok c k) a.1) (field_cases c k)

-- ---- of the file

module _ (c : List ℕ) where
  pub bad_at : (((k : ℕ) → k < lines_of c → Layout c k) → ⊥) → BadFieldAt c (bad_line c) (bad_field c (bad_line c)) (bad_byte c)
  bad_at not =
      let line = first_breaks (lines_of c) (layout_same c) not in
      let field = first_breaks 5 (field_same c (bad_line c)) (λ all. line.here (layout c (bad_line c) all)) in
      record {
        line = line.inside;
        breaks = line.here;
        lower = line.below;
        field = field.inside;
        broken = field.here;
        earlier = field.below;
        place = refl;
      }

  module _ {k f b : ℕ} (at : BadFieldAt c k f b) where
    pub at_bad : b ≡ bad_byte c
    at_bad =
        let line : bad_line c ≡ k = breaks_first (lines_of c) (layout_same c) (record { inside = at.line; here = at.breaks; below = at.lower }) in
        let field : bad_field c k ≡ f = breaks_first 5 (field_same c k) (record { inside = at.field; here = at.broken; below = at.earlier }) in
        rw (line, field) at.place

    -- line and field can be read off the byte
    pub line_of : b / 8 ≡ k
    line_of = omega (arith, at.place, begins_inside f at.field)

    pub field_of : b % 8 ≡ first_byte f
    field_of = omega (arith, at.place, begins_inside f at.field)
