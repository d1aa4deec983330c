-- The promise of the chances: reached from its parts, and met by one result only.
-- Assumes nothing.
use mathlib.Core.Path.{◌≡◌, refl, sym, ap, ◌∙◌}
use mathlib.Core.List.{List}
use Prim.Native.Nat.{ℕ, ◌≤◌}
use native.Mathlib.Omega.{arith}
use lib.ListN.{length, take, replicate}
use lib.Ieee.{Float}
use Rattle.ground.proofs.Filled.{take-replicate, front_length}
use Rattle.answers.specs.Rules.{Ruling}
use Rattle.answers.specs.Rules.{Rule, refusal}
use Rattle.answers.specs.Lent.{lent_rules}
use Rattle.answers.proofs.Lent.{lent_sizes}
use Rattle.answers.proofs.Answer.{ruling_is, fine_done, memory_part}
use Rattle.circuit.specs.Formed.{Known}
use Rattle.control.specs.Promise.{control_rules, Controls}
use Rattle.control.specs.Owed.{FillReady, RoomReady, Filled, Memories, ControlledBy}
use Rattle.std.specs.Prelude.{Ok}

-- ---- memory for the readings: the front of so many zeros

module _ {c : List ℕ} {n ones zeros : ℕ} (p : RoomReady c n ones zeros) where
  pub few_lines : n ≤ 2048
  few_lines = omega (arith, p.known.lines, p.known.good.most_lines)

  pub fill-ready : (most : ℕ) → n ≤ most → FillReady c (take n (replicate most 0)) ones zeros
  fill-ready most l =
      let long = front_length most 0 n l in
      record {
        inputs = p.inputs;
        known = rw p.ones_long p.known;
        zeros_long = p.zeros_long ∙ sym p.ones_long;
        reads_long = long ∙ sym p.ones_long;
        none_read = take-replicate most n 0 l ∙ ap (λ (x : ℕ). replicate {A = ℕ} x 0) (sym long);
      }

-- what is not refused has its sizes
pub room_ready : {c : List ℕ} {n inputs ones zeros : ℕ} → Known c n inputs → refusal (lent_rules n ones n zeros) ≡ Ok tt → RoomReady c n ones zeros
room_ready {n = n} {inputs = inputs} {ones = ones} {zeros = zeros} known e =
    let sizes = lent_sizes n ones n zeros e in
    record { inputs = inputs; known = known; ones_long = sizes.0; zeros_long = sizes.1 }

-- ---- the promise

pub rest_fine : {rules : List Rule} {c : List ℕ} {ones zeros ones' zeros' : List Float}
    → refusal rules ≡ Ok tt
    → Filled c ones' zeros'
    → ControlledBy rules c ones zeros (Ok tt) ones' zeros'
rest_fine e p = fine_done e refl (rw (p.ones_are, p.zeros_are))

module _ {c : List ℕ} {ones zeros : List Float} where
  pub controls : {r : Ruling} {ones' zeros' : List Float}
      → ControlledBy (control_rules c (length ones) (length zeros)) c ones zeros r ones' zeros'
      → Controls c ones zeros r ones' zeros'
  controls {r} p =
      let answer : r ≡ refusal (control_rules c (length ones) (length zeros)) = p.answer ∙ ruling_is _ in
      record {
        answer = answer;
        numbers = rw answer;
        ones_are = memory_part (λ (m : Memories). m.0) p;
        zeros_are = memory_part (λ (m : Memories). m.1) p;
      }

  -- two allowed results are equal
  pub one_result : {r s : Ruling} {ones' ones'' zeros' zeros'' : List Float}
      → Controls c ones zeros r ones' zeros'
      → Controls c ones zeros s ones'' zeros''
      → (r ≡ s) × (ones' ≡ ones'') × (zeros' ≡ zeros'')
  one_result p q = (cc, cc, cc)
