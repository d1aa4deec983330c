-- What is done with the last of the rules: the buffer's size, or the records in it.
-- Assumes nothing.
use mathlib.Core.Path.{◌≡◌, ap, ◌∙◌}
use mathlib.Core.List.{List, ◌++◌}
use Prim.Native.Nat.{ℕ}
use native.Mathlib.Omega.{arith}
use lib.ListN.{length, drop, take}
use lib.Seq.{take-length}
use borrow.Author.Tests.{eq-eqb, ne_eqb}
use Rattle.answers.specs.Rules.{said, refusal}
use Rattle.answers.proofs.Answer.{fine_done}
use Rattle.circuit.specs.Formed.{Accepts}
use Rattle.nets.specs.Rules.{buffer_rules}
use Rattle.nets.specs.Owed.{ReadDone, LayRoom}
use Rattle.std.specs.Prelude.{Ok, Err}
use Rattle.answers.specs.declared.Reason.TheVariants.{BufferSize}

pub other_size : {room : ℕ} → (room ≡ 16384 → ⊥) → refusal (buffer_rules room) ≡ Err (BufferSize, 0)
unfolding buffer_rules refusal said
other_size {room} n = rw (ne_eqb room 16384 n)

pub laid : {records c c' : List ℕ} {n : ℕ} → length c ≡ 16384 → LayRoom records n → c' ≡ take (length records) records ++ drop (length records) c
    → ReadDone (buffer_rules (length c)) records c c' (Ok n)
unfolding buffer_rules refusal said
laid {records} {c} e w p =
    fine_done (rw (eq-eqb (length c) 16384 e)) (ap Ok w.lines) (p ∙ ap (λ (l : List ℕ). l ++ drop (length records) c) (take-length records))

-- records that the check accepts
pub whole : {records : List ℕ} {n m o : ℕ} → Accepts records n m o → LayRoom records n
whole {records} a = record { lines = a.lines; fits = omega (arith, a.good.well.size, a.good.most_lines) }
