-- The outputs of the unfolded circuit are the lines of the clocked one that are looked at: outputs in every step, data lines in the last.
-- Assumes nothing.
use mathlib.Core.Path.{◌≡◌, refl, sym, ◌∙◌}
use mathlib.Core.Logic.{◌⊎◌, inl, inr}
use mathlib.Core.Bool.{Bool, true, false, ◌&&◌}
use mathlib.Core.List.{List}
use Prim.Native.Nat.{ℕ, suc, ◌+◌, ◌*◌, ◌<◌}
use lib.Dec.{eqb}
use borrow.Author.Tests.{eqb-true, eq-eqb}
use Rattle.ground.specs.Choose.{choose}
use Rattle.circuit.specs.Record.{lines_of, out_at}
use Rattle.states.specs.States.{is_data}
use Rattle.states.proofs.Records.{data_same}
use Rattle.unfolded.specs.Unfolded.{step_out, unfolded}
use Rattle.unfolded.specs.Words.{DataLine}
use Rattle.unfolded.proofs.Fields.{unfolded_out}
use Rattle.unfold_dictionary.specs.Words.{LookedIn}

module _ (c st : List ℕ) (k i m : ℕ) where
  pub output_looked : i < k → m < lines_of c → out_at (unfolded c st k) (i * lines_of c + m) ≡ 1 → LookedIn c st k i m
  unfolding step_out
  output_looked h l out = record { step = h; line = l; looked = go (eqb (suc i) k) (is_data st m) refl refl (sym (unfolded_out c st k i m h l) ∙ out) }
    where
      go : (last read : Bool) → eqb (suc i) k ≡ last → is_data st m ≡ read → choose (last && read) 1 (out_at c m) ≡ 1 → (out_at c m ≡ 1) ⊎ ((suc i ≡ k) × DataLine st m)
      go true true p q e = inr (eqb-true (suc i) k p, (data_same st m).holds q)
      go true false p q e = inl e
      go false read p q e = inl e

  pub looked_output : LookedIn c st k i m → out_at (unfolded c st k) (i * lines_of c + m) ≡ 1
  unfolding step_out
  looked_output w = unfolded_out c st k i m w.step w.line ∙ go w.looked
    where
      stays : (t : Bool) → out_at c m ≡ 1 → choose t 1 (out_at c m) ≡ 1
      stays true e = refl
      stays false e = e

      go : (out_at c m ≡ 1) ⊎ ((suc i ≡ k) × DataLine st m) → choose (eqb (suc i) k && is_data st m) 1 (out_at c m) ≡ 1
      go (inl e) = stays (eqb (suc i) k && is_data st m) e
      go (inr (e, d)) = rw (eq-eqb (suc i) k e, (data_same st m).tests d)
