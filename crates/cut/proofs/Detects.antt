-- A vector detects a fault that is served exactly if its values at the head lines detect it in the cut circuit.
-- Assumes nothing.
use mathlib.Core.Path.{◌≡◌, refl, sym, ap, ◌∙◌}
use mathlib.Core.Logic.{inl, inr, ◌↔◌}
use mathlib.Core.Bool.{Bool, true, false}
use mathlib.Core.List.{List}
use Prim.Native.Nat.{ℕ, ◌<◌}
use native.Mathlib.Omega.{arith}
use lib.Dec.{eqb}
use borrow.Author.Tests.{eqb-true}
use Rattle.circuit.specs.Record.{out_at}
use Rattle.circuit.specs.Formed.{WellFormed}
use Rattle.lists.specs.declared.Fault.{Fault}
use Rattle.simulate.specs.Boolean.{Vector, good, faulty, Detects}
use Rattle.heads.specs.Heads.{bound, head}
use Rattle.heads.proofs.Forest.{Kept}
use Rattle.cut.specs.Cut.{cut, head_vector}
use Rattle.cut.specs.Words.{HeadsServe}
use Rattle.cut.proofs.Lines.{is_cut}
use Rattle.cut.proofs.Truths.{good_tame, fault_tame, free-good, cut-same}

-- a line is bound, a head line, or another free one
pub data Place (c : List ℕ) (n k : ℕ) : Type 0 where
  kept : Kept c n k → Place c n k
  rest : bound c n k ≡ false → head c n k ≡ false → Place c n k

pub place : (c : List ℕ) (n k : ℕ) → Place c n k
place c n k = go (bound c n k) refl (head c n k) refl
  where
    go : (b : Bool) → bound c n k ≡ b → (h : Bool) → head c n k ≡ h → Place c n k
    go true e h f = kept (inl e)
    go false e true f = kept (inr f)
    go false e false f = rest e f

module _ {c : List ℕ} {m n : ℕ} (well : WellFormed c m n) where
  pub kept_out : (k : ℕ) → k < n → Kept c n k → out_at (cut c n) k ≡ out_at c k
  kept_out k l (inl e) = (is_cut well).bound_out k l e
  kept_out k l (inr e) = (is_cut well).head_out k l e

  module _ (fault : Fault) (serves : HeadsServe c n fault) (x : Vector) where
    down : Detects c fault n x → Detects (cut c n) fault n (head_vector c n x)
    down w = go (place c n w.line)
      where
        go : Place c n w.line → Detects (cut c n) fault n (head_vector c n x)
        go (kept p) = record {
          line = w.line;
          inside = w.inside;
          output = ap (λ (q : ℕ). eqb q 1) (kept_out w.line w.inside p) ∙ w.output;
          differ = λ e.
              w.differ
              (sym (cut-same well x good (good_tame c n) w.line w.inside p)
              ∙ e
              ∙ cut-same well x (faulty fault) (fault_tame c n fault serves) w.line w.inside p);
        }
        go (rest free none) = absurd (w.differ (sym (free-good well x (faulty fault) (fault_tame c n fault serves) w.line w.inside free none)))

    up : Detects (cut c n) fault n (head_vector c n x) → Detects c fault n x
    up w = go (place c n w.line)
      where
        go : Place c n w.line → Detects c fault n x
        go (kept p) = record {
          line = w.line;
          inside = w.inside;
          output = ap (λ (q : ℕ). eqb q 1) (sym (kept_out w.line w.inside p)) ∙ w.output;
          differ = λ e.
              w.differ
              (cut-same well x good (good_tame c n) w.line w.inside p
              ∙ e
              ∙ sym (cut-same well x (faulty fault) (fault_tame c n fault serves) w.line w.inside p));
        }
        go (rest free none) = absurd (omega (arith, (is_cut well).rest_out w.line w.inside free none, eqb-true (out_at (cut c n) w.line) 1 w.output))

    pub detects-cut : Detects c fault n x ↔ Detects (cut c n) fault n (head_vector c n x)
    detects-cut = (down, up)
