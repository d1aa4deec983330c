-- The cut circuit of an accepted one can be searched as any other.
-- Assumes nothing.
use mathlib.Core.Path.{◌≡◌, refl, sym, ap, ◌∙◌, subst}
use mathlib.Core.Logic.{inl, inr}
use mathlib.Core.List.{List}
use Prim.Native.Nat.{ℕ, ◌≤◌, ◌<◌}
use native.Mathlib.Nat.{le_refl}
use native.Mathlib.Omega.{arith}
use lib.ListN.{length-replicate}
use Rattle.gates.specs.Gate.{last_kind}
use Rattle.circuit.specs.Record.{kind_at, pin_at, inputs_before}
use Rattle.circuit.specs.Formed.{Lower, WellFormed, Known}
use Rattle.lists.specs.declared.Fault.{Fault}
use Rattle.simulate.specs.Owed.{Ordered}
use Rattle.nodes.specs.Walk.{Looks}
use Rattle.sides.specs.Look.{look_of}
use Rattle.sides.specs.Owed.{SideReady}
use Rattle.reads.specs.Owed.{Sourced}
use Rattle.reads.proofs.Sourced as reads
use Rattle.heads.specs.Heads.{heads_of}
use Rattle.heads.proofs.Fewer.{heads_most}
use Rattle.cut.specs.Cut.{cut}
use Rattle.cut.proofs.Lines.{is_cut, cut-inputs}
use Rattle.cut.proofs.Detects.{Place, kept, rest, place}
use Rattle.head_verdicts.proofs.Look.{head_looks}
use Rattle.cut_search.specs.Owed.{MarkedReady}

-- ---- of an accepted circuit

module _ {c : List ℕ} {n inputs : ℕ} (known : Known c n inputs) where
  pub well : WellFormed c (inputs_before c n) n
  well = rw known.lines known.good.well

  pub inputs_are : inputs ≡ inputs_before c n
  inputs_are = known.inputs ∙ ap (inputs_before c) (sym known.lines)

  pub sourced : Sourced c n
  sourced = rw known.lines (reads.sourced c known.fine)

  -- so there are no more head lines than a node has room for
  pub few_heads : heads_of c n ≤ 64
  few_heads = omega (arith, heads_most well, inputs_are, known.inputs, known.good.most_inputs)

-- ---- the cut circuit

module _ {c : List ℕ} {m n : ℕ} (well : WellFormed c m n) (sourced : Sourced c n) where
  -- a line of it that has a rule is a bound one, and stands above its sources
  cut_lower : (k : ℕ) → k < n → (kind_at (cut c n) k ≡ 0 → ⊥) → kind_at (cut c n) k ≤ last_kind → Lower (cut c n) k
  cut_lower k l gate last s a b = go (place c n k)
    where
      go : Place c n k → pin_at (cut c n) k s < k
      go (kept (inl e)) = rw ((is_cut well).pins k s l a b) (well.lower k l (λ z. gate ((is_cut well).bound_kind k l e ∙ z)) s a b)
      go (kept (inr e)) = absurd (gate ((is_cut well).head_kind k l e))
      go (rest e f) = absurd (omega (arith, (is_cut well).rest_kind k l e f))

  cut_ordered : Ordered (cut c n) n
  cut_ordered = record {
    size = (is_cut well).size ∙ well.size;
    inside = λ k l _ s a b. rw ((is_cut well).pins k s l a b) (sourced.inside k s l a b);
    lower = cut_lower;
  }

pub cut-ready : {c marks : List ℕ} {fault : Fault} {n test room : ℕ} → MarkedReady c marks fault n test room → SideReady (cut c n) fault n room
cut-ready {c} {marks} {fault} {n} p =
    let side = p.run.ready in
    record {
      shaped = record { ordered = cut_ordered (well p.known) (sourced p.known); inputs_are = refl };
      line = side.line;
      value = side.value;
      looks = subst (λ (h : ℕ). Looks h (look_of fault (cut c n) n)) (sym (cut-inputs (well p.known) n (le_refl n))) (head_looks fault (well p.known) side.value);
      two = side.two;
    }

-- the test buffer has a byte an input
pub test_size : {c marks : List ℕ} {fault : Fault} {n test room : ℕ} → MarkedReady c marks fault n test room → test ≡ inputs_before c n
test_size p = p.run.test_size ∙ length-replicate p.inputs 2 ∙ inputs_are p.known
