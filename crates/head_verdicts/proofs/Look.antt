-- What a node of head lines says: the definition says what the words say, and it is so for every filling, in the Boolean meaning of the cut circuit.
-- Assumes nothing.
use mathlib.Core.Path.{◌≡◌, sym, ap, ◌∙◌, subst}
use mathlib.Core.Logic.{inl, inr, ⊎_elim}
use mathlib.Core.Bool.{false, false≢true}
use mathlib.Core.List.{List, ◌++◌}
use Prim.Native.Nat.{ℕ, ◌≤◌, ◌<◌}
use native.Mathlib.Nat.{le_refl}
use native.Mathlib.Omega.{arith}
use lib.ListN.{length, get_or}
use Rattle.ground.proofs.Tests.{either}
use Rattle.gates.specs.Gate.{X}
use Rattle.circuit.specs.Record.{out_at}
use Rattle.circuit.specs.Formed.{WellFormed}
use Rattle.lists.specs.declared.Fault.{Fault}
use Rattle.simulate.specs.Simulate.{unforced, stuck_at}
use Rattle.simulate.specs.Boolean.{Detects}
use Rattle.simulate.specs.Vectors.{NoX}
use Rattle.simulate.specs.Work.{good_of, faulty_of}
use Rattle.simulate.proofs.Keeps.{unforced_keeps, stuck_keeps}
use Rattle.simulate.proofs.Below.{stuck_off}
use Rattle.entry.specs.Words.{Differ}
use Rattle.entry.proofs.Words.{agree-passes}
use Rattle.entry.proofs.Decided.{known_decided}
use Rattle.nodes.specs.Node.{Node, count_x}
use Rattle.nodes.specs.Walk.{Looks}
use Rattle.nodes.proofs.Node.{all_set}
use Rattle.sides.specs.Look.{Settled, look_of, look_work}
use Rattle.sides.proofs.Look.{look_says, look_three}
use Rattle.heads.specs.Heads.{bound, head, heads_of}
use Rattle.cut.specs.Cut.{cut}
use Rattle.cut.specs.Words.{HeadsServe}
use Rattle.cut.proofs.Lines.{is_cut, cut-inputs}
use Rattle.cut.proofs.Detects.{Place, kept, rest, place, kept_out}
use Rattle.cut.proofs.Given.{cut_values}
use Rattle.verdicts.specs.Meaning.{FaithfulLook}
use Rattle.verdicts.proofs.Look.{looks_mean}
use Rattle.head_verdicts.specs.Look.{head_look}
use Rattle.head_verdicts.specs.Words.{good_given, faulty_given, LookedAt, At, HeadLook}
use Rattle.head_verdicts.proofs.Known.{rest_x, kept-known}

module _ (fault : Fault) {c : List ℕ} {m n : ℕ} (well : WellFormed c m n) where
  abbrev d : List ℕ
  d = cut c n

  -- an output of the cut circuit is one that is looked at
  looked_at : (k : ℕ) → k < n → out_at d k ≡ 1 → LookedAt c n k
  looked_at k l out = go (place c n k)
    where
      go : Place c n k → LookedAt c n k
      go (kept w) = record { inside = l; output = sym (kept_out well k l w) ∙ out; kept = w }
      go (rest free none) = absurd (omega (arith, (is_cut well).rest_out k l free none))

  -- ---- in words

  module _ (s : Node) (p : List ℕ) where
    as_given : (P : ℕ → ℕ → Type 0) (k : ℕ) → P (get_or (good_of d s n) k 0) (get_or (faulty_of fault d s n) k 0) → At P fault c p n s k
    as_given P k h = rw (← cut_values well unforced s p, ← cut_values well (stuck_at fault) s p) h

    as_cut : (P : ℕ → ℕ → Type 0) (k : ℕ) → At P fault c p n s k → P (get_or (good_of d s n) k 0) (get_or (faulty_of fault d s n) k 0)
    as_cut P k h = rw (cut_values well unforced s p, cut_values well (stuck_at fault) s p) h

    pub head-look_says : HeadLook fault c p n s (head_look fault c n s)
    head-look_says =
        let says = look_says fault d n s in
        record {
          is_fail = λ w. says.is_fail (w.0, record { inside = w.1.inside; output = kept_out well w.0 w.1.inside w.1.kept ∙ w.1.output; holds = as_cut Differ w.0 w.2 });
          is_pass = λ all. says.is_pass (λ k l out. as_cut Settled k (all k (looked_at k l out)));
          is_unknown = λ no-fail no-pass.
              says.is_unknown
              (λ w. no-fail (w.0, looked_at w.0 w.1.inside w.1.output, as_given Differ w.0 w.1.holds))
              (λ all. no-pass (λ k w. as_given Settled k (all k w.inside (kept_out well k w.inside w.kept ∙ w.output))));
        }

    -- the work memory has these values
    pub head_work : look_work fault d n s ≡ good_given c p n s ++ faulty_given fault c p n s
    unfolding look_work
    head_work = rw (cut_values well unforced s p, cut_values well (stuck_at fault) s p)

  -- where the fault is served, the other free lines are X in both halves
  pub others_x : HeadsServe c n fault → (s : Node) (k : ℕ) → k < n → bound c n k ≡ false → head c n k ≡ false → (get_or (good_of d s n) k 0 ≡ X) × (get_or (faulty_of fault d s n) k 0 ≡ X)
  others_x serves s k l free none = (rest_x well unforced s k l free none, rest_x well (stuck_at fault) s k l free none ∙ stuck_off fault k 0 X (λ e _. away e serves))
    where
      away : k ≡ fault.line → HeadsServe c n fault → ⊥
      away e (inl b) = false≢true (sym free ∙ ap (bound c n) e ∙ b)
      away e (inr b) = false≢true (sym none ∙ ap (head c n) e ∙ b.0)

  -- ---- of every filling

  module _ (small : fault.value ≤ 1) where
    without_x : (s : Node) → length s ≡ heads_of c n → NoX s → look_of fault d n s ≡ 2 → ⊥
    unfolding look_of
    without_x s size full =
        known_decided agree-passes d (good_of d s n) (faulty_of fault d s n) n
        (λ k l out.
        let w = (looked_at k l out).kept in (
          kept-known unforced (unforced_keeps 2) well s size full k l w,
          kept-known (stuck_at fault) (stuck_keeps 2 fault (omega arith)) well s size full k l w,
        ))

    pub head_looks : Looks (heads_of c n) (head_look fault c n)
    head_looks = record {
      three = λ s i. look_three fault d n s;
      unknown = λ s i e. ⊎_elim (λ l. l) (λ l. absurd (without_x s i.size (all_set i (omega arith)) e)) (either 0 (count_x s));
    }

    pub heads_mean : FaithfulLook (heads_of c n) (head_look fault c n) (Detects (cut c n) fault n)
    heads_mean =
        let e = cut-inputs well n (le_refl n) in
        subst (λ (h : ℕ). FaithfulLook h (head_look fault c n) (Detects (cut c n) fault n)) e
        (looks_mean fault d n small (subst (λ (h : ℕ). Looks h (head_look fault c n)) (sym e) head_looks))
