-- `meetings::look_once` meets its contract: the node is a test, or says neither, or is left.
-- Assumes nothing.
use mathlib.Core.Path.{◌≡◌, refl, sym, ap, ◌∙◌}
use mathlib.Core.Bool.{false≢true}
use native.Mathlib.Omega.{arith}
use lib.ListN.{take}
use mathlib.Core.List.{List}
use Prim.Native.Nat.{ℕ}
use Rattle.lists.specs.declared.Fault.{Fault}
use Rattle.simulate.specs.Work.{good_of, faulty_of}
use Rattle.simulate.proofs.Work.{good_front}
use Rattle.standings.proofs.Meeting.{met_test, met_open}
use Rattle.sides.specs.Look.{look_work}
use Rattle.sides.specs.Owed.{VisitDone}
use Rattle.sides.proofs.Look.{node_small}
use Rattle.meetings.proofs.look_once.Goals as goal

pub look_at-says-requires : goal.look_at-says-requires
look_at-says-requires c = let p = c.requires.0 in record { ordered = p.shaped.ordered; two = p.two; line = p.line; value = p.value }

-- the good values stay
good_left : (f : Fault) (c : List ℕ) (n : ℕ) (node : List ℕ) {says : ℕ} {work : List ℕ} → VisitDone f c n node says work → take n work ≡ good_of c node n
unfolding look_work
good_left f c n node told = ap (take n) told.work ∙ good_front c node n (faulty_of f c node n)

pub returns-then-says-eq1 : goal.returns-then-says-eq1
returns-then-says-eq1 c =
    let told = c.look_at-says.ensures c.args.node.now (node_small c.requires.0.node) (c.requires.0.good refl) in
    let p = c.requires.0 in
    let says = sym told.says ∙ c.if-says-eq1.true in
    record {
      met = λ m l. record {
        nodes_met = λ e. absurd (false≢true e);
        node_met = λ e. rw c.copy_from_slice.ensures.after (met_test p.levels l c.requires.1 says);
      };
      good = λ e. good_left c.args.search.fault c.args.search.circuit.now c.args.search.lines c.args.node.now told;
    }

pub returns-then-says-eq2 : goal.returns-then-says-eq2
returns-then-says-eq2 c =
    let told = c.look_at-says.ensures c.args.node.now (node_small c.requires.0.node) (c.requires.0.good refl) in
    let p = c.requires.0 in
    let neither = sym told.says ∙ c.if-says-eq2.true in
    record {
      met = λ m l. record {
        nodes_met = λ e. absurd (false≢true e);
        node_met = λ e.
            met_open p.levels l c.requires.1 (λ q. c.if-says-eq1.false (told.says ∙ q)) (omega (arith, p.below))
            (λ h. neither) (λ h. absurd (omega (arith, p.below)));
      };
      good = λ e. good_left c.args.search.fault c.args.search.circuit.now c.args.search.lines c.args.node.now told;
    }

pub returns : goal.returns
returns c =
    let told = c.look_at-says.ensures c.args.node.now (node_small c.requires.0.node) (c.requires.0.good refl) in
    let p = c.requires.0 in
    record {
      met = λ m l. record {
        nodes_met = λ e. absurd (false≢true e);
        node_met = λ e.
            met_open p.levels l c.requires.1 (λ q. c.if-says-eq1.false (told.says ∙ q)) (omega arith)
            (λ h. absurd (omega arith)) (λ h q. c.if-says-eq2.false (told.says ∙ q));
      };
      good = λ e. good_left c.args.search.fault c.args.search.circuit.now c.args.search.lines c.args.node.now told;
    }
