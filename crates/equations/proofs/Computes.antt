-- The records of a text that is accepted are a circuit that computes what the text says.
-- Assumes nothing.
use mathlib.Core.Path.{◌≡◌, sym, ap, ◌∙◌, subst}
use mathlib.Core.List.{List}
use Prim.Native.Nat.{ℕ, ◌≤◌, ◌<◌}
use native.Mathlib.Omega.{arith}
use lib.ListN.{length, get_or}
use Rattle.answers.specs.Rules.{refusal}
use Rattle.gates.specs.Gate.{gate_of}
use Rattle.gates.specs.Boolean.{bool_gate}
use Rattle.circuit.specs.Promise.{check_of, counts_are}
use Rattle.simulate.specs.Work.{good_of}
use Rattle.simulate.specs.Boolean.{Vector, good, truth_at}
use Rattle.syntax.proofs.Says.{right_text}
use Rattle.forms.specs.Forms.{inputs_in}
use Rattle.names.specs.Names.{name_rules}
use Rattle.records.specs.Net.{net_size, net_line}
use Rattle.netlist.specs.Solved.{Solved, Right}
use Rattle.netlist.proofs.Sizes.{net_sizes_lem, net_accepted}
use Rattle.circuit.specs.Sizes.{SizesHold}
use Rattle.netlist.proofs.Values.{solution3, unique3, solution2, unique2}
use Rattle.texts.specs.Text.{forms_in, defs_in, uses_in, net_in}
use Rattle.bench.specs.Promise.{bench_rules, records_in}
use Rattle.equations.specs.Numbers.{name_of, number_for, line_for}
use Rattle.equations.specs.Computes.{size_in, outputs_in, OneSolution, Computes}
use Rattle.equations.proofs.Tables.{inputs_are}
use Rattle.texts.proofs.Numbers.{size_is}
use Rattle.equations.proofs.RightNet.{number_below, right_net}
use Rattle.equations.proofs.SameMeaning.{name_of_lem, net_solved, text_solves}
use Rattle.equations.proofs.Lines.{own_lines}
use Rattle.equations.proofs.Fields.{own_records}
use Rattle.equations.proofs.InOrder.{in_order}
use Rattle.equations.proofs.Outputs.{outputs_exactly, outputs_count}
use Rattle.equations.proofs.Parts.{Parts, parts}
use Rattle.std.specs.Prelude.{Ok}

module _ (t : List ℕ) (none : refusal (name_rules t (defs_in t) (uses_in t)) ≡ Ok tt) where
  -- what solves the net, and is the only one, solves the text, and is the only one
  one_solution : {A : Type 0} {gate : ℕ → (ℕ → A) → A} {inputs : ℕ → A} (value : ℕ → A)
      → Solved gate (net_in t) inputs (λ x. value (net_line (net_in t) x))
      → ((v : ℕ → A) → Solved gate (net_in t) inputs v → (x : ℕ) → x < net_size (net_in t) → v x ≡ value (net_line (net_in t) x))
      → OneSolution gate t inputs (λ w. value (line_for t w))
  unfolding line_for
  one_solution value s u = record {
    solves = text_solves t none s;
    only = λ other o w d.
        ap other (sym (name_of_lem t none w d)) ∙ u (λ x. other (name_of t x)) (net_solved t none o) (number_for t w) (number_below t none w d);
  }

pub parts_right : {t : List ℕ} {room : ℕ} → Parts t room → Right (net_in t)
parts_right {t} p = right_net t p.names (right_text t p.syntax).is_formed p.cycles

module _ (t : List ℕ) (room : ℕ) (p : Parts t room) where
  r : Right (net_in t)
  r = parts_right p

  s : SizesHold (net_size (net_in t)) (net_in t).inputs (length (net_in t).outputs)
  s = net_sizes_lem (net_in t) r p.circuit

  few : net_size (net_in t) ≤ 65536
  few = omega (arith, s.most_lines)

  accepted : check_of (records_in t) ≡ Ok (counts_are (size_in t) (inputs_in (forms_in t)) (outputs_in t))
  accepted =
      net_accepted (net_in t) r s ∙ cc (size_is t, inputs_are t, outputs_count t p.names r)

  -- with three values
  values : (q : List ℕ) → OneSolution gate_of t (λ j. get_or q j 0) (λ w. get_or (good_of (records_in t) q (net_size (net_in t))) (line_for t w) 0)
  values q =
      one_solution t p.names (λ k. get_or (good_of (records_in t) q (net_size (net_in t))) k 0) (solution3 (net_in t) r few q) (λ v. unique3 (net_in t) r few q)

  -- over Bool
  truths : (x : Vector) → OneSolution bool_gate t x (λ w. truth_at good (records_in t) x (net_size (net_in t)) (line_for t w))
  truths x = one_solution t p.names (truth_at good (records_in t) x (net_size (net_in t))) (solution2 (net_in t) r few x) (λ v. unique2 (net_in t) r few x)

  computes_parts : Computes t (records_in t)
  computes_parts = record {
    check = accepted;
    lines = own_lines t p.names r;
    records = own_records t p.names r few;
    gates = in_order t (right_text t p.syntax).is_formed p.names r;
    outputs = outputs_exactly t p.names r;
    values = λ q.
        subst (λ (n : ℕ). OneSolution gate_of t (λ j. get_or q j 0) (λ w. get_or (good_of (records_in t) q n) (line_for t w) 0)) (size_is t) (values q);
    truths = λ x.
        subst (λ (n : ℕ). OneSolution bool_gate t x (λ w. truth_at good (records_in t) x n (line_for t w))) (size_is t) (truths x);
  }

pub computes : (t : List ℕ) (room : ℕ) → refusal (bench_rules t room) ≡ Ok tt → Computes t (records_in t)
computes t room e = computes_parts t room (parts t room e)
