-- The line of the text that defines the name of a line of the records, and where.
-- Assumes nothing.
use mathlib.Core.Path.{◌≡◌, refl, sym, ap, ◌∙◌}
use mathlib.Core.List.{List}
use Prim.Native.Nat.{ℕ, ◌+◌, ◌<◌}
use native.Mathlib.Omega.{arith}
use lib.ListN.{length, get_or}
use Rattle.ground.specs.Lists.{index_in}
use Rattle.ground.proofs.Lists.{At}
use Rattle.ground.proofs.Elem.{index_of}
use Rattle.answers.specs.Rules.{refusal}
use Rattle.words.specs.Words.{words_in, ends_in}
use Rattle.forms.specs.Forms.{defines, inputs_in, gates_in}
use Rattle.statements.specs.Tables.{defined_at, number_at, defs_of, def_numbers_of}
use Rattle.statements.proofs.Lengths.{same_lengths}
use Rattle.names.specs.Names.{name_rules}
use Rattle.records.specs.Net.{net_size, net_line, number_on}
use Rattle.netlist.specs.Solved.{Right}
use Rattle.netlist.proofs.Numbers.{number_inside, line-number}
use Rattle.texts.specs.Text.{forms_in, defs_in, uses_in, net_in, place_on}
use Rattle.texts.proofs.Numbers.{size_is, each_number}
use Rattle.equations.specs.Meaning.{name_on}
use Rattle.equations.specs.Right.{Line}
use Rattle.equations.specs.Numbers.{line_for}
use Rattle.equations.specs.Computes.{size_in}
use Rattle.equations.proofs.Tables.{NthLine, get, number_get}
use Rattle.equations.proofs.Names.{number_of_name}
use Rattle.equations.proofs.Uses.{def_line}
use Rattle.std.specs.Prelude.{Ok}

-- where a number is defined first
first_definition : (fs : List ℕ) (x : ℕ) → x < inputs_in fs + gates_in fs → At (def_numbers_of fs) (length (def_numbers_of fs)) x
first_definition fs x l = index_of (def_numbers_of fs) x (each_number fs x l)

-- line j of the text defines the name that stands on line k of the records, and the name begins at its place
pub record NamesLine (t : List ℕ) (k j : ℕ) : Type 0 where
  pub says : Line defines t j
  pub stands : place_on t k ≡ defined_at (words_in t) (ends_in t) (forms_in t) j
  pub own : line_for t (name_on t j) ≡ k

module _ (t : List ℕ) (none : refusal (name_rules t (defs_in t) (uses_in t)) ≡ Ok tt) (r : Right (net_in t)) (k : ℕ) (l : k < size_in t) where
  in_net : k < net_size (net_in t)
  in_net = rw (size_is t) l

  definition : At (def_numbers_of (forms_in t)) (length (def_numbers_of (forms_in t))) (number_on (net_in t) k)
  definition = first_definition (forms_in t) (number_on (net_in t) k) (rw (← size_is t) (number_inside (net_in t) r k in_net))

  pub defined-line : NthLine defines t (index_in (def_numbers_of (forms_in t)) (number_on (net_in t) k))
  defined-line = def_line t _ (omega (arith, definition.below, same_lengths (words_in t) (ends_in t) (forms_in t)))

  number_is : number_at (forms_in t) defined-line.place ≡ number_on (net_in t) k
  number_is =
      sym (number_get defined-line.line) ∙ ap (λ (i : ℕ). get_or (def_numbers_of (forms_in t)) i 0) defined-line.before ∙ definition.is

  pub names_line : NamesLine t k defined-line.place
  unfolding place_on defs_of line_for
  names_line = record {
    says = defined-line.line;
    stands =
        ap (λ (i : ℕ). get_or (defs_in t) i 0) (sym defined-line.before) ∙ get defined-line.line (defined_at (words_in t) (ends_in t) (forms_in t));
    own =
        ap (net_line (net_in t)) (number_of_name t none (record { line = defined-line.line; is = refl }) ∙ number_is)
        ∙ line-number (net_in t) r k in_net;
  }
