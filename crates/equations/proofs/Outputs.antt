-- The outputs of the records are the lines of the names that stand in an OUTPUT, each counted once.
-- Assumes nothing.
use mathlib.Core.Path.{◌≡◌, refl, sym, ap, ◌∙◌}
use mathlib.Core.Logic.{◌↔◌}
use mathlib.Core.Bool.{Bool, true, ◌&&◌}
use mathlib.Core.List.{List}
use Prim.Native.Nat.{ℕ, ◌<◌}
use native.Mathlib.Omega.{arith}
use lib.ListN.{get_or}
use Rattle.ground.specs.Below.{count_below}
use Rattle.ground.specs.Lists.{elem}
use Rattle.ground.proofs.Tests.{both, and_both, one-is}
use Rattle.ground.proofs.Below.{any_some, some_any}
use Rattle.ground.proofs.Elem.{elem_at, elem_place}
use Rattle.answers.specs.Rules.{refusal}
use Rattle.circuit.specs.Record as record_of
use Rattle.words.specs.Words.{same}
use Rattle.words.proofs.Same.{same_eq, same_refl}
use Rattle.forms.specs.Forms.{says_output, defines}
use Rattle.names.specs.Names.{name_rules}
use Rattle.records.specs.Net.{net_line, number_on, records_of}
use Rattle.netlist.specs.Solved.{Right}
use Rattle.netlist.proofs.Numbers.{line-number}
use Rattle.netlist.proofs.Fields.{net_lines, net_out}
use Rattle.texts.specs.Text.{forms_in, defs_in, uses_in, net_in}
use Rattle.shape.specs.Shape.{word_on}
use Rattle.equations.specs.Meaning.{lines_in, name_on}
use Rattle.equations.specs.Right.{Defines, Defined}
use Rattle.equations.specs.Numbers.{number_for, line_for}
use Rattle.equations.specs.Computes.{size_in, OwnLines, IsOutput, output_name, outputs_in}
use Rattle.equations.proofs.Tables.{place_of, counted, outputs_are, output_line, output_get}
use Rattle.equations.proofs.Names.{names_right}
use Rattle.texts.proofs.Numbers.{size_is}
use Rattle.ground.proofs.Related.{Match, count_related}
use Rattle.equations.proofs.Lines.{number-on, own_lines}
use Rattle.std.specs.Prelude.{Ok}

-- ---- the test says what the words say

module _ (t w : List ℕ) where
  abbrev output_of : ℕ → Bool
  output_of k = says_output (forms_in t) k && same (word_on t k 1) w

  name_output : output_name t w ≡ true → IsOutput t w
  unfolding output_name
  name_output e =
      let k = some_any (lines_in t) output_of e in
      let b = both (says_output (forms_in t) k.0) (same (word_on t k.0 1) w) k.2 in
      record { place = k.0; line = record { inside = k.1; passes = b.0 }; is = same_eq (word_on t k.0 1) w b.1 }

  output_name_lem : IsOutput t w → output_name t w ≡ true
  unfolding output_name
  output_name_lem o = any_some (lines_in t) output_of o.place o.line.inside (and_both o.line.passes (rw o.is (same_refl w)))

module _ (t : List ℕ) (none : refusal (name_rules t (defs_in t) (uses_in t)) ≡ Ok tt) (r : Right (net_in t)) where
  -- an output's name is defined
  output_defined : (w : List ℕ) → IsOutput t w → Defined t w
  output_defined w o = rw (← o.is) ((names_right t none).outputs o.place o.line)

  -- ---- the net's outputs are the numbers of these names

  number_output : (x : ℕ) → elem (net_in t).outputs x ≡ true → (w : List ℕ) × IsOutput t w × (number_for t w ≡ x)
  number_output x e =
      let p = elem_place (net_in t).outputs x e in
      let n = output_line t p.1 in (
        word_on t n.place 1,
        record { place = n.place; line = n.line; is = refl },
        sym (output_get n.line) ∙ ap (λ (i : ℕ). get_or (net_in t).outputs i 0) n.before ∙ p.2,
      )

  output_number : (w : List ℕ) → IsOutput t w → elem (net_in t).outputs (number_for t w) ≡ true
  output_number w o =
      rw (← o.is, ← output_get o.line) (elem_at (net_in t).outputs (place_of says_output t o.place) (rw (outputs_are t) (counted o.line)))

  -- ---- lines

  abbrev out_line : ℕ → Bool
  out_line = record_of.is_output (records_of (net_in t))

  flag : (k : ℕ) → k < size_in t → out_line k ≡ elem (net_in t).outputs (number_on (net_in t) k)
  flag k l = rw (net_out (net_in t) k (rw (size_is t) l)) (one-is (elem (net_in t).outputs (number_on (net_in t) k)))

  pub outputs_exactly : (k : ℕ) → k < size_in t → (out_line k ≡ true) ↔ ((w : List ℕ) × IsOutput t w × (line_for t w ≡ k))
  unfolding line_for
  outputs_exactly k l = (
    λ e.
        let w = number_output (number_on (net_in t) k) (sym (flag k l) ∙ e) in
        (w.0, w.1, ap (net_line (net_in t)) w.2 ∙ line-number (net_in t) r k (rw (size_is t) l)),
    λ (w, o, e). flag k l ∙ rw (← e, number-on t none r w (output_defined w o)) (output_number w o),
  )

  -- ---- as many as there are such names

  -- line l of the text defines the name of line k of the records
  record At (k l : ℕ) : Type 0 where
    names : Defines t l (name_on t l)
    is : line_for t (name_on t l) ≡ k

  abbrev out_name : ℕ → Bool
  out_name l = defines (forms_in t) l && output_name t (name_on t l)

  own : OwnLines t
  own = own_lines t none r

  -- to each output a line of the text, and to each of these an output
  text_line : (k : ℕ) → k < size_in t → out_line k ≡ true → Match At (lines_in t) out_name k
  text_line k l e =
      let w = (outputs_exactly k l).0 e in
      let d = output_defined w.0 w.1 in
      record {
        number = d.0;
        inside = d.1.line.inside;
        passes = and_both d.1.line.passes (output_name_lem t (name_on t d.0) (rw d.1.is w.1));
        belongs = record { names = record { line = d.1.line; is = refl }; is = ap (line_for t) d.1.is ∙ w.2 };
      }

  record_line : (l : ℕ) → l < lines_in t → out_name l ≡ true → Match (λ l k. At k l) (size_in t) out_line l
  record_line l h e =
      let b = both (defines (forms_in t) l) (output_name t (name_on t l)) e in
      let d : Defines t l (name_on t l) = record { line = record { inside = h; passes = b.0 }; is = refl } in
      let k = own.inside (name_on t l) (l, d) in
      record {
        number = line_for t (name_on t l);
        inside = k;
        passes = (outputs_exactly (line_for t (name_on t l)) k).1 (name_on t l, name_output t (name_on t l) b.1, refl);
        belongs = record { names = d; is = refl };
      }

  -- two lines of the text with one line of the records are one
  one_line : (l m k : ℕ) → At k l → At k m → l ≡ m
  one_line l m k a b =
      let e = own.apart (name_on t l) (name_on t m) (l, a.names) (m, b.names) (a.is ∙ sym b.is) in
      (names_right t none).once l m (name_on t m) (record { line = a.names.line; is = e }) b.names

  pub outputs_count : record_of.outputs_of (records_of (net_in t)) ≡ outputs_in t
  unfolding outputs_in
  outputs_count =
      let p = count_related At (λ k l j a b. sym a.is ∙ b.is) (lines_in t) out_line (size_in t) out_name text_line in
      let q = count_related (λ l k. At k l) one_line (size_in t) out_name (lines_in t) out_line record_line in
      let e : count_below (size_in t) out_line ≡ count_below (lines_in t) out_name = omega (arith, p, q) in
      ap (λ (n : ℕ). count_below n out_line) (net_lines (net_in t) ∙ size_is t) ∙ e
