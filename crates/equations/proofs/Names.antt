-- Refusal 15 is not given exactly if each name of the text is defined once and each name that is used is defined.
-- Assumes nothing.
use mathlib.Core.Path.{◌≡◌, sym, ap, ◌∙◌}
use mathlib.Core.Bool.{true}
use mathlib.Core.List.{List}
use Prim.Native.Nat.{ℕ, ◌-◌, ◌<◌}
use native.Mathlib.Omega.{arith}
use lib.ListN.{length, get_or}
use Rattle.ground.specs.Lists.{elem}
use Rattle.ground.proofs.Collect.{count_one}
use Rattle.answers.specs.Rules.{refusal, AllHold}
use Rattle.answers.proofs.Rules.{all_hold, fine}
use Rattle.words.specs.Words.{word_at}
use Rattle.forms.specs.Forms.{defines}
use Rattle.statements.specs.Tables.{number_at}
use Rattle.statements.proofs.Sizes.{defs_within}
use Rattle.names.specs.Names.{NameOk, name_rules, definition}
use Rattle.names.proofs.Says.{names_say}
use Rattle.names.proofs.OneDefinition.{one-definition, definition-is}
use Rattle.texts.specs.Text.{forms_in, defs_in, uses_in}
use Rattle.equations.specs.Right.{Defines, Defined, NamesRight}
use Rattle.equations.specs.Numbers.{number_for}
use Rattle.equations.proofs.Tables.{place_of, def_get, def_inside, number_get}
use Rattle.equations.proofs.Uses.{def_line, def_defines, output_at, source_at, used_output, used_source, used_inside, used_cases}
use Rattle.std.specs.Prelude.{Ok}

-- ---- where 15 is not given

module _ (t : List ℕ) (none : refusal (name_rules t (defs_in t) (uses_in t)) ≡ Ok tt) where
  names_ok : (i : ℕ) → i < length t → NameOk t (defs_in t) (uses_in t) i
  unfolding name_rules AllHold
  names_ok = (all_hold (name_rules t (defs_in t) (uses_in t)) (names_say t (defs_in t) (uses_in t)) none).0

  used-defined : (i : ℕ) → elem (uses_in t) i ≡ true → Defined t (word_at t i)
  used-defined i e =
      let w = (names_ok i (used_inside t i e)).known e in
      let n = def_line t w.0 w.1 in
      (n.place, def_defines t n w.2)

  defined-once : (k l : ℕ) (w : List ℕ) → Defines t k w → Defines t l w → k ≡ l
  defined-once k l w p q =
      count_one (defines (forms_in t)) k l p.line.passes q.line.passes
      (one-definition t (defs_in t) (uses_in t) none (defs_within t) (place_of defines t k) (place_of defines t l) (def_inside p.line) (def_inside q.line)
      (def_get p.line ∙ p.is ∙ sym (def_get q.line ∙ q.is)))

  pub names_right : NamesRight t
  names_right = record {
    once = defined-once;
    outputs = λ k l. used-defined (output_at t k) (used_output t l);
    sources = λ k l s. used-defined (source_at t k s) (used_source t l s);
  }

  -- the number of a name is that of the line that defines it
  pub number_of_name : {k : ℕ} {w : List ℕ} → Defines t k w → number_for t w ≡ number_at (forms_in t) k
  unfolding number_for
  number_of_name {k} {w} p =
      let e = definition-is t (defs_in t) (uses_in t) none (defs_within t) (place_of defines t k) (def_inside p.line) w (def_get p.line ∙ p.is) in
      let d : definition t (defs_in t) (length (defs_in t)) w - 1 ≡ place_of defines t k = omega (arith, e) in
      rw d (number_get p.line)

-- ---- and back

module _ (t : List ℕ) (r : NamesRight t) where
  defined-known : (w : List ℕ) → Defined t w → (d : ℕ) × (d < length (defs_in t)) × (word_at t (get_or (defs_in t) d 0) ≡ w)
  defined-known w (k, p) = (place_of defines t k, def_inside p.line, def_get p.line ∙ p.is)

  name_ok : (i : ℕ) → NameOk t (defs_in t) (uses_in t) i
  name_ok i = record {
    first = λ d l p e m q.
        let a = def_line t d l in
        let b = def_line t e (omega arith) in
        let s = r.once a.place b.place (word_at t i) (def_defines t a (ap (word_at t) p)) (def_defines t b q) in
        let z : d ≡ e = sym a.before ∙ ap (place_of defines t) s ∙ b.before in
        omega arith;
    known = λ e. defined-known (word_at t i) (used_cases t (Defined t) r.outputs r.sources i e);
  }

  pub right_names : refusal (name_rules t (defs_in t) (uses_in t)) ≡ Ok tt
  unfolding name_rules AllHold
  right_names = fine (name_rules t (defs_in t) (uses_in t)) (names_say t (defs_in t) (uses_in t)) (λ i l. name_ok i, tt)
