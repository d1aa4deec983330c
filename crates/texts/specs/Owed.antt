-- What the functions of a text's tables owe each other and their callers; no reader of the promises needs it.
-- Assumes nothing.
use Rattle.std.specs.Prelude.{◌≡◌, List, ◌++◌, ℕ, ◌-◌, ◌≤◌, length, Result}
use Rattle.answers.specs.Rules.{Rule}
use Rattle.words.specs.Words.{words_in, ends_in}
use Rattle.forms.specs.Forms.{inputs_in, gates_in}
use Rattle.statements.specs.Tables.{def_numbers_of, kinds_of}
use Rattle.names.specs.Names.{name_rules}
use Rattle.nets.specs.Rules.{net_rules}
use Rattle.nets.specs.Owed.{OrderDone, NamedNet, named_of}
use Rattle.texts.specs.Text.{forms_in, defs_in, outs_in, firsts_in, seconds_in, uses_in, net_in}
use Rattle.answers.specs.declared.Refusal.{Refusal}

-- the rules of a text that is right in syntax
abbrev pub text_rules : List ℕ → ℕ → List Rule
text_rules t room = name_rules t (defs_in t) (uses_in t) ++ net_rules (net_in t) room

-- what is done by them, with the order of the gates
abbrev pub UsesDone : List ℕ → List ℕ → List ℕ → List ℕ → Result ℕ Refusal → Type 0
UsesDone t order c c' r = OrderDone (text_rules t (length c)) (net_in t) order c c' r

-- the tables of a text, with names
abbrev pub named_in : List ℕ → NamedNet
named_in t =
    named_of (defs_in t) (def_numbers_of (forms_in t)) (inputs_in (forms_in t)) (kinds_of t (words_in t) (ends_in t) (forms_in t)) (firsts_in t) (seconds_in t) (outs_in t)

-- ---- table by table

pub record ReadLinesReady (t ws es : List ℕ) : Type 0 where
  pub short : length t ≤ 32768
  pub words_are : ws ≡ words_in t
  pub ends_are : es ≡ ends_in t

pub record ReadDefsReady (t ws es fs : List ℕ) : Type 0 where
  pub lined : ReadLinesReady t ws es
  pub forms_are : fs ≡ forms_in t

pub record DefsKnown (t ws es fs : List ℕ) (inputs : ℕ) (defs numbers : List ℕ) : Type 0 where
  pub told : ReadDefsReady t ws es fs
  pub inputs_are : inputs ≡ inputs_in (forms_in t)
  pub defs_are : defs ≡ defs_in t
  pub numbers_are : numbers ≡ def_numbers_of (forms_in t)

-- and memory for the order of the gates
pub record ReadUsesReady (t ws es fs : List ℕ) (gates : ℕ) (defs numbers order : List ℕ) : Type 0 where
  pub defined : DefsKnown t ws es fs (length defs - gates) defs numbers
  pub gates_are : gates ≡ gates_in fs
  pub for_order : length order ≡ gates
