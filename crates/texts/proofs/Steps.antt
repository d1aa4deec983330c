-- From table to table: what each step is handed has the room that it asks for, and is what the next one is told.
-- Assumes nothing.
use mathlib.Core.Path.{◌≡◌, ap, ◌∙◌, subst}
use mathlib.Core.List.{List}
use Prim.Native.Nat.{ℕ, ◌-◌, ◌≤◌}
use native.Mathlib.Omega.{arith}
use lib.ListN.{length, take, length-take}
use Rattle.words.specs.Words.{words_in, ends_in}
use Rattle.words.specs.Owed.{CutDone}
use Rattle.forms.specs.Forms.{gates_in}
use Rattle.forms.specs.Owed.{FormsDone}
use Rattle.forms.proofs.Forms.{forms_length, forms_small}
use Rattle.statements.specs.Tables.{kinds_of}
use Rattle.statements.specs.Owed.{DefsReady, DefsDone, OutsReady, OutsDone, SourcesReady, SourcesDone, KindsReady}
use Rattle.statements.proofs.Lengths.{defs_length}
use Rattle.statements.proofs.Sizes.{few_defs, few_outs, few_gates}
use Rattle.nets.specs.Owed.{NamedNet, named_of, NamesDone, ReadNamesReady}
use Rattle.texts.specs.Text.{forms_in, defs_in, outs_in, firsts_in, seconds_in, net_in}
use Rattle.texts.specs.Owed.{UsesDone, named_in, ReadLinesReady, ReadDefsReady, DefsKnown}
use Rattle.texts.proofs.Numbers.{named-ready}
use Rattle.std.specs.Prelude.{Result}
use Rattle.answers.specs.declared.Refusal.{Refusal}

-- ---- words, forms

pub lined : {t ws es : List ℕ} {w k : ℕ} → length t ≤ 32768 → CutDone t ws es w k → ReadLinesReady t (take w ws) (take k es)
lined s c = record { short = s; words_are = c.words_are; ends_are = c.lines_are }

pub few_ends : (k : ℕ) (es : List ℕ) → k ≤ 32769 → length (take k es) ≤ 32769
few_ends k es l = omega (arith, length-take k es)

pub told : {t ws es fs : List ℕ} {g : ℕ} → ReadLinesReady t ws es → FormsDone t ws es fs g → ReadDefsReady t ws es fs
told {t} l f = record { lined = l; forms_are = rw (l.words_are, l.ends_are) at f.forms_are }

module _ {t ws es fs : List ℕ} (p : ReadDefsReady t ws es fs) where
  short : length t ≤ 32768
  short = p.lined.short

  lines : length fs ≡ length es
  lines = rw (p.forms_are, p.lined.ends_are) (forms_length t (words_in t) (ends_in t))

  -- ---- definitions

  module _ {gates : ℕ} (g : gates ≡ gates_in fs) where
    pub defs_room : {defs numbers : List ℕ} → length defs ≡ 8193 → length numbers ≡ 8193 → DefsReady ws es fs gates defs numbers
    defs_room d n = record {
      lines = lines;
      gates_are = g;
      for_defs = record { few = rw p.forms_are (few_defs t short); room = d };
      for_numbers = record { few = rw p.forms_are (few_defs t short); room = n };
    }

    pub gates_few : gates ≤ 8192
    gates_few = rw (g, p.forms_are) (few_gates t short)

    pub defined : {defs numbers : List ℕ} {d : ℕ} → DefsDone ws es fs defs numbers d
        → DefsKnown t ws es fs (length (take d defs) - gates) (take d defs) (take d numbers)
    defined {defs} {numbers} {d} q =
        let e : take d defs ≡ defs_in t = rw (p.lined.words_are, p.lined.ends_are, p.forms_are) at q.defs_are in
        let n = ap length e ∙ defs_length (words_in t) (ends_in t) (forms_in t) in
        let h : gates ≡ gates_in (forms_in t) = rw p.forms_are at g in
        record {
          told = p;
          inputs_are = omega (arith, n, h);
          defs_are = e;
          numbers_are = rw p.forms_are at q.numbers_are;
        }

  -- ---- uses

  pub outs_room : {outs : List ℕ} → length outs ≡ 8193 → OutsReady es fs outs
  outs_room r = record { lines = lines; for_outs = record { few = rw p.forms_are (few_outs t short); room = r } }

  pub gates_room : {firsts seconds : List ℕ} → length firsts ≡ 8193 → length seconds ≡ 8193 → SourcesReady es fs firsts seconds
  gates_room a b = record {
    lines = lines;
    forms = λ k l. rw p.forms_are (forms_small t (words_in t) (ends_in t) k);
    for_first = record { few = rw p.forms_are (few_gates t short); room = a };
    for_second = record { few = rw p.forms_are (few_gates t short); room = b };
  }

  pub kinds_room : {kinds : List ℕ} → length kinds ≡ 8193 → KindsReady es fs kinds
  kinds_room r = record { lines = lines; for_kinds = record { few = rw p.forms_are (few_gates t short); room = r } }

-- there are no more gates than definitions
pub some_gates : {t ws es fs : List ℕ} {inputs gates : ℕ} {defs numbers : List ℕ} → DefsKnown t ws es fs inputs defs numbers → gates ≡ gates_in fs → gates ≤ length defs
some_gates {t} {gates = gates} d g =
    let n = ap length d.defs_are ∙ defs_length (words_in t) (ends_in t) (forms_in t) in
    let h : gates ≡ gates_in (forms_in t) = rw d.told.forms_are at g in
    omega (arith, n, h)

-- ---- the tables, with names

module _ {t ws es fs : List ℕ} {inputs : ℕ} {defs numbers : List ℕ} (d : DefsKnown t ws es fs inputs defs numbers) {gates : ℕ} (g : gates ≡ gates_in fs)
    (kinds : List ℕ) (k : take (gates_in fs) kinds ≡ kinds_of t ws es fs) {firsts seconds outs : List ℕ} {u : ℕ} (s : SourcesDone ws es fs firsts seconds) (o : OutsDone ws es fs outs u) where
  abbrev used : NamedNet
  used = named_of defs numbers inputs (take gates kinds) (take gates firsts) (take gates seconds) (take u outs)

  used_are : used ≡ named_in t
  used_are =
      let p = d.told in
      let kinds-are : take gates kinds ≡ kinds_of t (words_in t) (ends_in t) (forms_in t) = rw (g, p.forms_are) (rw (p.lined.words_are, p.lined.ends_are, p.forms_are) at k) in
      let firsts_are : take gates firsts ≡ firsts_in t = rw (g, p.forms_are) (rw (p.lined.words_are, p.lined.ends_are, p.forms_are) at s.firsts_are) in
      let seconds_are : take gates seconds ≡ seconds_in t = rw (g, p.forms_are) (rw (p.lined.words_are, p.lined.ends_are, p.forms_are) at s.seconds_are) in
      let outs_are : take u outs ≡ outs_in t = rw (p.lined.words_are, p.lined.ends_are, p.forms_are) at o.are in
      rw (d.defs_are, d.numbers_are, d.inputs_are, kinds-are, firsts_are, seconds_are, outs_are)

  pub ready : ReadNamesReady t used
  ready = rw used_are (named-ready t d.told.lined.short)

  -- the text's net has numbers for these names
  pub read_used : {order c c' : List ℕ} {r : Result ℕ Refusal} → NamesDone t used order c c' r → UsesDone t order c c' r
  unfolding net_in
  read_used {order} {c} {c'} {r} q = subst (λ (n : NamedNet). NamesDone t n order c c' r) used_are q
