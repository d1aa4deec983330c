-- What a part answers: its good case where its rules are kept, and otherwise the refusal that they give.
-- Assumes nothing.
use Rattle.std.specs.Prelude.{Result, Ok, Err}
use Rattle.answers.specs.declared.Refusal.{Refusal}
use Rattle.answers.specs.Rules.{Ruling}

abbrev pub answered : {A : Type 0} → Ruling → A → Result A Refusal
answered (Ok u) good = Ok good
answered (Err why) good = Err why
