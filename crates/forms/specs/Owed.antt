-- What the functions of the forms owe each other and their callers; no reader of the promises needs it.
-- Assumes nothing.
use Rattle.std.specs.Prelude.{◌≡◌, List, ℕ}
use Rattle.forms.specs.Lines.{forms_of}
use Rattle.forms.specs.Forms.{gates_in}

-- the lines' forms, and how many gates there are
pub record FormsDone (t ws es fs : List ℕ) (gates : ℕ) : Type 0 where
  pub forms_are : fs ≡ forms_of t ws es
  pub gates_are : gates ≡ gates_in fs
