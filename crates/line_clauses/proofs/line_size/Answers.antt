-- `line_clauses::line_size` meets its contract: what the two kinds take, together.
-- Assumes nothing.
use native.Mathlib.Omega.{arith}
use mathlib.Core.Path.{refl}
use Rattle.line_clauses.proofs.Sizes.{line-takes}
use Rattle.line_clauses.proofs.Lines.{kind_last}
use Rattle.cnf.proofs.Sizes.{few}
use Rattle.line_clauses.proofs.line_size.Goals as goal

pub size_of-good-requires : goal.size_of-good-requires
size_of-good-requires c = kind_last c.requires

pub overflow_add-result : goal.overflow_add-result
overflow_add-result c =
    omega (
      arith,
      (few _ (kind_last c.requires)).0,
      c.size_of-good.ensures.words,
      (few _ c.faulty_kind.ensures.1).0,
      c.size_of-faulty.ensures.words,
    )

pub overflow_add-result-2 : goal.overflow_add-result-2
overflow_add-result-2 c =
    omega (
      arith,
      (few _ (kind_last c.requires)).1,
      c.size_of-good.ensures.clauses,
      (few _ c.faulty_kind.ensures.1).1,
      c.size_of-faulty.ensures.clauses,
    )

pub returns : goal.returns
returns c =
    line-takes _ _ refl c.size_of-good.ensures (kind_last c.requires)
    c.faulty_kind.ensures.0 c.size_of-faulty.ensures c.faulty_kind.ensures.1
