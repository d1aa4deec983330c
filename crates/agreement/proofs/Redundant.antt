-- The search's "redundant" and a solver's "cannot be satisfied" say the same, of one circuit and one fault record.
-- Assumes nothing.
use mathlib.Core.Path.{◌≡◌}
use mathlib.Core.Logic.{◌↔◌}
use mathlib.Core.List.{List}
use Prim.Native.Nat.{ℕ}
use lib.IntN.{ℤ}
use lib.ListN.{take}
use Rattle.nodes.specs.Budget.{Decided}
use Rattle.nodes.specs.declared.Verdict.{Verdict}
use Rattle.nodes.specs.declared.Verdict.TheVariants.{Redundant}
use Rattle.search.specs.Promise.{Searches}
use Rattle.clauses.specs.Promise.{Writes, written_are}
use Rattle.satisfied.specs.Satisfied.{Unsatisfiable}
use Rattle.satisfied.proofs.Written.{written_faithful}
use Rattle.verdicts.proofs.Verdicts.{redundant_exactly}
use Rattle.std.specs.Prelude.{Ok}

-- where the search reaches a verdict, it is redundant exactly if no assignment satisfies the words that the writer wrote
pub redundant_unsatisfiable : {c f : List ℕ} {budget : ℕ} {t w t' w' : List ℕ} {v : Verdict} {words words' : List ℤ} {a clauses variables : ℕ}
    → Searches c f budget t w (Ok v) t' w'
    → Decided v
    → Writes c f words words' (Ok (written_are a clauses variables))
    → ((k : ℕ) × (v ≡ Redundant k)) ↔ Unsatisfiable (take a words')
redundant_unsatisfiable s d p =
    let r = redundant_exactly s d in
    let u = (written_faithful p).redundant in
    (λ q. u.1 (r.0 q), λ n. r.1 (u.0 n))
