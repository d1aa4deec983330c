-- The lowest byte of a wrong name is what refusal 15 says.
-- Assumes nothing.
use mathlib.Core.Path.{◌≡◌, sym, ◌∙◌}
use mathlib.Core.Bool.{◌&&◌}
use mathlib.Core.List.{List, ◌++◌}
use Prim.Native.Nat.{ℕ, min}
use native.Mathlib.Omega.{arith}
use lib.Dec.{ltb}
use lib.ListN.{length}
use Rattle.ground.specs.Choose.{choose}
use Rattle.answers.specs.Rules.{refusal}
use Rattle.answers.proofs.Rules.{or_fine}
use Rattle.names.specs.Names.{once, defined, NameOk, name_rules}
use Rattle.names.specs.Owed.{lowest, again, undefined, ResolveReady}
use Rattle.names.proofs.LowestNot.{LowestNot, lowest-same, lowest_and, lowest_ruled}
use Rattle.names.proofs.Wrong.{lowest_twice, lowest-nowhere, defined_append}
use Rattle.std.specs.Prelude.{Ok, Err}
use Rattle.answers.specs.declared.Reason.TheVariants.{BenchName}

module _ {t defs outs firsts seconds o a b : List ℕ} (u : ResolveReady t defs outs firsts seconds o a b) where
  -- the lowest byte of one of these names that is defined nowhere, or 65,535
  abbrev nowhere : List ℕ → ℕ
  nowhere uses = lowest (undefined t defs uses) uses (length uses)

  abbrev uses : List ℕ
  uses = outs ++ (firsts ++ seconds)

  lowest-used : LowestNot (length t) (defined t defs uses) (min (nowhere outs) (min (nowhere firsts) (nowhere seconds)))
  lowest-used =
      lowest-same (defined_append t defs outs (firsts ++ seconds))
      (lowest_and (lowest-nowhere t defs outs u.outs_inside)
      (lowest-same (defined_append t defs firsts seconds)
      (lowest_and (lowest-nowhere t defs firsts u.firsts_inside) (lowest-nowhere t defs seconds u.seconds_inside))))

  pub ruled : (twice out first second : ℕ)
      → twice ≡ lowest (again t defs) defs (length defs)
      → out ≡ min twice (nowhere outs)
      → first ≡ min out (nowhere firsts)
      → second ≡ min first (nowhere seconds)
      → choose (ltb second 65535) (Err (BenchName, second)) (Ok tt) ≡ refusal (name_rules t defs uses)
  unfolding refusal name_rules
  ruled twice out first second e f g h =
      let low : second ≡ min (lowest (again t defs) defs (length defs)) (min (nowhere outs) (min (nowhere firsts) (nowhere seconds))) = omega arith in
      rw low
      (lowest_ruled BenchName (length t) (λ i. once t defs i && defined t defs uses i) (NameOk t defs uses) (omega (arith, u.short))
      (lowest_and (lowest_twice t defs u.defs_inside) lowest-used)
      ∙ sym (or_fine _))
