-- What an entry of a search for one fault owes, whichever search it calls.
-- Assumes nothing.
use mathlib.Core.Path.{◌≡◌}
use mathlib.Core.Bool.{true, false}
use mathlib.Core.List.{List}
use Prim.Native.Nat.{ℕ}
use lib.Dec.{eqb}
use lib.ListN.{length}
use Rattle.answers.specs.Rules.{Rule, refusal, unless}
use Rattle.answers.specs.Area.{Numbers, told, Entered}
use Rattle.nodes.specs.declared.Verdict.{Verdict}
use Rattle.search.specs.Promise.{verdict_numbers}
use Rattle.replies.proofs.Entered.{other_size, stays, reported, becomes}
use Rattle.circuit_entries.specs.Entries.{FoundEntered}

module _ {rules : List Rule} {found : Verdict} {t test w work a : List ℕ} where
  -- an area of another size
  pub nothing_found : eqb (length a) 32 ≡ false → FoundEntered rules found t test w work a 10 t w a
  nothing_found other = record { answer = other_size _ other; test_is = stays _ other; work_is = stays _ other }

  -- the answer of the part, in numbers, reported
  pub found_reported : {reply told_is : Numbers} {r : ℕ} {t' w' a' : List ℕ}
      → eqb (length a) 32 ≡ true
      → Entered a reply r a'
      → reply ≡ told_is
      → told_is ≡ told (refusal rules) (verdict_numbers found)
      → t' ≡ unless (refusal rules) t test
      → w' ≡ unless (refusal rules) w work
      → FoundEntered rules found t test w work a r t' w' a'
  found_reported right p replied numbers test_is work_is = record {
    answer = reported p replied numbers;
    test_is = becomes _ right test_is;
    work_is = becomes _ right work_is;
  }
