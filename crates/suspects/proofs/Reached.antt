-- Every opened state is one that a session comes to: an opening and one report suffice.
-- Assumes nothing.
use mathlib.Core.Path.{◌≡◌, refl, sym, ap, subst, ◌∙◌}
use mathlib.Core.Bool.{Bool, true, false, not, ◌&&◌}
use mathlib.Core.List.{List, [], ◌∷◌}
use Prim.Native.Nat.{ℕ, ◌+◌, ◌*◌, ◌≤◌, ◌<◌}
use native.Mathlib.Nat.{le_refl, mul-le-mul}
use native.Mathlib.Omega.{arith}
use lib.Dec.{eqb}
use lib.ListN.{length, get_or}
use Rattle.ground.specs.Choose.{choose}
use Rattle.ground.specs.Lists.{table}
use Rattle.ground.proofs.Grow.{table-length, table_at}
use Rattle.answers.specs.Rules.{refusal, AllHold}
use Rattle.answers.proofs.Rules.{fine}
use Rattle.tables.specs.Entries.{pass, unknown}
use Rattle.tables.specs.Table.{table_rules}
use Rattle.tables.proofs.Says.{table_says}
use Rattle.reports.specs.Reports.{Report, report_of, speaks_against}
use Rattle.reports.proofs.Marks.{is-marked}
use Rattle.suspects.specs.declared.Suspects.{Suspects}
use Rattle.suspects.specs.State.{remains_in, Opened}
use Rattle.suspects.specs.Promise.{open_state, narrowed_state, Opens}
use Rattle.suspects.specs.Sessions.{Begun, Session}
use Rattle.suspects.specs.Sessions.Course.{begun, took}
use Rattle.suspects.proofs.State.{state_opened, same_state, opened_is}
use Rattle.suspects.proofs.Says.{taken_fine}
use Rattle.suspects.proofs.Promise.{is_taken}
use Rattle.std.specs.Prelude.{Ok}

-- an entry that speaks against a fault, if pattern 0 fails, exactly if the fault is to go
abbrev pub entry : Bool → ℕ
entry b = choose b unknown pass

entry_small : (b : Bool) → entry b ≤ 2
entry_small true = omega arith
entry_small false = omega arith

entry-left : (b : Bool) → (true && not (eqb (entry b) pass)) ≡ b
entry-left true = refl
entry-left false = refl

module _ (s : Suspects) (o : Opened s) (long : length s.marks ≡ 256) where
  -- a table in whose first row the faults that are to go have pass
  abbrev pub lent : List ℕ
  lent = table (λ i. entry (remains_in s i)) (s.faults * s.patterns)

  abbrev pub once : Report
  once = report_of s.faults s.patterns lent 0 true

  lent_fine : refusal (table_rules s.faults s.patterns lent) ≡ Ok tt
  unfolding table_rules AllHold
  lent_fine =
      let size = table-length (λ i. entry (remains_in s i)) (s.faults * s.patterns) in
      fine (table_rules s.faults s.patterns lent) (table_says s.faults s.patterns lent) (
        record { some_fault = o.some_fault; few_faults = o.few_faults; some_pattern = o.some_pattern; few_patterns = o.few_patterns; product = size },
        (λ i l. rw (table_at (λ i. entry (remains_in s i)) (s.faults * s.patterns) 0 i (rw (← size) l)) (entry_small (remains_in s i)), tt),
      )

  -- it leaves what remains in s
  leaves : narrowed_state (open_state s.faults s.patterns) once ≡ s
  unfolding speaks_against
  leaves = same_state s.faults s.patterns _ (remains_in s) each ∙ sym (opened_is s o long)
    where
      each : (f : ℕ) → f < s.faults → (remains_in (open_state s.faults s.patterns) f && not (speaks_against once f)) ≡ remains_in s f
      each f l =
          let row : s.faults * 1 ≤ s.faults * s.patterns = mul-le-mul (le_refl s.faults) o.some_pattern in
          let at : get_or lent (0 * s.faults + f) 0 ≡ entry (remains_in s f) =
          ap (λ (k : ℕ). get_or lent k 0) (omega arith) ∙ table_at (λ i. entry (remains_in s i)) (s.faults * s.patterns) 0 f (omega (arith, row)) in
          rw (is-marked s.faults (λ i. true) f l, at) (entry-left (remains_in s f))

  pub reached : Session s.faults s.patterns (once ∷ []) s
  reached =
      let begin = state_opened s.faults s.patterns (λ f. true) o.some_fault o.few_faults o.some_pattern o.few_patterns in
      let fine-report = taken_fine (open_state s.faults s.patterns) lent 0 begin lent_fine o.some_pattern in
      let opening : Begun (Opens s.faults s.patterns) (open_state s.faults s.patterns) =
      record { table = lent; before = s; answer = Ok s.faults; remaining = s.faults; opens = is_taken lent_fine refl refl; not_refused = refl } in
      subst (λ (x : Suspects). Session s.faults s.patterns (once ∷ []) x) leaves
      (took once (begun opening) (is_taken fine-report refl refl) refl)
