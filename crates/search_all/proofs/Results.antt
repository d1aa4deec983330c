-- From the results of each fault to the lists of all: lists of equal length that agree at every place, tests part by part.
-- Assumes nothing.
use mathlib.Core.Path.{◌≡◌, sym, ◌∙◌}
use mathlib.Core.List.{List}
use Prim.Native.Nat.{ℕ, ◌*◌, ◌<◌}
use native.Mathlib.Omega.{arith}
use lib.ListN.{length, get_or}
use lib.Seq.{ext_get_or}
use Rattle.ground.specs.Lists.{table}
use Rattle.ground.proofs.Grow.{table-length, table_at}
use Rattle.ground.proofs.Gather.{gather-same}
use Rattle.circuit.specs.Record.{inputs_of}
use Rattle.circuit.specs.Formed.{Known}
use Rattle.lists.specs.Faults.{fault_count, fault_at}
use Rattle.lists.specs.Patterns.{pattern_at}
use Rattle.nodes.specs.Budget.{nodes_of}
use Rattle.standings.specs.Outcome.{outcome_of, Ended}
use Rattle.search.specs.Promise.{look, verdict_for, test_for}
use Rattle.nodes.specs.Node.{start}
use Rattle.list_search.specs.Works.{works_for}
use Rattle.search_all.specs.Promise.{verdict_at, outcomes_for, counts_for, tests_for}
use Rattle.list_search.specs.Owed.{AllEnded}
use Rattle.search_all.specs.Owed.{Memories}
use Rattle.list_search.proofs.Pieces.{gathered}

-- a list of as many places as a table, with the same at each
tabled : (f : ℕ → ℕ) (n : ℕ) (l : List ℕ) → length l ≡ n → ((j : ℕ) → j < n → get_or l j 0 ≡ f j) → l ≡ table f n
tabled f n l e same = ext_get_or 0 l (table f n) (e ∙ sym (table-length f n)) (λ j h. same j (omega arith) ∙ sym (table_at f n 0 j (omega arith)))

module _ {c fs bs : List ℕ} {n inputs : ℕ} {os ks ts w os' ks' ts' w' : List ℕ} (known : Known c n inputs) (p : AllEnded c fs bs n inputs (os, ks, ts) w (os', ks', ts') w') where
  -- what a search for fault j with its budget leaves, in the words of a single search
  one : (j : ℕ) → j < fault_count fs → Ended (look c (fault_at fs j)) (get_or bs j 0) (start (inputs_of c)) (pattern_at (inputs_of c) ts j) (get_or os' j 0) (get_or ks' j 0) (pattern_at (inputs_of c) ts' j)
  one j h = rw (known.lines, known.inputs) at (p.ended j h)

  pub results : length os' ≡ fault_count fs → length ks' ≡ fault_count fs → length ts' ≡ fault_count fs * inputs
      → ◌≡◌ {A = Memories} (os', ks', ts', w') (outcomes_for c fs bs, counts_for c fs bs, tests_for c fs bs ts, works_for c fs bs w)
  unfolding outcomes_for counts_for tests_for verdict_for test_for
  results o k t =
      let outcomes : os' ≡ outcomes_for c fs bs = tabled (λ i. outcome_of (verdict_at c fs bs i)) (fault_count fs) os' o (λ j h. (one j h).outcome_is) in
      let counts : ks' ≡ counts_for c fs bs = tabled (λ i. nodes_of (verdict_at c fs bs i)) (fault_count fs) ks' k (λ j h. (one j h).count_is) in
      let tests : ts' ≡ tests_for c fs bs ts =
      sym (gathered (inputs_of c) (fault_count fs) ts' (t ∙ rw known.inputs))
      ∙ gather-same (pattern_at (inputs_of c) ts') (λ i. test_for c (fault_at fs i) (get_or bs i 0) (pattern_at (inputs_of c) ts i)) (fault_count fs) (λ j h. (one j h).test_is) in
      rw (outcomes, counts, tests, p.work)
