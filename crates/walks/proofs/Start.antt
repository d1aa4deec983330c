-- The walk from all X on: what it asks, and the standing of each fault when it is over.
-- Assumes nothing.
use mathlib.Core.Path.{◌≡◌}
use mathlib.Core.List.{List}
use Prim.Native.Nat.{ℕ}
use native.Mathlib.Omega.{arith}
use lib.ListN.{length, get_or, length-replicate}
use Rattle.lists.specs.Faults.{fault_at}
use Rattle.lists.specs.Patterns.{pattern_at}
use Rattle.nodes.specs.Node.{Node, start}
use Rattle.nodes.proofs.Node.{start_is, all_x}
use Rattle.standings.proofs.Ends.{ends}
use Rattle.sides.specs.Look.{look_of}
use Rattle.meetings.specs.Owed.{ListReady}
use Rattle.rounds.specs.Owed.{WalkReady}
use Rattle.walks.specs.Owed.{ListDone, WalkDone, AllReach, BecameOutcomes}

pub start-ready : {c fs : List ℕ} {n inputs b m k t r : ℕ} → ListReady c fs n inputs b m k t r → WalkReady c fs n (start inputs) 3 b m k t r
start-ready {inputs = inputs} p = record {
  list = rw (length-replicate {A = ℕ} inputs 2) p;
  node = rw (length-replicate {A = ℕ} inputs 2) (start_is inputs);
  levels = omega arith;
  most = omega (arith, all_x inputs, p.most);
}

-- every fault came with a reach that goes on and no nodes
pub list_done : {c fs bs : List ℕ} {n : ℕ} (inputs : ℕ) {ms ks ts : List ℕ} {s' : Node} {ms' ks' ts' : List ℕ} (os' : List ℕ)
    → WalkDone c fs bs n (start inputs) 3 (ms, ks, ts) s' (ms', ks', ts')
    → AllReach ms ks 255 (length ms)
    → length ms' ≡ length ms
    → BecameOutcomes ms' os' (length ms')
    → length os' ≡ length ms'
    → ListDone c fs bs n inputs ts os' ks' ts'
list_done {c} {fs} {bs} {n} inputs {ts = ts} os' p reached long ended same j b =
    let m = reached j (omega arith) in
    let met = rw (m.0, m.1, length-replicate {A = ℕ} inputs 2) at (p.met j (omega arith)) in
    rw (ended j (omega arith)) (ends (look_of (fault_at fs j) c n) (get_or bs j 0) (start inputs) (pattern_at inputs ts j) (met.awake (omega arith)))
