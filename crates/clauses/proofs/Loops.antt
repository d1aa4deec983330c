-- The loops over the lines, and over the differences: where each starts, what a turn needs, one more, and the end.
-- Assumes nothing.
use mathlib.Core.Path.{◌≡◌, refl, subst}
use mathlib.Core.List.{List, [], ◌∷◌, ◌++◌}
use Prim.Native.Nat.{ℕ, suc, ◌+◌, ◌≤◌, ◌<◌}
use native.Mathlib.Nat.{add_assoc}
use native.Mathlib.Numerals.{add-one}
use native.Mathlib.Omega.{arith}
use lib.IntN.{ℤ, pos}
use lib.ListN.{length, set, length-append}
use Rattle.ground.proofs.Counting.{Sum, sum_small}
use Rattle.circuit.specs.Record.{is_output}
use Rattle.ground.specs.Lists.{gather}
use Rattle.cnf.specs.Cnf.{Clauses, words_of}
use Rattle.ground.specs.Put.{Put}
use Rattle.ground.proofs.Gather.{gather_mono}
use Rattle.cnf.proofs.Decode.{words_append, words_gather}
use Rattle.ground.proofs.Put.{put_none, put_one, put_long, put_then}
use Rattle.line_clauses.specs.Clauses.{difference_var, difference_clauses, differences}
use Rattle.line_clauses.specs.Owed.{CircuitReady, LineClausesReady, DifferenceReady}

-- ---- the lines: the first k of n have been written

pub record SoFar (piece : ℕ → Clauses) (n : ℕ) (w₀ : List ℤ) (at : ℕ) (w : List ℤ) (next k : ℕ) : Type 0 where
  pub at_most : k ≤ n
  pub put : Put w₀ w at (words_of (gather piece k)) next

pub so_far_none : (piece : ℕ → Clauses) (n : ℕ) (w : List ℤ) (at : ℕ) → SoFar piece n w at w at 0
so_far_none piece n w at = record { at_most = omega arith; put = put_none w at }

-- line k's words lie inside those of all lines
piece_inside : (piece : ℕ → Clauses) (n k : ℕ) → k < n → length (words_of (gather piece k)) + length (words_of (piece k)) ≤ length (words_of (gather piece n))
piece_inside piece n k l =
    rw (← length-append (words_of (gather piece k)) (words_of (piece k)), ← words_append (gather piece k) (piece k))
    (rw (words_gather piece (suc k), words_gather piece n) (gather_mono (λ i. words_of (piece i)) (suc k) n l))

module _ {piece : ℕ → Clauses} {n : ℕ} {w₀ : List ℤ} {at : ℕ} {w : List ℤ} {next k : ℕ} (so : SoFar piece n w₀ at w next k) where
  pub line_room : {c : List ℕ} → CircuitReady c n → at + length (words_of (gather piece n)) ≤ length w₀ → k < n → LineClausesReady c n k (piece k) w next
  line_room p r l = record {
    line = record { circuit = p; inside = l };
    room = omega (arith, piece_inside piece n k l, put_long so.put, so.put.next_is);
  }

  pub so_far_more : {w' : List ℤ} {next' : ℕ} → k < n → Put w w' next (words_of (piece k)) next' → SoFar piece n w₀ at w' next' (k + 1)
  so_far_more l p = record {
    at_most = omega arith;
    put = rw (add-one, words_append (gather piece k) (piece k)) (put_then so.put p);
  }

  pub so_far_all : n ≤ k → Put w₀ w at (words_of (gather piece n)) next
  so_far_all l =
      let e : k ≡ n = omega (arith, so.at_most) in
      subst (λ (i : ℕ). Put w₀ w at (words_of (gather piece i)) next) e so.put

-- the differences' lines count the outputs too
pub difference_room : {c : List ℕ} {n k j : ℕ} {w : List ℤ} {next : ℕ} → LineClausesReady c n k (difference_clauses c n k) w next → Sum (is_output c) n k j → DifferenceReady c n k j w next
difference_room r s = record { own = r; below = s.sum; few = sum_small s }

-- ---- the clause of all differences: the first j of its literals have been written

pub record LastSoFar (n outputs : ℕ) (w₀ : List ℤ) (at : ℕ) (w : List ℤ) (j : ℕ) : Type 0 where
  pub at_most : j ≤ outputs
  pub put : Put w₀ w at (differences n j) (at + j)

pub last_none : (n outputs : ℕ) (w : List ℤ) (at : ℕ) → LastSoFar n outputs w at w 0
last_none n outputs w at = record { at_most = omega arith; put = record { written = refl; next_is = refl } }

module _ {n outputs : ℕ} {w₀ : List ℤ} {at : ℕ} {w : List ℤ} {j : ℕ} (so : LastSoFar n outputs w₀ at w j) where
  pub last_more : {z : ℤ} → j < outputs → z ≡ pos (difference_var n j) → LastSoFar n outputs w₀ at (set w (at + j) z) (j + 1)
  last_more {z} l e = record {
    at_most = omega arith;
    put = rw (← add_assoc at j 1, add-one j, ← e) (put_then so.put (put_one w (at + j) z));
  }

  pub last_all : outputs ≤ j → Put w₀ (set w (at + outputs) (pos 0)) at (differences n outputs ++ (pos 0 ∷ [])) (at + outputs + 1)
  last_all l =
      let e : j ≡ outputs = omega (arith, so.at_most) in
      put_then (subst (λ (i : ℕ). Put w₀ w at (differences n i) (at + i)) e so.put) (put_one w (at + outputs) (pos 0))
