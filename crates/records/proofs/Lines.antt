-- The loop of `put_lines`: where it starts, room for the next record, one record more, and the end.
-- Assumes nothing.
use mathlib.Core.Path.{◌≡◌, sym, ap, ◌∙◌}
use mathlib.Core.List.{List, append-nil}
use Prim.Native.Nat.{ℕ, ◌+◌, ◌*◌, ◌≤◌, ◌<◌}
use native.Mathlib.Numerals.{add-one}
use native.Mathlib.Omega.{arith}
use lib.ListN.{length, drop_of_length-le}
use Rattle.ground.specs.Put.{Put}
use Rattle.ground.proofs.Put.{put_none, put_then, put_long, put_whole}
use Rattle.records.specs.Owed.{Lined, line_count, record_by, records_by, PutLinesReady, PutLineReady}
use Rattle.records.proofs.Size.{records_by_length}

-- the records of the first k lines are written
pub record SoFar (l : Lined) (w₀ w : List ℕ) (at k : ℕ) : Type 0 where
  pub at_most : k ≤ line_count l
  pub put : Put w₀ w 0 (records_by l k) at

pub so_far_none : (l : Lined) (w : List ℕ) → SoFar l w w 0 0
so_far_none l w = record { at_most = omega arith; put = put_none w 0 }

module _ {l : Lined} {w₀ w : List ℕ} {at k : ℕ} (so : SoFar l w₀ w at k) where
  pub line_room : PutLinesReady l → length w₀ ≡ 8 * line_count l → k < line_count l → PutLineReady l k w at
  line_room h r m = record {
    has = h;
    inside = m;
    room = omega (arith, put_long so.put, so.put.next_is, records_by_length l k);
  }

  pub so_far_more : {w' : List ℕ} {at' : ℕ} → k < line_count l → Put w w' at (record_by l k) at' → SoFar l w₀ w' at' (k + 1)
  so_far_more m p = record { at_most = omega arith; put = rw add-one (put_then so.put p) }

  pub so_far_all : length w₀ ≡ 8 * line_count l → line_count l ≤ k → w ≡ records_by l (line_count l)
  so_far_all r m =
      let e : k ≡ line_count l = omega (arith, so.at_most) in
      let n : length (records_by l k) ≡ length w₀ = records_by_length l k ∙ ap (λ (i : ℕ). 8 * i) e ∙ sym r in
      put_whole so.put (omega arith)
      ∙ rw (drop_of_length-le w₀ {i = length (records_by l k)} (omega arith), append-nil, e)
