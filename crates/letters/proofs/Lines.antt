-- The lines of the first p patterns: they are not too long, and the loop of `put_lines` makes them stand.
-- Assumes nothing.
use mathlib.Core.Path.{◌≡◌}
use mathlib.Core.List.{List}
use Prim.Native.Nat.{ℕ, zero, suc, ◌+◌, ◌*◌, ◌-◌, ◌≤◌, ◌<◌}
use native.Mathlib.Numerals.{add-one}
use native.Mathlib.Omega.{arith}
use lib.ListN.{length, get_or, take, drop, length-append, length-take}
use Rattle.ground.specs.Put.{Put}
use Rattle.ground.proofs.Put.{put_long, put_then}
use Rattle.letters.specs.Text.{line_text, lines_to}
use Rattle.letters.specs.Owed.{PutLinesRoom}
use Rattle.letters.proofs.Pieces.{line_short}

pub lines_short : (faults : ℕ) (t marks : List ℕ) (p : ℕ) → faults ≤ 256 → length (lines_to faults t marks p) ≤ 280 * p
lines_short faults t marks zero few = omega arith
lines_short faults t marks (suc p) few =
    let row : List ℕ = take faults (drop (p * faults) t) in
    let width : length row ≤ faults = simp length-take (omega arith) in
    let before = lines_short faults t marks p few in
    omega (arith, length-append (lines_to faults t marks p) (line_text p (get_or marks p 0) row), line_short p (get_or marks p 0) row)

pub line-fits : {table marks w₀ w : List ℕ} {faults patterns p at : ℕ} → PutLinesRoom table marks w₀ faults patterns → p < patterns → Put w₀ w 0 (lines_to faults table marks p) at → at + 280 ≤ length w
line-fits {table} {marks} {faults = faults} {p = p} r l s = omega (arith, put_long s, s.next_is, lines_short faults table marks p r.few_faults, r.lines)

-- a line more
pub more : (table marks : List ℕ) (faults p : ℕ) {w₀ w w' : List ℕ} {at next : ℕ}
    → Put w₀ w 0 (lines_to faults table marks p) at
    → Put w w' at (line_text p (get_or marks p 0) (take (p * faults + faults - p * faults) (drop (p * faults) table))) next
    → Put w₀ w' 0 (lines_to faults table marks (p + 1)) next
more table marks faults p s q =
    let e : p * faults + faults - p * faults ≡ faults = omega arith in
    rw add-one (put_then s (rw e at q))
