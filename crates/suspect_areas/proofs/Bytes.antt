-- The bytes of a state are laid: its front, and the marks behind it.
-- Assumes nothing.
use mathlib.Core.Path.{◌≡◌, sym, ap, ◌∙◌}
use mathlib.Core.List.{List, [], ◌++◌, append-nil}
use Prim.Native.Nat.{ℕ, ◌-◌}
use native.Mathlib.Omega.{arith}
use lib.ListN.{length, take, drop, length-append}
use lib.Seq.{length-take-le, take_at, drop_at, drop-length}
use borrow.Rule.Slice.PartMut.{put_mid, mid_of, post_of, Post-is}
use Rattle.ground.proofs.Put.{copied}
use Rattle.answers.specs.Area.{area_of}
use Rattle.answers.proofs.Area.{area_length}
use Rattle.suspects.specs.declared.Suspects.{Suspects}
use Rattle.suspect_areas.specs.Bytes.{numbers_of, bytes_of}

-- the part behind the front
pub part_length : (front rest : List ℕ) → length front ≡ 32 → length rest ≡ 256 → length (mid_of 32 (length (front ++ rest) - 32) (front ++ rest)) ≡ 256
part_length front rest f r =
    let size : length (front ++ rest) ≡ 288 = rw (length-append, f, r) in
    rw (size, drop_at front rest 32 f) (length-take-le 256 rest (omega (arith, r)))

-- the marks are copied into it
marks_laid : (front rest marks : List ℕ) {now : List ℕ} → length front ≡ 32 → length rest ≡ 256 → length marks ≡ 256
    → now ≡ take (length marks) marks ++ drop (length marks) (mid_of 32 (length (front ++ rest) - 32) (front ++ rest))
    → put_mid 32 (length (front ++ rest) - 32) (front ++ rest) now ≡ front ++ marks
marks_laid front rest marks {now} f r m is =
    let size : length (front ++ rest) ≡ 288 = rw (length-append, f, r) in
    let copy : now ≡ marks = is ∙ copied marks _ (m ∙ sym (part_length front rest f r)) in
    let none : post_of 32 (length (front ++ rest) - 32) (front ++ rest) ≡ [] = Post-is 32 (length (front ++ rest)) (front ++ rest) (omega (arith, size)) ∙ drop-length (front ++ rest) in
    rw (copy, none, take_at front rest 32 f, append-nil)

-- all bytes, from their parts
pub laid_state : (s : Suspects) (front rest : List ℕ) {now : List ℕ} → front ≡ area_of (numbers_of s) → length rest ≡ 256 → length s.marks ≡ 256
    → now ≡ take (length s.marks) s.marks ++ drop (length s.marks) (mid_of 32 (length (front ++ rest) - 32) (front ++ rest))
    → put_mid 32 (length (front ++ rest) - 32) (front ++ rest) now ≡ bytes_of s
unfolding bytes_of
laid_state s front rest {now} e r m is = marks_laid front rest s.marks (rw e (area_length (numbers_of s))) r m is ∙ ap (λ (v : List ℕ). v ++ s.marks) e
