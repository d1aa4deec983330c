-- The last of the rules: the places' size, or the places in them.
-- Assumes nothing.
use mathlib.Core.Path.{◌≡◌, refl}
use mathlib.Core.List.{List}
use Prim.Native.Nat.{ℕ, ◌≤◌}
use native.Mathlib.Omega.{arith}
use lib.ListN.{length}
use borrow.Author.Tests.{eq-eqb, ne_eqb}
use Rattle.ground.proofs.Put.{Partly, partly_all, put_whole}
use Rattle.answers.specs.Rules.{said, refusal}
use Rattle.answers.proofs.Answer.{fine_done}
use Rattle.bench_names.specs.Promise.{place_count_rules}
use Rattle.bench_names.specs.Owed.{HandOverDone}
use Rattle.std.specs.Prelude.{Ok, Err}
use Rattle.answers.specs.declared.Reason.TheVariants.{BufferSize}

pub other_count : {room : ℕ} → (room ≡ 2048 → ⊥) → refusal (place_count_rules room) ≡ Err (BufferSize, 0)
unfolding place_count_rules refusal said
other_count {room} n = rw (ne_eqb room 2048 n)

pub all_over : {found p p' : List ℕ} {k : ℕ} → Partly found p 0 p' k → length p ≡ 2048 → length found ≤ 2048 → length found ≤ k → HandOverDone found p p' (Ok (length found))
unfolding place_count_rules refusal said
all_over {p = p} s e few l =
    fine_done (rw (eq-eqb (length p) 2048 e)) refl (put_whole (partly_all s l) (omega arith))
