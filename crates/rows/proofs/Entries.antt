-- The table by its entries: the definition has at each place the entry that the words ask for, and only that table has.
-- Assumes nothing.
use mathlib.Core.Path.{◌≡◌, sym, subst, ◌∙◌}
use mathlib.Core.List.{List}
use Prim.Native.Nat.{ℕ, zero, suc, ◌+◌, ◌*◌, ◌/◌, ◌%◌, ◌<◌}
use native.Mathlib.Nat.{zero-mul, mul_comm, div-add-mod', div-lt_iff_lt-mul, mod-lt}
use native.Mathlib.Omega.{arith}
use lib.ListN.{length, get_or}
use lib.Seq.{ext_get_or}
use Rattle.ground.proofs.Grow.{table-length, table_at}
use Rattle.ground.proofs.Gather.{gather-length, gather_at}
use Rattle.lists.specs.Faults.{fault_count, fault_at}
use Rattle.lists.specs.Patterns.{pattern_count, pattern_at}
use Rattle.entry.specs.Entry.{entry_under}
use Rattle.rows.specs.Table.{Forces, row_under, table_under}
use Rattle.rows.specs.Words.{MadeUnder}

module _ (forces : Forces) (c : List ℕ) (n m : ℕ) (fs ps : List ℕ) where
  row_long : (i : ℕ) → length (row_under forces c n fs (pattern_at m ps i)) ≡ fault_count fs
  row_long i = table-length (λ j. entry_under (forces (fault_at fs j)) c (pattern_at m ps i) n) (fault_count fs)

  -- the definition meets the words
  pub made : MadeUnder forces c n m fs ps (table_under forces c n m fs ps)
  unfolding table_under
  made = record {
    size = gather-length (λ i. row_under forces c n fs (pattern_at m ps i)) (fault_count fs) row_long (pattern_count m ps) ∙ mul_comm (pattern_count m ps) (fault_count fs);
    entry = λ i j h g.
        gather_at (λ k. row_under forces c n fs (pattern_at m ps k)) (fault_count fs) row_long 0 (pattern_count m ps) i j h g
        ∙ table_at (λ k. entry_under (forces (fault_at fs k)) c (pattern_at m ps i) n) (fault_count fs) 0 j g;
  }

  -- a place of the table is that of a pattern and a fault
  by_place : (t u : List ℕ)
      → length t ≡ fault_count fs * pattern_count m ps
      → length u ≡ fault_count fs * pattern_count m ps
      → ((i j : ℕ) → i < pattern_count m ps → j < fault_count fs → get_or t (i * fault_count fs + j) 0 ≡ get_or u (i * fault_count fs + j) 0)
      → t ≡ u
  by_place t u p q same = ext_get_or 0 t u (p ∙ sym q) at
    where
      some : (x f g : ℕ) → x < f * g → 0 < f
      some x zero g h = absurd (omega (arith, zero-mul g))
      some x (suc f) g h = omega arith

      at : (x : ℕ) → x < length t → get_or t x 0 ≡ get_or u x 0
      at x h =
          let f = fault_count fs in
          let pos : 0 < f = some x f (pattern_count m ps) (rw (← p) h) in
          subst (λ (y : ℕ). get_or t y 0 ≡ get_or u y 0) (div-add-mod' x f)
          (same (x / f) (x % f) ((div-lt_iff_lt-mul pos).1 (omega (arith, p, mul_comm f (pattern_count m ps)))) (mod-lt x pos))

  -- and what meets the words is the definition
  pub one_made : {t : List ℕ} → MadeUnder forces c n m fs ps t → t ≡ table_under forces c n m fs ps
  one_made {t} d = by_place t (table_under forces c n m fs ps) d.size made.size (λ i j a b. d.entry i j a b ∙ sym (made.entry i j a b))
