-- What `arrange` gives follows from the gates that are placed and their marks.
-- Assumes nothing.
use mathlib.Core.Path.{◌≡◌, sym, ap, ◌∙◌}
use mathlib.Core.List.{List}
use Prim.Native.Nat.{ℕ, ◌<◌}
use native.Mathlib.Omega.{arith}
use lib.Dec.{eqb}
use lib.ListN.{length, get_or, take}
use lib.Seq.{take_all, length-take-le}
use Rattle.ground.specs.Lists.{elem}
use Rattle.ground.proofs.Tests.{one-is}
use Rattle.ground.proofs.First.{first_same}
use Rattle.answers.specs.Rules.{said, refusal, Ruling}
use Rattle.answers.specs.Rules.Rule.{each}
use Rattle.answers.proofs.Rules.{or_fine}
use Rattle.order.specs.Order.{order_of, cycle_rules}
use Rattle.order.specs.Owed.{PlaceDone, ArrangeDone}
use Rattle.order.proofs.Unique.{one-order}
use Rattle.order.proofs.Says.{full_order}
use Rattle.std.specs.Prelude.{Ok}
use Rattle.answers.specs.declared.Reason.TheVariants.{BenchCycle}

module _ {a b placed order : List ℕ} {n : ℕ} (res : PlaceDone a b placed order n) where
  the_order : take n order ≡ order_of a b
  the_order = one-order res.is

  marked : (g : ℕ) → g < length a → eqb (get_or placed g 0) 1 ≡ elem (order_of a b) g
  marked g l = rw (res.marks g l, the_order) (one-is (elem (order_of a b) g))

  ruling_is : length placed ≡ length a → said (each BenchCycle (length placed) (λ g. eqb (get_or placed g 0) 1) (λ g. Unit)) ≡ refusal (cycle_rules a b)
  unfolding said refusal cycle_rules
  ruling_is e =
      rw (e, first_same (length a) (λ g. eqb (get_or placed g 0) 1) (elem (order_of a b)) marked, or_fine)

  -- where all gates are placed, they fill the memory lent for them
  whole-order : length order ≡ length a → refusal (cycle_rules a b) ≡ Ok tt → order ≡ order_of a b
  whole-order e f =
      let long : length (take n order) ≡ length a = ap length the_order ∙ full_order a b f in
      sym (take_all n order (omega (arith, length-take-le n order (omega (arith, res.size))))) ∙ the_order

  pub arranged : length placed ≡ length a → length order ≡ length a → {r : Ruling}
      → r ≡ said (each BenchCycle (length placed) (λ g. eqb (get_or placed g 0) 1) (λ g. Unit)) → ArrangeDone a b order r
  arranged e f {r} q =
      let ruling : r ≡ refusal (cycle_rules a b) = q ∙ ruling_is e in
      record { ruling = ruling; order_is = λ fine. whole-order f (sym ruling ∙ fine) }
