-- Nothing is rounded: pins see exponents of at most 501, and the sum of two is far from that of the smallest f64.
-- Assumes nothing.
use mathlib.Core.Path.{◌≡◌}
use mathlib.Core.Bool.{Bool}
use mathlib.Core.List.{List}
use Prim.Native.Nat.{ℕ, ◌+◌, ◌≤◌, ◌<◌}
use native.Mathlib.Omega.{arith}
use Rattle.ground.specs.Choose.{one}
use Rattle.ground.proofs.Tests.{one_most}
use Rattle.circuit.specs.Record.{kind_at, pin_at}
use Rattle.circuit.specs.Formed.{WellFormed}
use Rattle.halves.specs.Half.{floor_exponent}
use Rattle.halves.proofs.Laws.{exact-product}
use Rattle.exponents.specs.Lines.{exponents, pin_exponents}
use Rattle.exponents.specs.Exact.{NothingRounded}
use Rattle.exponents.proofs.Lines.{few, seen_few}

module _ {c : List ℕ} {m n : ℕ} (well : WellFormed c m n) where
  pub pin_few : (k s : ℕ) → k < n → (kind_at c k ≡ 0 → ⊥) → 1 ≤ s → s ≤ 3 → (v : Bool) → pin_exponents c n k s v ≤ floor_exponent + 1
  pin_few k s l gate a b v =
      seen_few c n (pin_at c k s) (exponents c n (pin_at c k s)) v (few well (pin_at c k s) (omega (arith, well.lower k l gate s a b)) v)

  pub nothing_rounded : NothingRounded c n
  nothing_rounded = record {
    products = λ k s t l gate a b d e v w.
        exact-product (pin_exponents c n k s v) (pin_exponents c n k t w) (omega (arith, pin_few k s l gate a b v, pin_few k t l gate d e w));
    shares = λ k l v t. exact-product (exponents c n k v) (one t) (omega (arith, few well k l v, one_most t));
  }
