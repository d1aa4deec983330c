-- Circuits of bytes with the same fields on each line are the same.
-- Assumes nothing.
use mathlib.Core.Path.{◌≡◌, sym, ◌∙◌}
use mathlib.Core.List.{List}
use Prim.Native.Nat.{ℕ, zero, suc, ◌+◌, ◌*◌, ◌≤◌, ◌<◌}
use native.Mathlib.Nat.{add-zero, mul_comm}
use native.Mathlib.Omega.{arith}
use lib.ListN.{length, get_or}
use lib.Seq.{ext_get_or}
use Rattle.little.specs.Little.{pair_at}
use Rattle.circuit.specs.Record.{kind_at, out_at, pin_at}
use Rattle.unfolded.proofs.Steps.{by_steps}

abbrev pub Bytes : List ℕ → Type 0
Bytes u = (b : ℕ) → get_or u b 0 < 256

pub record SameFields (u v : List ℕ) (j : ℕ) : Type 0 where
  pub kind : kind_at u j ≡ kind_at v j
  pub out : out_at u j ≡ out_at v j
  pub pin : (s : ℕ) → 1 ≤ s → s ≤ 3 → pin_at u j s ≡ pin_at v j s

module _ (u v : List ℕ) (bytes-u : Bytes u) (bytes-v : Bytes v) where
  -- two bytes are what their number says
  low : (at : ℕ) → pair_at u at ≡ pair_at v at → get_or u at 0 ≡ get_or v at 0
  unfolding pair_at
  low at e = omega (arith, bytes-u at, bytes-v at, bytes-u (at + 1), bytes-v (at + 1))

  high : (at : ℕ) → pair_at u at ≡ pair_at v at → get_or u (at + 1) 0 ≡ get_or v (at + 1) 0
  unfolding pair_at
  high at e = omega (arith, bytes-u at, bytes-v at, bytes-u (at + 1), bytes-v (at + 1))

  byte : (j b : ℕ) → b < 8 → SameFields u v j → get_or u (8 * j + b) 0 ≡ get_or v (8 * j + b) 0
  byte j zero h s = rw add-zero s.kind
  byte j (suc zero) h s = s.out
  byte j (suc (suc zero)) h s = low (8 * j + 2) (s.pin 1 (omega arith) (omega arith))
  byte j (suc (suc (suc zero))) h s =
      let e : 8 * j + 3 ≡ (8 * j + 2) + 1 = omega arith in rw e (high (8 * j + 2) (s.pin 1 (omega arith) (omega arith)))
  byte j (suc (suc (suc (suc zero)))) h s = low (8 * j + 4) (s.pin 2 (omega arith) (omega arith))
  byte j (suc (suc (suc (suc (suc zero))))) h s =
      let e : 8 * j + 5 ≡ (8 * j + 4) + 1 = omega arith in rw e (high (8 * j + 4) (s.pin 2 (omega arith) (omega arith)))
  byte j (suc (suc (suc (suc (suc (suc zero)))))) h s = low (8 * j + 6) (s.pin 3 (omega arith) (omega arith))
  byte j (suc (suc (suc (suc (suc (suc (suc zero))))))) h s =
      let e : 8 * j + 7 ≡ (8 * j + 6) + 1 = omega arith in rw e (high (8 * j + 6) (s.pin 3 (omega arith) (omega arith)))
  byte j (suc (suc (suc (suc (suc (suc (suc (suc b)))))))) h s = absurd (omega arith)

  pub same_bytes : (n : ℕ) → length u ≡ 8 * n → length v ≡ 8 * n → ((j : ℕ) → j < n → SameFields u v j) → u ≡ v
  same_bytes n p q same =
      ext_get_or 0 u v (p ∙ sym q)
      (λ b l. by_steps (λ b. get_or u b 0 ≡ get_or v b 0) 8 n (λ j o h g. rw (mul_comm j 8) (byte j o g (same j h))) b (omega arith))
