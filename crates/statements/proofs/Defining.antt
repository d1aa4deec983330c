-- The loop of `put_defs`: two tables that are filled side by side, and the next numbers of gates and inputs.
-- Assumes nothing.
use mathlib.Core.Path.{◌≡◌, refl, ap, ◌∙◌}
use mathlib.Core.List.{List}
use Prim.Native.Nat.{ℕ, suc, ◌+◌, ◌≤◌, ◌<◌}
use native.Mathlib.Numerals.{add-one}
use native.Mathlib.Omega.{arith}
use lib.ListN.{length, set}
use Rattle.ground.specs.Choose.{choose, one}
use Rattle.ground.specs.Below.{count_below}
use Rattle.ground.proofs.Counting.{count_mono}
use Rattle.forms.specs.Lines.{word_in}
use Rattle.forms.specs.Forms.{says_input, says_gate, defines, inputs_to, gates_to, gates_in}
use Rattle.statements.specs.Tables.{defined_at, number_at, defs_of, def_numbers_of}
use Rattle.statements.specs.Owed.{DefsReady, DefsDone}
use Rattle.statements.proofs.Lengths.{defs_split}
use Rattle.statements.proofs.Filling.{Filling, begun, more, all_are}

-- g gates stand in the first k lines, and n is the number of the next input
pub record Defining (ws es fs defs numbers : List ℕ) (g n d k : ℕ) : Type 0 where
  pub names : Filling (defines fs) (defined_at ws es fs) (length fs) defs d k
  pub numbered : Filling (defines fs) (number_at fs) (length fs) numbers d k
  pub gates : g ≡ gates_to fs k
  pub inputs : n ≡ gates_in fs + inputs_to fs k
  pub g_in : g ≤ 8192
  pub n_in : n ≤ 8192

module _ {ws es fs : List ℕ} where
  pub start : {gates : ℕ} {defs numbers : List ℕ} → DefsReady ws es fs gates defs numbers → Defining ws es fs defs numbers 0 gates 0 0
  unfolding count_below
  start r = record {
    names = begun _ r.for_defs;
    numbered = begun _ r.for_numbers;
    gates = refl;
    inputs = r.gates_are ∙ omega arith;
    g_in = omega arith;
    n_in = omega (arith, r.gates_are, defs_split fs, r.for_defs.few);
  }

  module _ {defs numbers : List ℕ} {g n d k : ℕ} (s : Defining ws es fs defs numbers g n d k) where
    pub next : k < length fs → {x y b c e : ℕ}
        → x ≡ word_in ws es k (choose (says_gate fs k) 0 1)
        → y ≡ choose (says_gate fs k) g n
        → b ≡ one (says_gate fs k)
        → c ≡ one (says_input fs k)
        → e ≡ one (defines fs k)
        → Defining ws es fs (set defs d x) (set numbers d y) (g + b) (n + c) (d + e) (k + 1)
    unfolding defined_at number_at count_below
    next l {x} {y} {b} {c} {e} ex ey eb ec ee =
        let y-is : y ≡ number_at fs k = ey ∙ ap (λ (i : ℕ). choose (says_gate fs k) i n) s.gates ∙ ap (choose (says_gate fs k) (gates_to fs k)) s.inputs in
        let g-is : g + b ≡ gates_to fs (suc k) = omega (arith, s.gates, eb) in
        let n-is : n + c ≡ gates_in fs + inputs_to fs (suc k) = omega (arith, s.inputs, ec) in
        let most = defs_split fs in
        record {
          names = more s.names l (λ q. ex) ee;
          numbered = more s.numbered l (λ q. y-is) ee;
          gates = rw (add-one k) g-is;
          inputs = rw (add-one k) n-is;
          g_in = omega (arith, g-is, s.names.few, most, count_mono (says_gate fs) (suc k) (length fs) l);
          n_in = omega (arith, n-is, s.names.few, most, count_mono (says_input fs) (suc k) (length fs) l);
        }

    pub finished : length fs ≤ k → DefsDone ws es fs defs numbers d
    unfolding defs_of def_numbers_of
    finished h = record { few = s.names.in_room; defs_are = all_are s.names h; numbers_are = all_are s.numbered h }
