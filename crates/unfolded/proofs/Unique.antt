-- Two lists that keep to the words of the unfolded circuit are the same.
-- Assumes nothing.
use mathlib.Core.Path.{◌≡◌, refl, sym, ◌∙◌}
use mathlib.Core.Logic.{⊎_elim}
use mathlib.Core.Bool.{Bool, true, false, false≢true}
use mathlib.Core.List.{List}
use Prim.Native.Nat.{ℕ, zero, suc, ◌+◌, ◌*◌, ◌≤◌, ◌<◌}
use native.Mathlib.Decide.{ℕ_discrete}
use native.Mathlib.Nat.{zero-add, zero-mul}
use Rattle.ground.proofs.Tests.{either}
use Rattle.gates.specs.Gate.{pins_of}
use Rattle.circuit.specs.Record.{lines_of, kind_at, out_at, pin_at}
use Rattle.circuit.proofs.Lines.{three}
use Rattle.states.specs.States.{is_state, is_data}
use Rattle.states.specs.Rules.{lines_after}
use Rattle.states.proofs.Records.{state_same, data_same}
use Rattle.unfolded.specs.Words.{StateLine, DataLine, Moved, BufferOf, Unfolds}
use Rattle.unfolded.proofs.Steps.{by_steps}
use Rattle.unfolded.proofs.Bytes.{SameFields, same_bytes}

-- kind and sources
pub record SameGate (u v : List ℕ) (l : ℕ) : Type 0 where
  pub kind : kind_at u l ≡ kind_at v l
  pub pin : (s : ℕ) → 1 ≤ s → s ≤ 3 → pin_at u l s ≡ pin_at v l s

moved_same : {c u v : List ℕ} {l m further : ℕ} → Moved c u l m further → Moved c v l m further → SameGate u v l
moved_same {c} {u} {v} {l} {m} {further} p q = record {
  kind = p.kind ∙ sym q.kind;
  pin = λ s a b.
      ⊎_elim (λ h. p.lacks s h b ∙ sym (q.lacks s h b)) (λ h. p.has s a h ∙ sym (q.has s a h)) (either (pins_of (kind_at c m)) s);
}

buffer-same : {u v : List ℕ} {l from : ℕ} → BufferOf u l from → BufferOf v l from → SameGate u v l
buffer-same {u} {v} {l} p q = record {
  kind = p.kind ∙ sym q.kind;
  pin = three (λ s. pin_at u l s ≡ pin_at v l s) (p.first ∙ sym q.first) (p.second ∙ sym q.second) (p.third ∙ sym q.third);
}

module _ {c st u v : List ℕ} {k : ℕ} (p : Unfolds c st k u) (q : Unfolds c st k v) where
  same-gate : (i m : ℕ) → i < k → m < lines_of c → SameGate u v (i * lines_of c + m)
  same-gate zero m h l = rw (zero-mul, zero-add) (moved_same (p.first m l) (q.first m l))
  same-gate (suc i) m h l = go (is_state st m) refl
    where
      go : (t : Bool) → is_state st m ≡ t → SameGate u v (suc i * lines_of c + m)
      go true e =
          let w = (state_same st m).holds e in
          rw (← w.2) (buffer-same (p.state i w.0 h w.1) (q.state i w.0 h w.1))
      go false e =
          let no : StateLine st m → ⊥ = λ w. false≢true (sym e ∙ (state_same st m).tests w) in
          moved_same (p.other i m h l no) (q.other i m h l no)

  same_out : (i m : ℕ) → i < k → m < lines_of c → out_at u (i * lines_of c + m) ≡ out_at v (i * lines_of c + m)
  same_out i m h l = go (ℕ_discrete (out_at c m) 1) (ℕ_discrete (suc i) k) (is_data st m) refl
    where
      go : Dec (out_at c m ≡ 1) → Dec (suc i ≡ k) → (t : Bool) → is_data st m ≡ t → out_at u (i * lines_of c + m) ≡ out_at v (i * lines_of c + m)
      go (yes e) last t d = p.stays i m h l e ∙ sym (q.stays i m h l e)
      go (no n) (no x) t d = p.none i m h l n (λ e _. x e) ∙ sym (q.none i m h l n (λ e _. x e))
      go (no n) (yes e) true d = let w = (data_same st m).holds d in p.becomes i m e l w ∙ sym (q.becomes i m e l w)
      go (no n) (yes e) false d =
          let none : suc i ≡ k → DataLine st m → ⊥ = λ _ w. false≢true (sym d ∙ (data_same st m).tests w) in
          p.none i m h l n none ∙ sym (q.none i m h l n none)

  same_fields : (i m : ℕ) → i < k → m < lines_of c → SameFields u v (i * lines_of c + m)
  same_fields i m h l = let g = same-gate i m h l in record { kind = g.kind; out = same_out i m h l; pin = g.pin }

  pub one_unfolding : u ≡ v
  one_unfolding =
      same_bytes u v p.bytes q.bytes (lines_after c k) p.size q.size (by_steps (SameFields u v) (lines_of c) k same_fields)
