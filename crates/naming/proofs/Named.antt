-- The name at a line's place is the one whose equation the line computes: of the places and the records that the two readers write of a text.
-- Assumes nothing.
use mathlib.Core.Path.{◌≡◌, refl, sym, ap, ◌∙◌}
use mathlib.Core.List.{List}
use Prim.Native.Nat.{ℕ, ◌*◌, ◌<◌}
use native.Mathlib.Omega.{arith}
use lib.ListN.{length, get_or, take, drop, get_or-append}
use Rattle.ground.specs.Put.{laid_on}
use Rattle.ground.proofs.Grow.{table-length, table_at}
use Rattle.answers.specs.Rules.{Ruling, refusal, unless}
use Rattle.answers.specs.Answer.{answered}
use Rattle.answers.proofs.Rules.{both_fine, same_good}
use Rattle.answers.proofs.Answer.{was_ruled}
use Rattle.circuit.specs.Record.{lines_of}
use Rattle.simulate.specs.Work.{good_of}
use Rattle.simulate.specs.Boolean.{good, truth_at}
use Rattle.records.specs.Net.{net_size}
use Rattle.nets.specs.Rules.{buffer_bytes}
use Rattle.words.specs.Words.{word_at, words_in, ends_in}
use Rattle.statements.specs.Tables.{defined_at}
use Rattle.texts.specs.Text.{forms_in, net_in, place_on, places_in}
use Rattle.bench.specs.Promise.{bench_rules, records_in, Reads}
use Rattle.equations.specs.Meaning.{Solves}
use Rattle.equations.specs.Right.{Defines, NamesRight}
use Rattle.equations.specs.Numbers.{line_for}
use Rattle.equations.specs.Computes.{size_in, Computes}
use Rattle.texts.proofs.Numbers.{size_is}
use Rattle.equations.proofs.Names.{names_right}
use Rattle.equations.proofs.Parts.{parts}
use Rattle.equations.proofs.Computes.{parts_right, computes}
use Rattle.equations.proofs.Read.{lines_are, read_computes}
use Rattle.bench_names.specs.Promise.{place_rules, names_answer, TellsNames}
use Rattle.naming.specs.Named.{FollowsText, OwnName}
use Rattle.naming.proofs.Lines.{NamesLine, names_line}
use Rattle.std.specs.Prelude.{Ok}

-- what solves the text's equations has on each line the value of its name's
follows : {A : Type 0} {gate : ℕ → (ℕ → A) → A} {t : List ℕ} {inputs : ℕ → A} (value : ℕ → A) {j k : ℕ}
    → Solves gate t inputs (λ w. value (line_for t w)) → NamesLine t k j → FollowsText gate t inputs value j k
follows value s n = record {
  given = λ e. ap value (sym n.own) ∙ s.given _ n.says.inside e;
  equation = λ e. ap value (sym n.own) ∙ s.equation _ n.says.inside e;
}

-- the records of an accepted text
module _ {t c : List ℕ} (d : Computes t c) (fine : refusal (bench_rules t buffer_bytes) ≡ Ok tt) (k : ℕ) (l : k < size_in t) where
  own_name : OwnName t c k (place_on t k)
  own_name =
      let p = parts t buffer_bytes fine in
      let n = names_line t p.names (parts_right p) k l in
      record {
        line = _;
        says = n.says;
        stands = n.stands;
        own = ap (λ (i : ℕ). line_for t (word_at t i)) n.stands ∙ n.own;
        values = λ q. follows (λ i. get_or (good_of c q (size_in t)) i 0) (d.values q).solves n;
        truths = λ x. follows (truth_at good c x (size_in t)) (d.truths x).solves n;
      }

-- ---- a line has one place only: a name is defined once, and two lines have not one name

module _ {t c : List ℕ} (d : Computes t c) (right : NamesRight t) {k a b : ℕ} (m : OwnName t c k a) (n : OwnName t c k b) where
  defined : {e : ℕ} (o : OwnName t c k e) → Defines t o.line (word_at t e)
  defined o = record { line = o.says; is = ap (word_at t) (sym o.stands) }

  same_name : word_at t a ≡ word_at t b
  same_name = d.lines.apart _ _ (m.line, defined m) (n.line, defined n) (m.own ∙ sym n.own)

  same_line : m.line ≡ n.line
  same_line = right.once m.line n.line _ (defined m) (rw same_name (defined n))

  one_place : a ≡ b
  one_place = m.stands ∙ ap (defined_at (words_in t) (ends_in t) (forms_in t)) same_line ∙ sym n.stands

-- ---- of what is written

module _ {t p p' : List ℕ} {n : ℕ} (names : TellsNames t p p' (Ok n)) where
  all_fine : refusal (place_rules t (length p)) ≡ Ok tt
  unfolding names_answer
  all_fine = was_ruled _ names.answer refl

  text_fine : refusal (bench_rules t buffer_bytes) ≡ Ok tt
  text_fine = (both_fine (bench_rules t buffer_bytes) _ all_fine).0

  count_is : n ≡ size_in t
  unfolding names_answer
  count_is =
      let m : n ≡ lines_of (records_in t) = same_good (names.answer ∙ ap (λ (v : Ruling). answered v (lines_of (records_in t))) all_fine) in
      m ∙ lines_are t

  place_is : (k : ℕ) → k < n → get_or p' k 0 ≡ place_on t k
  unfolding places_in
  place_is k l =
      let inside : k < net_size (net_in t) = omega (arith, count_is, size_is t) in
      let laid : p' ≡ laid_on p (places_in t) = names.places ∙ ap (λ (v : Ruling). unless v p (laid_on p (places_in t))) all_fine in
      ap (λ (q : List ℕ). get_or q k 0) laid
      ∙ get_or-append (places_in t) (drop (length (places_in t)) p) 0 k (rw (table-length (place_on t) (net_size (net_in t))) inside)
      ∙ table_at (place_on t) (net_size (net_in t)) 0 k inside

  -- as many lines as the text has inputs and gates, and each line's place names it in the text's records
  pub names_own : (n ≡ size_in t) × ((k : ℕ) → k < n → OwnName t (records_in t) k (get_or p' k 0))
  names_own = (
    count_is,
    λ k l. rw (place_is k l) (own_name (computes t buffer_bytes text_fine) text_fine k (omega (arith, count_is))),
  )

  -- no other byte is the place of its name
  pub names_only : (k : ℕ) → k < n → (place : ℕ) → OwnName t (records_in t) k place → place ≡ get_or p' k 0
  names_only k l place o =
      one_place (computes t buffer_bytes text_fine) (names_right t (parts t buffer_bytes text_fine).names) o (names_own.1 k l)

  -- and in those that the reader wrote of the same text
  pub names_read : {c c' : List ℕ} {m : ℕ} → Reads t c c' (Ok m) → (m ≡ n) × ((k : ℕ) → k < n → OwnName t (take (8 * n) c') k (get_or p' k 0))
  names_read {c} {c'} {m} reads =
      let r = read_computes reads in
      let same : m ≡ n = r.0 ∙ sym count_is in (
        same,
        λ k l. rw (place_is k l, ← same) (own_name r.1 text_fine k (omega (arith, count_is))),
      )
