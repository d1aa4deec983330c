-- The promise of the second engine and the paper's words say the same.
-- Assumes nothing.
use mathlib.Core.List.{List}
use Prim.Native.Nat.{ℕ}
use Rattle.answers.specs.Rules.{Ruling}
use Rattle.circuit.specs.Record.{lines_of}
use Rattle.dictionary.proofs.Says.{engine_in_words, engine_by_words}
use Rattle.dictionary_lanes.specs.Promise.{DictionaryLanes}
use Rattle.dictionary_lanes.specs.Words.{LanesInWords}
use Rattle.dictionary_lanes.proofs.Words.{left_words, words_left}

module _ {c fs ps t w : List ℕ} {r : Ruling} {t' w' : List ℕ} where
  pub lanes_in_words : DictionaryLanes c fs ps t w r t' w' → LanesInWords c fs ps t w r t' w'
  lanes_in_words = engine_in_words (λ k. left_words c (lines_of c) fs ps k.good.some_inputs k.patterns.records)

  pub lanes_by_words : LanesInWords c fs ps t w r t' w' → DictionaryLanes c fs ps t w r t' w'
  lanes_by_words = engine_by_words (λ k. words_left c (lines_of c) fs ps k.good.some_inputs k.patterns.records)
