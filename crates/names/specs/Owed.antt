-- What the functions of the names owe each other and their callers: a table that finds a name's definition, by a hash and lists of those with the same hash.
-- No reader of the promises needs it.
-- Assumes nothing.
use Rattle.std.specs.Prelude.{◌≡◌, Bool, not, List, [], ◌∷◌, ◌++◌, map, Option, None, Some, ℕ, zero, suc, ◌+◌, ◌*◌, ◌≤◌, ◌<◌, ◌%◌, min, eqb, length, get_or, replicate}
use Rattle.ground.specs.Choose.{choose}
use Rattle.answers.specs.Rules.{refusal, Ruling}
use Rattle.words.specs.Words.{word_at}
use Rattle.names.specs.Names.{name_rules, last_with, definition, name_number}

unfoldable pub hash_from : ℕ → List ℕ → ℕ
hash_from h [] = h
hash_from h (b ∷ w) = hash_from ((h * 131 + b) % 8192) w

-- h is the hash of the word at a byte
abbrev pub Hash : List ℕ → ℕ → ℕ → Type 0
Hash t at h = (h ≡ hash_from 0 (word_at t at)) × (h < 8192)

abbrev pub hashed : List ℕ → List ℕ → ℕ → ℕ → Bool
hashed t defs h d = eqb (hash_from 0 (word_at t (get_or defs d 0))) h

-- a link is one more than the number of a definition, or 0 where there is none
abbrev pub linked : ℕ → Option ℕ
linked zero = None
linked (suc d) = Some d

-- the first n definitions are in the table
pub record Table (t defs head next : List ℕ) (n : ℕ) : Type 0 where
  pub few : length defs < 65536
  pub known : n ≤ length defs
  pub heads : length head ≡ 8192
  pub nexts : length next ≡ length defs
  pub first : (h : ℕ) → h < 8192 → get_or head h 0 ≡ last_with (hashed t defs h) n
  pub rest : (d : ℕ) → d < n → get_or next d 0 ≡ last_with (hashed t defs (hash_from 0 (word_at t (get_or defs d 0)))) d

-- the lowest of the first n places that fail a test, or 65,535
unfoldable pub lowest : (ℕ → Bool) → List ℕ → ℕ → ℕ
lowest f places zero = 65535
lowest f places (suc n) = choose (f n) (min (get_or places n 0) (lowest f places n)) (lowest f places n)

-- the name of definition d was defined before
abbrev pub again : List ℕ → List ℕ → ℕ → Bool
again t defs d = not (eqb (definition t defs d (word_at t (get_or defs d 0))) 0)

-- the name of use u is defined nowhere
abbrev pub undefined : List ℕ → List ℕ → List ℕ → ℕ → Bool
undefined t defs uses u = eqb (definition t defs (length defs) (word_at t (get_or uses u 0))) 0

-- an empty table
pub record EnterReady (t defs head next : List ℕ) : Type 0 where
  pub few : length defs < 65536
  pub none : head ≡ replicate 8192 0
  pub room : length next ≡ length defs

-- all definitions are in the table, and r is the lowest byte of a second one
pub record EnterDone (t defs head next : List ℕ) (r : ℕ) : Type 0 where
  pub table : Table t defs head next (length defs)
  pub place : r ≡ lowest (again t defs) defs (length defs)

-- a name at each of some places, room for its number, and the lowest byte so far of a wrong name, or 65,535
pub record LookUpReady (t defs head next names out : List ℕ) (low : ℕ) : Type 0 where
  pub table : Table t defs head next (length defs)
  pub room : length out ≡ length names
  pub so_far : low ≤ 65535

-- the numbers of the names, and r is `low` or the lowest byte of a name that is defined nowhere
pub record LookUpDone (t defs numbers names out : List ℕ) (low r : ℕ) : Type 0 where
  pub numbers_are : out ≡ map (name_number t defs numbers) names
  pub place : r ≡ min low (lowest (undefined t defs names) names (length names))

-- each place is one of the text
abbrev pub Within : List ℕ → List ℕ → Type 0
Within t places = (k : ℕ) → k < length places → get_or places k 0 < length t

-- names to be resolved, and room for their numbers
pub record ResolveReady (t defs outs firsts seconds o a b : List ℕ) : Type 0 where
  pub short : length t ≤ 32768
  pub few : length defs ≤ 8192
  pub defs_inside : Within t defs
  pub outs_inside : Within t outs
  pub firsts_inside : Within t firsts
  pub seconds_inside : Within t seconds
  pub for_outs : length o ≡ length outs
  pub for_firsts : length a ≡ length firsts
  pub for_seconds : length b ≡ length seconds

-- what the names say about refusal 15, and their numbers
pub record ResolveDone (t defs numbers outs firsts seconds o a b : List ℕ) (r : Ruling) : Type 0 where
  pub ruling : r ≡ refusal (name_rules t defs (outs ++ (firsts ++ seconds)))
  pub outs_are : o ≡ map (name_number t defs numbers) outs
  pub firsts_are : a ≡ map (name_number t defs numbers) firsts
  pub seconds_are : b ≡ map (name_number t defs numbers) seconds
