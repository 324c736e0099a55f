-- The names of own numbers, in the line that the text begins with.
use Rattle.std.specs.Prelude.{◌≡◌, ℕ, ◌<◌, ◌≤◌, ◌≢◌, ◌⊎◌, true, List, [], ◌∷◌, ◌++◌, length, get_or, take, drop, Some, None, codes, Option, slice_index, slice_index_or}
use Rattle.std.specs.List.{flat_map}
use Rattle.grammar.specs.Spelling.{word_byte, each_byte, OwnLine, IsName}
use Rattle.grammar.specs.Stands.{Apart}

-- The text begins with the line that names the own numbers ns, up to 64; if there are none, it begins with no such line.
pub record NamesIn (ns : List (List ℕ)) (text : List ℕ) : Type 0 where
  pub line : List ℕ
  pub rest : List ℕ
  pub whole : text ≡ line ++ rest
  pub own_line : OwnLine ns line
  pub names : (k : ℕ) → k < length ns → IsName (slice_index_or ns k [])
  pub few : length ns ≤ 64
  pub missing : ns ≡ [] → take 4 text ≢ codes "own "

-- Each is a word.
abbrev pub Words : List (List ℕ) → Type 0
Words ns = (k : ℕ) → k < length ns → each_byte word_byte (slice_index_or ns k []) ≡ true

-- Names, each behind a space.
abbrev pub spaced : List (List ℕ) → List ℕ
spaced ns = flat_map (λ u. 32 ∷ u) ns

-- From byte 3 on the text has the names ns, each behind a space, and then z. There are `many` of them; or no more than that, and z begins with no space.
pub record NamesAt (ns : List (List ℕ)) (z : List ℕ) (many : ℕ) (text : List ℕ) : Type 0 where
  pub words : Words ns
  pub apart : Apart z
  pub here : drop 3 text ≡ spaced ns ++ z
  pub all : (length ns ≡ many) ⊎ ((length ns ≤ many) × (slice_index z 0 ≢ 32))

-- No two own numbers have one name.
abbrev pub Distinct : List (List ℕ) → Type 0
Distinct ns = (j k : ℕ) → j < length ns → k < length ns → slice_index_or ns j [] ≡ slice_index_or ns k [] → j ≡ k

-- The name u stands at place k of ns first.
pub record FirstAt (ns : List (List ℕ)) (u : List ℕ) (k : ℕ) : Type 0 where
  pub there : k < length ns
  pub is : get_or ns k [] ≡ u
  pub first : (j : ℕ) → j < k → slice_index_or ns j [] ≢ u

-- The place of a name, if it is there.
abbrev pub PlaceOf : List (List ℕ) → List ℕ → Option ℕ → Type 0
PlaceOf ns u (Some k) = FirstAt ns u k
PlaceOf ns u None = (k : ℕ) → k < length ns → slice_index_or ns k [] ≢ u
