-- Public contracts rest on this module.
-- Keys whose texts have numbers, and a map from each to its first place.
use Rattle.std.specs.Prelude.{◌≡◌, ℕ, ◌<◌, ◌^◌, List, ◌∷◌, ◌++◌, length, map, All, Some, None, slice_index_or, []}
use Rattle.std.specs.HashMap.{HashMap, get}
use Rattle.program_index.specs.declared.numbered_key.NumberedKey.{NumberedKey}
use Rattle.program_index.specs.contracts.numbered_key.NumberedKeyPartialEq.TheImpl as key_block
use Rattle.program_index.specs.FirstPlaces.{IsFirstPlace, StandsNowhere}
use Rattle.program_index.specs.MemberKeys.{Key, key_texts}
use Rattle.program_index.specs.TextNumbers.{different}

-- the map has the first place of each key, and no other key
pub record ArePlaces {S : Type 0} (keys : List NumberedKey) (places : HashMap NumberedKey ℕ S) : Type 0 where
  pub first : (key : NumberedKey) (place : ℕ) → get (key_block.ghosts).eq places key ≡ Some place → IsFirstPlace keys key place
  pub none : (key : NumberedKey) → get (key_block.ghosts).eq places key ≡ None → StandsNowhere keys key
  pub small : length keys < 2 ^ 32

-- the key with its texts in place of their numbers
abbrev pub spelled : List (List ℕ) → NumberedKey → Key
spelled texts key = record { class = key.class.0; signature = record { name = slice_index_or texts key.name []; descriptor = slice_index_or texts key.descriptor [] } }

-- both numbers of the key are numbers of texts
pub record HasTexts (texts : List (List ℕ)) (key : NumberedKey) : Type 0 where
  pub name : key.name < length texts
  pub descriptor : key.descriptor < length texts

-- one key more than before stands last, with its texts in place of their numbers
pub record IsSpelledLast (texts : List (List ℕ)) (old new : List NumberedKey) (key : Key) : Type 0 where
  pub last : NumberedKey
  pub is : new ≡ old ++ last ∷ []
  pub has : HasTexts texts last
  pub spells : spelled texts last ≡ key

-- the texts are those of the keys, each once
pub record AreSpelled (texts : List (List ℕ)) (keys : List NumberedKey) : Type 0 where
  pub has : All (HasTexts texts) keys
  pub each : texts ≡ different (key_texts (map (spelled texts) keys))
