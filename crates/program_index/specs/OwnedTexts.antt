-- Public contracts rest on this module.
-- The bytes that vectors own.
use Rattle.std.specs.Prelude.{◌≡◌, ℕ, ◌<◌, ◌^◌, Bool, List, length, map, Some, None, slice_get}
use Rattle.std.specs.Global.{Vec}
use Rattle.std.specs.HashMap.{HashMap, get_by}
use Rattle.std.specs.Str.{bytes_eq}
use Rattle.program_index.specs.FirstPlaces.{StandsNowhere}
use Rattle.program_index.specs.TextNumbers.{AreDistinct}

abbrev pub owned_texts : List (Vec ℕ) → List (List ℕ)
owned_texts texts = map (λ (text : Vec ℕ). text.items) texts

-- the texts are distinct, and each place fits 32 bits
pub record AreNumbered (texts : List (List ℕ)) : Type 0 where
  pub distinct : AreDistinct texts
  pub small : length texts < 2 ^ 32

-- the vector owns this text
abbrev pub owns : List ℕ → Vec ℕ → Bool
owns text key = bytes_eq text key.items

-- the texts are numbered, and the map has the number of each of them, and of no other text
pub record AreIndexed {S : Type 0} (texts : List (List ℕ)) (numbers : HashMap (Vec ℕ) ℕ S) : Type 0 where
  pub numbered : AreNumbered texts
  pub found : (text : List ℕ) (number : ℕ) → get_by (owns text) numbers ≡ Some number → slice_get texts number ≡ Some text
  pub none : (text : List ℕ) → get_by (owns text) numbers ≡ None → StandsNowhere texts text
