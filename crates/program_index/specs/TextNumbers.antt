-- Public contracts rest on this module.
-- Texts by number: the number of a text is its place in a list in which no text stands twice.
use Rattle.std.specs.Prelude.{◌≡◌, ℕ, List, [], ◌∷◌, ◌++◌, Some, slice_get, if◌then◌else◌}
use Rattle.std.specs.List.{list_any}
use Rattle.std.specs.Str.{bytes_eq}

-- no text stands at two places
pub record AreDistinct (texts : List (List ℕ)) : Type 0 where
  pub one_place : (i j : ℕ) (text : List ℕ) → slice_get texts i ≡ Some text → slice_get texts j ≡ Some text → i ≡ j

-- the texts when this one is among them: it was, or it goes last
unfoldable pub with_text : List (List ℕ) → List ℕ → List (List ℕ)
with_text texts text = if list_any (bytes_eq text) texts then texts else texts ++ text ∷ []

-- the texts when these, one after another, are among them
abbrev pub with_texts : List (List ℕ) → List (List ℕ) → List (List ℕ)
with_texts texts [] = texts
with_texts texts (text ∷ more) = with_texts (with_text texts text) more

-- each of the texts once
abbrev pub different : List (List ℕ) → List (List ℕ)
different texts = with_texts [] texts

-- the old list is the front of the new one, so what has a place keeps it
pub record Extends {X : Type 0} (old new : List X) : Type 0 where
  pub added : List X
  pub is : new ≡ old ++ added
