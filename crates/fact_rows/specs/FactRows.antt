-- Public contracts rest on this module.
-- Facts as rows of a pool.
use Rattle.std.specs.Prelude.{◌≡◌, ℕ, ◌≤◌, Bool, List, [], ◌∷◌, ◌++◌, Some, length, slice_get, if◌then◌else◌}
use Rattle.std.specs.List.{AllZip}
use Rattle.access_paths.specs.Paths.{Path}
use Rattle.access_paths.specs.Sets.{IsPathSet}
use Rattle.stage_facts.specs.Facts.{SiteFact, Tuple, none_yet, some_yet, of_object}
use Rattle.fact_rows.specs.PathRows.{IsPathRow}

-- Each number is that of the row of the path at its place.
abbrev pub HaveRows : (rows : List (List ℕ)) → List Path → (numbers : List ℕ) → Type 0
HaveRows rows paths numbers = AllZip (λ x n. IsPathRow rows n x) paths numbers

-- The paths of a set have these rows.
pub record SetHasRows (rows : List (List ℕ)) (set : List Path) (numbers : List ℕ) : Type 0 where
  pub is_set : IsPathSet set
  pub have : HaveRows rows set numbers

-- 1 for yes, and 0 for no.
abbrev pub word_of : Bool → ℕ
word_of b = if b then 1 else 0

-- The first words of a tuple: its parts but for the paths, and how many rows of must paths follow.
abbrev pub first_words : Tuple → List ℕ
first_words t = 6 ∷ word_of t.unique ∷ t.state ∷ word_of t.may ∷ length t.must ∷ []

-- The words of a tuple: behind the first ones the rows of its must paths, and then those of its must-not paths.
pub record AreTupleWords (rows : List (List ℕ)) (words : List ℕ) (t : Tuple) : Type 0 where
  pub must_rows : List ℕ
  pub must_not_rows : List ℕ
  pub words_are : words ≡ first_words t ++ must_rows ++ must_not_rows
  pub must : SetHasRows rows t.must must_rows
  pub must_not : SetHasRows rows t.must_not must_not_rows
  pub state_fits : t.state ≤ 255

-- The words of a fact.
abbrev pub AreFactWords : (rows : List (List ℕ)) → (words : List ℕ) → SiteFact → Type 0
AreFactWords rows words none_yet = words ≡ 4 ∷ []
AreFactWords rows words some_yet = words ≡ 5 ∷ []
AreFactWords rows words (of_object t) = AreTupleWords rows words t

-- The row has the words of the fact.
pub record IsFactRow (rows : List (List ℕ)) (row : ℕ) (fact : SiteFact) : Type 0 where
  pub words : List ℕ
  pub stands : slice_get rows row ≡ Some words
  pub are : AreFactWords rows words fact
