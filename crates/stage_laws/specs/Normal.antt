-- Public contracts rest on this module.
-- Facts in the normal form of a stage.
use Rattle.std.specs.Prelude.{◌≡◌, ◌⊎◌, ℕ, true, List, [], Contains}
use Rattle.access_paths.specs.Sets.{IsPathSet}
use Rattle.stage_facts.specs.Facts.{SiteFact, none_yet, some_yet, of_object, Tuple}

-- The second stage knows no paths, and the third no paths that do not refer to the object.
pub record IsNormalTuple (stage : ℕ) (t : Tuple) : Type 0 where
  pub must : IsPathSet t.must
  pub must_not : IsPathSet t.must_not
  pub second : stage ≡ 2 → (t.must ≡ []) × (t.may ≡ true)
  pub third : (stage ≡ 2) ⊎ (stage ≡ 3) → t.must_not ≡ []

abbrev pub IsNormal : (stage : ℕ) → SiteFact → Type 0
IsNormal stage none_yet = Unit {0}
IsNormal stage some_yet = Unit {0}
IsNormal stage (of_object t) = IsNormalTuple stage t

-- Each of the facts is normal.
abbrev pub AreNormal : (stage : ℕ) → List SiteFact → Type 0
AreNormal stage facts = (g : SiteFact) → Contains facts g → IsNormal stage g
