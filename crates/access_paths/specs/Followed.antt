-- Public contracts rest on this module.
-- The fields that a path follows, as a list of at most three.
use Rattle.std.specs.Prelude.{◌≡◌, ℕ, List, [], ◌∷◌, refl}
use Rattle.jvm_model.specs.declared.number.FieldNo.{FieldNo}
use Rattle.access_paths.specs.declared.fields.Fields.{Fields}
use Rattle.access_paths.specs.declared.fields.Fields.TheVariants.{Zero, One, Two, Three}

-- A path follows at most so many fields.
abbrev pub most_fields : ℕ
most_fields = 3

-- One after another.
abbrev pub listed : Fields → List FieldNo
listed Zero = []
listed (One f) = f ∷ []
listed (Two f g) = f ∷ g ∷ []
listed (Three f g h) = f ∷ g ∷ h ∷ []

-- The first three of a list. They are what is listed, if there are no more.
abbrev pub first_three : List FieldNo → Fields
first_three [] = Zero
first_three (f ∷ []) = One f
first_three (f ∷ g ∷ []) = Two f g
first_three (f ∷ g ∷ h ∷ rest) = Three f g h

pub first_three-listed : (x : Fields) → first_three (listed x) ≡ x
first_three-listed Zero = refl
first_three-listed (One f) = refl
first_three-listed (Two f g) = refl
first_three-listed (Three f g h) = refl
