-- Public contracts rest on this module.
-- What a tree tells of its calls.
use Rattle.std.specs.Prelude.{◌≡◌, ℕ, Bool, true, List, [], ◌∷◌, ◌++◌, map, Option, option_map}

-- What a call asks for: the names of the class files, or the first bytes of the file of a name.
pub data Question : Type 0 where
  listing : Question
  reading : (name : List ℕ) → (limit : ℕ) → Question

-- One call: what it asked for, and whether it was given.
pub record Called : Type 0 where
  pub asked : Question
  pub is_given : Bool

-- A call that was given what it asked for, and each of several.
abbrev pub given : Question → Called
given question = record { asked = question; is_given = true }

abbrev pub all_given : List Question → List Called
all_given questions = map given questions

-- These calls came after the old ones, and no others, where the tree tells its calls.
abbrev pub Calls : Option (List Called) → Option (List Called) → List Called → Type 0
Calls old new calls = new ≡ option_map (λ before. before ++ calls) old

-- One call came after the old ones.
abbrev pub CallsOne : Option (List Called) → Option (List Called) → Question → Bool → Type 0
CallsOne old new question is_given = Calls old new (record { asked = question; is_given = is_given } ∷ [])
