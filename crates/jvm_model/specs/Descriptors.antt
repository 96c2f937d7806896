-- Public contracts rest on this module.
-- The descriptors of JVMS 4.3, as bytes.
use Rattle.std.specs.Prelude.{codes, ◌≡◌, ℕ, zero, suc, ◌≤◌, Bool, ◌||◌, ◌==◌, ◌⊎◌, List, [], ◌∷◌, ◌++◌, All, sum_by, IsTrue, if◌then◌else◌}
use Rattle.std.specs.List.{flat_map}
use Rattle.std.specs.Str.{bytes_eq}
use Rattle.jvm_model.specs.Names.{IsClassName}

-- The letters of the primitive types: B C D F I J S Z (JVMS 4.3.2).
abbrev pub is_base_letter : ℕ → Bool
is_base_letter c = c == 66 || c == 67 || c == 68 || c == 70 || c == 73 || c == 74 || c == 83 || c == 90

-- One such letter.
abbrev pub IsBaseType : List ℕ → Type 0
IsBaseType text = (letter : ℕ) × IsTrue (is_base_letter letter) × (text ≡ letter ∷ [])

-- L, the name of a class, and a semicolon.
abbrev pub IsObjectType : List ℕ → Type 0
IsObjectType text = (name : List ℕ) × IsClassName name × (text ≡ 76 ∷ (name ++ 59 ∷ []))

-- A field descriptor with so many [ in front (JVMS 4.3.2): without them it is a primitive type or a class.
abbrev pub IsFieldType : ℕ → List ℕ → Type 0
IsFieldType zero text = IsBaseType text ⊎ IsObjectType text
IsFieldType (suc dimensions) text = (component : List ℕ) × (text ≡ 91 ∷ component) × IsFieldType dimensions component

-- A field descriptor. An array has at most 255 dimensions (JVMS 4.3.2).
pub record IsFieldDescriptor (text : List ℕ) : Type 0 where
  pub dimensions : ℕ
  pub limit : dimensions ≤ 255
  pub type_is : IsFieldType dimensions text

-- The units that a parameter takes: two for a long or a double, and else one (JVMS 4.3.3).
abbrev pub units_of : List ℕ → ℕ
units_of text = if bytes_eq text (codes "J") || bytes_eq text (codes "D") then 2 else 1

-- A method descriptor (JVMS 4.3.3): the parameters in parentheses, of at most 255 units, and the result,
-- which may be V.
pub record IsMethodDescriptor (text : List ℕ) : Type 0 where
  pub parameters : List (List ℕ)
  pub outcome : List ℕ
  pub spelled : text ≡ 40 ∷ (flat_map (λ p. p) parameters ++ 41 ∷ outcome)
  pub each : All IsFieldDescriptor parameters
  pub units : sum_by units_of parameters ≤ 255
  pub outcome_is : (outcome ≡ codes "V") ⊎ IsFieldDescriptor outcome
