-- Public contracts rest on this module.
-- The values that descriptors spell (JVMS 4.3): kinds of types, and the kinds of a method's parameters and result.
use Rattle.std.specs.Prelude.{codes, ◌≡◌, ℕ, ◌≤◌, Bool, ◌||◌, List, [], ◌∷◌, ◌++◌, Option, Some, None, sum_by, replicate, if◌then◌else◌}
use Rattle.std.specs.List.{AllZip, flat_map}
use Rattle.std.specs.Str.{bytes_eq}
use Rattle.jvm_model.specs.declared.descriptor.Kind.{Kind}
use Rattle.jvm_model.specs.declared.descriptor.Kind.TheVariants.{Prim, Class, Array}
use Rattle.jvm_model.specs.declared.descriptor.Descriptor.{Descriptor}
use Rattle.jvm_model.specs.declared.descriptor.Descriptor.TheVariants.{Field, Method}
use Rattle.jvm_model.specs.Descriptors.{units_of, IsBaseType, IsFieldDescriptor, IsFieldType}
use Rattle.jvm_model.specs.Fronts.{IsFrontLength}
use Rattle.jvm_model.specs.Names.{IsClassName}

-- The units of a value of a kind: two of a long or a double, and else one (JVMS 2.6.2, 4.3.3).
abbrev pub kind_units : Kind → ℕ
kind_units (Prim wide) = if wide then 2 else 1
kind_units (Class name) = 1
kind_units (Array dimensions element) = 1

-- The text is J or D, for long or double.
abbrev pub is_wide : List ℕ → Bool
is_wide text = bytes_eq text (codes "J") || bytes_eq text (codes "D")

-- The text is a field descriptor of this kind (JVMS 4.3.2). A primitive type is one letter. A class is L, its name and
-- a semicolon. An array has a [ for each of its 1 to 255 dimensions, before its element type, which is no array.
abbrev pub IsKind : List ℕ → Kind → Type 0
IsKind text (Prim wide) = IsBaseType text × (wide ≡ is_wide text)
IsKind text (Class name) = IsClassName name × (text ≡ 76 ∷ (name ++ 59 ∷ []))
IsKind text (Array dimensions element) =
    (1 ≤ dimensions) × (dimensions ≤ 255) × IsFieldType 0 element × (text ≡ replicate dimensions 91 ++ element)

-- The text is V where there is no result, and else a field descriptor of the result's kind (JVMS 4.3.3).
abbrev pub IsOutcome : List ℕ → Option Kind → Type 0
IsOutcome text None = text ≡ codes "V"
IsOutcome text (Some kind) = IsKind text kind

-- The text is a method descriptor (JVMS 4.3.3): parameters of these kinds in parentheses, of at most 255 units, and then
-- the result.
pub record IsMethodOf (text : List ℕ) (kinds : List Kind) (result_kind : Option Kind) : Type 0 where
  pub parameters : List (List ℕ)
  pub outcome : List ℕ
  pub spelled : text ≡ 40 ∷ (flat_map (λ p. p) parameters ++ 41 ∷ outcome)
  pub each : AllZip IsKind parameters kinds
  pub units : sum_by units_of parameters ≤ 255
  pub outcome_is : IsOutcome outcome result_kind

-- The text spells the descriptor (JVMS 4.3).
abbrev pub IsDescriptorOf : List ℕ → Descriptor → Type 0
IsDescriptorOf text (Field kind) = IsKind text kind
IsDescriptorOf text (Method kinds outcome) = IsMethodOf text kinds outcome

-- The text begins with field descriptors of these kinds, one after another; the rest is what follows them.
pub record BeginsWithKinds (text rest : List ℕ) (kinds : List Kind) : Type 0 where
  pub parameters : List (List ℕ)
  pub spelled : text ≡ flat_map (λ p. p) parameters ++ rest
  pub each : AllZip IsKind parameters kinds

-- These are the kinds of all field descriptors that the text begins with: none begins the rest.
pub record AreKinds (text : List ℕ) (kinds : List Kind) : Type 0 where
  pub rest : List ℕ
  pub begins : BeginsWithKinds text rest kinds
  pub ends : IsFrontLength IsFieldDescriptor rest None
