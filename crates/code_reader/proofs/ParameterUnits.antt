-- The units of a method's parameters, by their kinds and by their descriptors (JVMS 4.3.3).
use Rattle.std.proofs.Common.{◌≡◌, ℕ, zero, suc, ◌≤◌, Bool, cond, List, [], ◌∷◌, sum_by, Option, Some, None, IfSome, IfNone, refl, sym, ap, arith}
use Rattle.std.specs.List.{AllZip}
use Rattle.std.proofs.lemmas.List.Sums.{sum_by-cons}
use Rattle.jvm_model.specs.declared.descriptor.Descriptor.{Descriptor}
use Rattle.jvm_model.specs.declared.descriptor.Descriptor.TheVariants.{Field, Method}
use Rattle.jvm_model.specs.declared.descriptor.Kind.{Kind}
use Rattle.jvm_model.specs.declared.descriptor.Kind.TheVariants.{Prim, Class, Array}
use Rattle.jvm_model.specs.Descriptors.{units_of, IsFieldDescriptor, IsMethodDescriptor}
use Rattle.jvm_model.specs.DescriptorValues.{IsKind, IsMethodOf, IsDescriptorOf}
use Rattle.jvm_model.proofs.MethodKinds.{method_in_grammar, one_value}
use Rattle.code_reader.specs.CodeReading.{TakesUnits, by_kinds, no_method}
use Rattle.jvm_model.specs.DescriptorValues.{kind_units}
use Rattle.code_reader.specs.Parameters.{HasUnits, HasFewUnits}

units_of_kind : (text : List ℕ) (k : Kind) → IsKind text k → kind_units k ≡ units_of text
units_of_kind text (Prim wide) is = ap (λ (w : Bool). cond w 2 1) is.1
units_of_kind text (Class name) is = sym (ap units_of is.1)
units_of_kind text (Array zero element) is = absurd (omega (arith, is.0))
units_of_kind text (Array (suc n) element) is = sym (ap units_of is.3)

units_of_kinds : (ps : List (List ℕ)) (kinds : List Kind) → AllZip IsKind ps kinds → sum_by kind_units kinds ≡ sum_by units_of ps
units_of_kinds [] [] each = refl
units_of_kinds [] (k ∷ kinds) each = absurd each
units_of_kinds (p ∷ ps) [] each = absurd each
units_of_kinds (p ∷ ps) (k ∷ kinds) each =
    omega (arith, units_of_kind p k each.0, units_of_kinds ps kinds each.1, sum_by-cons kind_units k kinds, sum_by-cons units_of p ps)

-- they are at most 255
few_units : (text : List ℕ) (kinds : List Kind) (outcome : Option Kind) → IsMethodOf text kinds outcome → sum_by kind_units kinds ≤ 255
few_units text kinds outcome is = omega (arith, units_of_kinds is.parameters kinds is.each, is.units)

-- a field's descriptor is no method's
no_method_beside : (text : List ℕ) (k : Kind) → IsKind text k → (kinds : List Kind) (outcome : Option Kind) → IsMethodOf text kinds outcome → ⊥
no_method_beside text k is kinds outcome of = let same = one_value text (Field k) (Method kinds outcome) is of in cc same

-- a text that is in no grammar is no method's descriptor
not_spelled : (text : List ℕ) → (IsMethodDescriptor text → ⊥) → (kinds : List Kind) (outcome : Option Kind) → IsMethodOf text kinds outcome → ⊥
not_spelled text none kinds outcome is = none (method_in_grammar text kinds outcome is)

-- the units of the descriptor that a text spells are those that its parameters take
pub takes_units : (text : List ℕ) (o : Option Descriptor) (units : ℕ) → IfSome o (IsDescriptorOf text) → IfNone o ((IsFieldDescriptor text → ⊥) × (IsMethodDescriptor text → ⊥))
    → HasUnits o units → TakesUnits text units
takes_units text None units found none has = no_method (not_spelled text none.1) has
takes_units text (Some (Field kind)) units found none has = no_method (no_method_beside text kind found) has
takes_units text (Some (Method kinds outcome)) units found none has = by_kinds kinds outcome found has

pub has_few : (text : List ℕ) (o : Option Descriptor) → IfSome o (IsDescriptorOf text) → HasFewUnits o
has_few text None found = tt
has_few text (Some (Field kind)) found = tt
has_few text (Some (Method kinds outcome)) found = few_units text kinds outcome found
