-- Public contracts rest on this module.
-- The units of the arguments that stubs name, by the descriptor that was read.
use Rattle.std.specs.Prelude.{◌≡◌, ℕ, ◌+◌, ◌-◌, Bool, List, Option, Some, None, take, sum_by, if◌then◌else◌}
use Rattle.jvm_model.specs.declared.descriptor.Descriptor.{Descriptor}
use Rattle.jvm_model.specs.declared.descriptor.Kind.{Kind}
use Rattle.jvm_model.specs.declared.stub.StubArgument.{StubArgument}
use Rattle.jvm_model.specs.declared.stub.StubArgument.TheVariants.{This, Argument}
use Rattle.jvm_model.specs.declared.stub.StubMethod.{StubMethod}
use Rattle.jvm_model.specs.Descriptors.{IsFieldDescriptor, IsMethodDescriptor}
use Rattle.jvm_model.specs.DescriptorValues.{IsDescriptorOf, kind_units}
use Rattle.points_to_rules.specs.Calls.{IsUnitOf}

-- What was read of a text: its descriptor, or that it is none.
abbrev pub IsReadOf : List ℕ → Option Descriptor → Type 0
IsReadOf text None = (IsFieldDescriptor text → ⊥) × (IsMethodDescriptor text → ⊥)
IsReadOf text (Some descriptor) = IsDescriptorOf text descriptor

-- Where an argument stands, by the kinds of the parameters.
abbrev pub unit_by_kinds : Bool → List Kind → StubArgument → ℕ
unit_by_kinds is_static kinds This = 0
unit_by_kinds is_static kinds (Argument number) = (if is_static then 0 else 1) + sum_by kind_units (take (number - 1) kinds)

-- The one unit of the argument; or it has none.
abbrev pub IsArgumentUnit : StubMethod → StubArgument → Option ℕ → Type 0
IsArgumentUnit stub argument None = (u : ℕ) → IsUnitOf stub argument u → ⊥
IsArgumentUnit stub argument (Some unit) = IsUnitOf stub argument unit × ((u : ℕ) → IsUnitOf stub argument u → u ≡ unit)
