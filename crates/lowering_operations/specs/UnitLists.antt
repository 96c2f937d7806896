-- Public contracts rest on this module.
-- The units of a descriptor that was read, by their kinds (JVMS 4.3).
use Rattle.std.specs.Prelude.{◌≡◌, ℕ, Bool, true, false, List, [], ◌∷◌, map, Option, Some, None, if◌then◌else◌}
use Rattle.std.specs.List.{flat_map}
use Rattle.jvm_model.specs.declared.descriptor.Descriptor.{Descriptor}
use Rattle.jvm_model.specs.declared.descriptor.Descriptor.TheVariants.{Method}
use Rattle.jvm_model.specs.declared.descriptor.Kind.{Kind}
use Rattle.jvm_model.specs.declared.descriptor.Kind.TheVariants.{Prim, Class, Array}
use Rattle.jvm_model.specs.declared.opcode.UnitKind.{UnitKind as CodeUnitKind}
use Rattle.jvm_model.specs.declared.opcode.UnitKind.TheVariants as kinds
use Rattle.jvm_model.specs.Instructions.{HasDescriptorUnits}
use Rattle.jvm_model.specs.RowViews.{kind_view}
use Rattle.jvm_model.specs.Table.{UnitKind}
use Rattle.machine_bytecode.specs.States.{is_reference_kind}
use Rattle.lowering_operations.specs.declared.units.MethodUnits.{MethodUnits}

-- The units of a value of a kind: two of a long or a double.
abbrev pub unit_kinds : Kind → List CodeUnitKind
unit_kinds (Prim wide) = if wide then kinds.Primitive ∷ kinds.Primitive ∷ [] else kinds.Primitive ∷ []
unit_kinds (Class name) = kinds.Reference ∷ []
unit_kinds (Array dimensions element) = kinds.Reference ∷ []

-- The units of a method's parameters, without the receiver; none of another descriptor.
abbrev pub parameter_units : Option Descriptor → List CodeUnitKind
parameter_units (Some (Method parameters outcome)) = flat_map unit_kinds parameters
parameter_units _ = []

-- The result of a method is a reference.
abbrev pub is_reference_outcome : Option Kind → Bool
is_reference_outcome None = false
is_reference_outcome (Some (Prim wide)) = false
is_reference_outcome (Some (Class name)) = true
is_reference_outcome (Some (Array dimensions element)) = true

abbrev pub gives_reference : Option Descriptor → Bool
gives_reference (Some (Method parameters outcome)) = is_reference_outcome outcome
gives_reference _ = false

-- The text, if it is the descriptor of a method, has these units.
pub record AreUnitsOf (descriptor : List ℕ) (u : MethodUnits) : Type 0 where
  pub parameters_are : (parameters results : List UnitKind) → HasDescriptorUnits descriptor parameters results → map kind_view u.parameters.items ≡ parameters
  pub results_are : (parameters results : List UnitKind) → HasDescriptorUnits descriptor parameters results → u.gives_reference ≡ is_reference_kind results
