-- Only the proofs of this crate rest on this module.
-- The units of the parameters of a descriptor that was read.
use Rattle.std.specs.Prelude.{◌≡◌, ℕ, ◌≤◌, Option, Some, None, sum_by}
use Rattle.jvm_model.specs.declared.descriptor.Descriptor.{Descriptor}
use Rattle.jvm_model.specs.declared.descriptor.Descriptor.TheVariants.{Field, Method}
use Rattle.jvm_model.specs.DescriptorValues.{kind_units}

-- The parameters of a method take so many; without a method there are none.
abbrev pub HasUnits : Option Descriptor → ℕ → Type 0
HasUnits None units = units ≡ 0
HasUnits (Some (Field kind)) units = units ≡ 0
HasUnits (Some (Method kinds outcome)) units = units ≡ sum_by kind_units kinds

-- They take at most 255 (JVMS 4.3.3).
abbrev pub HasFewUnits : Option Descriptor → Type 0
HasFewUnits None = Unit {0}
HasFewUnits (Some (Field kind)) = Unit {0}
HasFewUnits (Some (Method kinds outcome)) = sum_by kind_units kinds ≤ 255
