-- Public contracts rest on this module.
-- What putting a program together gives.
use Rattle.std.specs.Prelude.{◌≡◌, List, map, Result, Ok, Err}
use Rattle.std.specs.List.{flat_map}
use Rattle.jvm_model.specs.declared.program.Origin.{Origin}
use Rattle.jvm_model.specs.declared.reason.Reason.TheVariants.{Cycle}
use Rattle.jvm_model.specs.Linking.{AreMet, IsFirstUnmet, cycle_claim, program_from}
use Rattle.jvm_model.specs.Programs.{Program}
use Rattle.program_index.specs.Limits.{AreTooMany}
use Rattle.program_model.specs.Declarations.{method_declarations, field_declarations}
use Rattle.program_model.specs.LinkFailures.{IsLinkRefusal}
use Rattle.program_model.specs.MemberLists.{AreTooManyMembers}
use Rattle.failure.specs.declared.Failure.{Failure}
use Rattle.program_model.specs.declared.link_failure.LinkFault.{LinkFault}
use Rattle.failure.specs.declared.Failure.TheVariants.{Cause, OutOfMemory}
use Rattle.program_model.specs.declared.link_failure.LinkFault.TheVariants.{Refused, TooMany}

-- There are 2^32 - 1 classes or more; or so many methods, or different texts of methods; or so it is of fields.
pub data IsTooLarge (order : List Origin) : Type 0 where
  in_classes : AreTooMany order → IsTooLarge order
  in_methods : AreTooManyMembers (flat_map method_declarations order) → IsTooLarge order
  in_fields : AreTooManyMembers (flat_map field_declarations order) → IsTooLarge order

-- The program of the classes, of which none is above itself; or the first one that is; or there is too much to number.
abbrev pub Assembles : List Origin → Result Program (Failure LinkFault) → Type 0
Assembles order (Ok p) = (p ≡ program_from order) × AreMet (program_from order) (map cycle_claim order)
Assembles order (Err (Cause (Refused refusal))) = IsFirstUnmet (program_from order) refusal (map cycle_claim order)
Assembles order (Err (Cause TooMany)) = IsTooLarge order
Assembles order (Err OutOfMemory) = Unit {0}

-- The class is reported to be above itself.
abbrev pub IsCycleFailure : Origin → Failure LinkFault → Type 0
IsCycleFailure o end = let c = cycle_claim o in IsLinkRefusal c.file c.offset Cycle end
