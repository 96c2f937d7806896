-- Public contracts rest on this module.
-- What keeps a linked program and its indexes together.
use Rattle.std.specs.Prelude.{◌≡◌, ◌<◌, ◌^◌, length, All}
use Rattle.jvm_model.specs.LinkedPrograms.{IsProgram}
use Rattle.jvm_model.specs.Linking.{names, program_from}
use Rattle.program_index.specs.AboveLists.{AreAboveLists, AreSortedAbove}
use Rattle.program_index.specs.Supertypes.{AreInRange}
use Rattle.program_index.specs.UpwardOrder.{HasOrder}
use Rattle.program_model.specs.ByteOrder.{IsAscending}
use Rattle.program_model.specs.Declarations.{method_declarations, field_declarations}
use Rattle.program_model.specs.MemberLists.{IsTable}
use Rattle.program_model.specs.Numbering.{AreParents}
use Rattle.program_model.specs.Origins.{IsSoundOrigin}
use Rattle.program_model.specs.declared.program.Program.TheInside.{Inside}

-- The indexes are those of the program of the classes.
pub record IsWhole (w : Inside) : Type 0 where
  pub sound : All IsSoundOrigin w.origins.items
  pub program : IsProgram (program_from w.origins.items)
  pub few : length w.names.items < 2 ^ 32
  pub ascending : IsAscending w.names.items
  pub names_are : w.names.items ≡ names w.origins.items
  pub parents_are : AreParents w.origins.items w.parents.items
  pub in_range : AreInRange w.parents.items
  pub ordered : HasOrder w.parents.items
  pub lists_are : AreAboveLists w.parents.items w.above.items
  pub sorted_are : AreSortedAbove w.parents.items w.sorted.items
  pub methods_are : IsTable method_declarations w.origins.items w.methods
  pub fields_are : IsTable field_declarations w.origins.items w.fields
