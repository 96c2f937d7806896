-- This crate's own proofs alone rest on this module.
-- The methods that lines list as reached, and those of them that are given as nodes.
use Rattle.std.specs.Prelude.{◌≡◌, ◌∷◌, [], ◌++◌, List, Option, Some, None, Ok, Contains}
use Rattle.jvm_model.specs.declared.number.MethodNo.{MethodNo}
use Rattle.op_model.specs.declared.lowered.LoweredMethod.{LoweredMethod}
use Rattle.op_model.specs.Supplies.{GivenAs}
use Rattle.slot_names.specs.KeptNames.{name_table}
use Rattle.slot_names.specs.Tables.{AreNames}
use Rattle.points_to_rules.specs.declared.running_method.RunningMethod.{RunningMethod}
use Rattle.ground.specs.declared.lists.FieldWrite.{FieldWrite}
use Rattle.ground.specs.Lists.{HaveDifferentNumbers, number_of}
use Rattle.certificate_lines.specs.declared.line.Line.{Line}
use Rattle.certificate_lines.specs.declared.line.Line.TheVariants as lines

-- The line lists the method as reached.
abbrev pub IsReachedBy : Line → MethodNo → Type 0
IsReachedBy x m = x ≡ lines.Reached m

-- The line lists that the method may write the field.
abbrev pub IsWriteOf : Line → FieldWrite → Type 0
IsWriteOf x w = x ≡ lines.Modifies w.method w.field

-- What the method of a number is given as, if it is given as nodes.
abbrev pub IsGivenAs : GivenAs → MethodNo → Option LoweredMethod → Type 0
IsGivenAs gives m None = (l : LoweredMethod) → gives m.0 (Ok l) → ⊥
IsGivenAs gives m (Some l) = gives m.0 (Ok l) × ((k : LoweredMethod) → gives m.0 (Ok k) → k ≡ l)

-- The methods are those of the numbers that are given as nodes, each once, with the variables of their slots.
pub record AreGivenOf (gives : GivenAs) (numbers : List MethodNo) (methods : List RunningMethod) : Type 0 where
  pub only : (r : RunningMethod) → Contains methods r → Contains numbers (number_of r) × gives (number_of r).0 (Ok r.method)
  pub all : (m : MethodNo) (l : LoweredMethod) → Contains numbers m → gives m.0 (Ok l) → (r : RunningMethod) × Contains methods r × (r.method ≡ l)
  pub named : (r : RunningMethod) → Contains methods r → AreNames r.method (name_table r.names)
  pub apart : HaveDifferentNumbers methods

-- One more method is listed, with the variables of its slots.
pub record IsListedLast (l : LoweredMethod) (old new : List RunningMethod) : Type 0 where
  pub listed : RunningMethod
  pub is : listed.method ≡ l
  pub named : AreNames listed.method (name_table listed.names)
  pub added : new ≡ old ++ listed ∷ []
