-- Public contracts rest on this module.
-- Reading the code of a method (JVMS 4.7.3): the code, or its first fault.
use Rattle.std.specs.Prelude.{◌≡◌, ℕ, ◌+◌, ◌||◌, ◌==◌, nat_lt, List, [], ◌∷◌, length, map, sum_by, slice_get, Option, Some, None, Result, Ok, Err, if◌then◌else◌}
use Rattle.std.specs.Int.{w16, w32}
use Rattle.jvm_model.specs.declared.access.AccessFlag.TheVariants.{Static}
use Rattle.jvm_model.specs.declared.class_file.Attribute.{Attribute}
use Rattle.jvm_model.specs.declared.class_file.ClassFile.{ClassFile}
use Rattle.jvm_model.specs.declared.class_file.Member.{Member}
use Rattle.jvm_model.specs.declared.code.Code.{Code}
use Rattle.jvm_model.specs.declared.code.Handler.{Handler}
use Rattle.jvm_model.specs.declared.code.Instruction.{Instruction as Given}
use Rattle.jvm_model.specs.declared.code.PlacedInstruction.{PlacedInstruction}
use Rattle.jvm_model.specs.declared.descriptor.Kind.{Kind}
use Rattle.jvm_model.specs.declared.pool.PoolEntry.{PoolEntry}
use Rattle.failure.specs.declared.Failure.{Failure}
use Rattle.jvm_model.specs.declared.reason.Fault.{Fault}
use Rattle.failure.specs.declared.Failure.TheVariants.{Cause, OutOfMemory}
use Rattle.jvm_model.specs.declared.reason.Reason.{Reason}
use Rattle.jvm_model.specs.declared.reason.Reason.TheVariants.{Truncated, CodeCut, BadHandler}
use Rattle.jvm_model.specs.Access.{has_flag}
use Rattle.jvm_model.specs.DescriptorValues.{kind_units, IsMethodOf}
use Rattle.jvm_model.specs.Instructions.{DecodedInstruction}
use Rattle.jvm_model.specs.Layout.{HasFirstCode, IsCodePlace}
use Rattle.jvm_model.specs.Lookups.{Signature, text_at}
use Rattle.jvm_model.specs.Programs.{is_class_initialiser}
use Rattle.byte_reader.specs.Reading.{Place, ◌>>=◌, fault_at, number_at, bytes_at, table_at}
use Rattle.byte_reader.specs.Structures.{attribute_at}
use Rattle.code_reader.specs.Division.{Spot, Divides, fault_of, first_fault, is_handler}

-- ---- the parameters

-- The parameters of a method descriptor take so many units; what is none takes none.
pub data TakesUnits (text : List ℕ) (units : ℕ) : Type 0 where
  by_kinds : (kinds : List Kind) (outcome : Option Kind) → IsMethodOf text kinds outcome → units ≡ sum_by kind_units kinds → TakesUnits text units
  no_method : ((kinds : List Kind) (outcome : Option Kind) → IsMethodOf text kinds outcome → ⊥) → units ≡ 0 → TakesUnits text units

-- The receiver takes one unit: in each method that is not static, but for a class's initialiser (JVMS 2.9, 4.6).
abbrev pub receiver_units : Member → Signature → ℕ
receiver_units m s = if has_flag m.flags Static || is_class_initialiser s then 0 else 1

-- The receiver and the parameters of a method take so many local variables.
pub record TakesLocals (pool : List PoolEntry) (m : Member) (units : ℕ) : Type 0 where
  pub name : List ℕ
  pub descriptor : List ℕ
  pub named : text_at pool m.name ≡ Some name
  pub described : text_at pool m.descriptor ≡ Some descriptor
  pub parameters : ℕ
  pub taken : TakesUnits descriptor parameters
  pub units_are : units ≡ receiver_units m (record { name = name; descriptor = descriptor }) + parameters

-- ---- the parts of the body

-- What stands before the handlers: two limits, and the code, with the file offset of its first byte.
pub record Head : Type 0 where
  pub max_stack : ℕ
  pub max_locals : ℕ
  pub at : ℕ
  pub bytes : List ℕ

-- The length of the code: 1 to 65,535 (JVMS 4.7.3).
unfoldable pub code_length_at : Place → Result (ℕ × Place) Fault
code_length_at place = do
  long ← number_at w32 place
  if long.0 == 0 || nat_lt 65535 long.0 then fault_at place CodeCut else Ok long

unfoldable pub head_at : Place → Result (Head × Place) Fault
head_at place = do
  max_stack ← number_at w16 place
  max_locals ← number_at w16 max_stack.1
  long ← code_length_at max_locals.1
  bytes ← bytes_at long.0 long.1
  Ok (record { max_stack = max_stack.0; max_locals = max_locals.0; at = long.1.offset; bytes = bytes.0 }, bytes.1)

-- A handler that was read, before a place, if it is one of code that is so long and is divided so; and else a fault where
-- it begins.
abbrev pub judged : List PoolEntry → ℕ → List Spot → Place → Handler × Place → Result (Handler × Place) Fault
judged pool long spots start read = if is_handler pool long spots read.0 then Ok read else fault_at start BadHandler

unfoldable pub handler_at : List PoolEntry → ℕ → List Spot → Place → Result (Handler × Place) Fault
handler_at pool long spots place = do
  start ← number_at w16 place
  finish ← number_at w16 start.1
  target ← number_at w16 finish.1
  catch_type ← number_at w16 target.1
  judged pool long spots place (record { start = start.0; finish = finish.0; target = target.0; catch_type = catch_type.0 }, catch_type.1)

-- The handlers, and the attributes of the code, which are not looked into; then the body ends.
unfoldable pub tail_at : List PoolEntry → ℕ → List Spot → Place → Result (List Handler) Fault
tail_at pool long spots place = do
  handlers ← table_at (handler_at pool long spots) place
  attributes ← table_at attribute_at handlers.1
  if length attributes.1.rest == 0 then Ok handlers.0 else fault_at attributes.1 CodeCut

-- A field that is cut off by the end of the body is reported as a cut of the code.
abbrev pub cut_of_code : Reason → Reason
cut_of_code Truncated = CodeCut
cut_of_code reason = reason

abbrev pub in_code : Fault → Fault
in_code f = record { offset = f.offset; reason = cut_of_code f.reason }

-- ---- the whole

-- The targets of an instruction, those in the code.
abbrev pub known_targets : List (Option ℕ) → List ℕ
known_targets [] = []
known_targets (None ∷ targets) = known_targets targets
known_targets (Some offset ∷ targets) = offset ∷ known_targets targets

-- An instruction as it is given.
abbrev pub given : DecodedInstruction → Given
given i = record { opcode = i.opcode; operand = i.operand; dimensions = i.dimensions; targets = known_targets i.targets }

abbrev pub placed : Spot → PlacedInstruction
placed s = record { offset = s.offset; instruction = given s.instruction }

-- The body at a place begins with this code, whose instructions are these.
pub record BeginsWith (pool : List PoolEntry) (place : Place) (head : Head) (after : Place) (spots : List Spot) (stop : Option (ℕ × Reason)) : Type 0 where
  pub begins : head_at place ≡ Ok (head, after)
  pub divided : Divides pool head.bytes stop 0 spots

-- What is wrong with the instructions of a method whose parameters take so many local variables.
abbrev pub code_fault : List PoolEntry → ℕ → Head → List Spot → Option (ℕ × Reason) → Option (ℕ × Reason)
code_fault pool parameters head spots stop = first_fault (fault_of pool (record { limit = head.max_locals; parameters = parameters }) spots stop) stop spots

-- What the body of a Code attribute gives, in a method whose parameters take so many local variables: its first fault,
-- which is a cut before the code's end, or one of an instruction, or of what follows; or the code.
pub data ReadsBody (pool : List PoolEntry) (parameters : ℕ) (place : Place) (outcome : Result Code Fault) : Type 0 where
  cut_before : (f : Fault) → head_at place ≡ Err f → outcome ≡ Err (in_code f) → ReadsBody pool parameters place outcome
  wrong_code : (head : Head) (after : Place) (spots : List Spot) (stop : Option (ℕ × Reason)) (offset : ℕ) (reason : Reason)
      → BeginsWith pool place head after spots stop → code_fault pool parameters head spots stop ≡ Some (offset, reason)
      → outcome ≡ Err (record { offset = head.at + offset; reason = reason }) → ReadsBody pool parameters place outcome
  wrong_after : (head : Head) (after : Place) (spots : List Spot) (stop : Option (ℕ × Reason)) (f : Fault)
      → BeginsWith pool place head after spots stop → code_fault pool parameters head spots stop ≡ None
      → tail_at pool (length head.bytes) spots after ≡ Err f → outcome ≡ Err (in_code f) → ReadsBody pool parameters place outcome
  reads : (head : Head) (after : Place) (spots : List Spot) (stop : Option (ℕ × Reason)) (handlers : List Handler)
      → BeginsWith pool place head after spots stop → code_fault pool parameters head spots stop ≡ None
      → tail_at pool (length head.bytes) spots after ≡ Ok handlers
      → outcome ≡ Ok (record { at = head.at; instructions = map placed spots; handlers = handlers; max_stack = head.max_stack; max_locals = head.max_locals })
      → ReadsBody pool parameters place outcome

-- What the first Code attribute of a method of a class gives.
pub record ReadsCode (c : ClassFile) (method : ℕ) (outcome : Result Code Fault) : Type 0 where
  pub owner : Member
  pub there : slice_get c.methods method ≡ Some owner
  pub code : Attribute
  pub first : HasFirstCode c.pool owner.attributes code
  pub place : ℕ
  pub is_place : IsCodePlace c method place
  pub parameters : ℕ
  pub taken : TakesLocals c.pool owner parameters
  pub body : ReadsBody c.pool parameters (record { offset = place; rest = code.body }) outcome

-- An answer is what the code gives, or out of memory.
abbrev pub TellsCode : ClassFile → ℕ → Result Code (Failure Fault) → Type 0
TellsCode c method (Ok code) = ReadsCode c method (Ok code)
TellsCode c method (Err OutOfMemory) = Unit {0}
TellsCode c method (Err (Cause fault)) = ReadsCode c method (Err fault)
