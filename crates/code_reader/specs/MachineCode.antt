-- Public contracts rest on this module.
-- The code that is read beside the body of a Code attribute, in which the machine finds its instructions (JVMS 4.7.3).
use Rattle.std.specs.Prelude.{◌≡◌, ℕ, ◌+◌, length, slice_get, Some, None, Ok}
use Rattle.jvm_model.specs.declared.code.Code.{Code}
use Rattle.jvm_model.specs.declared.code.PlacedInstruction.{PlacedInstruction}
use Rattle.jvm_model.specs.Code.{CodeBody as Body}
use Rattle.jvm_model.specs.Instructions.{DecodedInstruction, instruction_at}
use Rattle.code_reader.specs.CodeReading.{given}

-- Where an instruction of the code that is read stands, the machine reads the same instruction of the body. The next one
-- stands where it ends, and the last one ends with the body's code.
pub record ReadsSame (body : Body) (code : Code) (k : ℕ) (p : PlacedInstruction) : Type 0 where
  pub i : DecodedInstruction
  pub is : instruction_at body.bytes p.offset ≡ Ok i
  pub same : p.instruction ≡ given i
  pub next : (q : PlacedInstruction) → slice_get code.instructions (k + 1) ≡ Some q → q.offset ≡ p.offset + i.size
  pub last : slice_get code.instructions (k + 1) ≡ None → p.offset + i.size ≡ length body.bytes

-- The code that is read has the limits and the handlers of the body; its first instruction stands at 0, and at each one
-- the machine reads the same.
pub record IsCodeOf (body : Body) (code : Code) : Type 0 where
  pub max_stack : code.max_stack ≡ body.max_stack
  pub max_locals : code.max_locals ≡ body.max_locals
  pub handlers : code.handlers ≡ body.handlers
  pub begins : (p : PlacedInstruction) × (slice_get code.instructions 0 ≡ Some p) × (p.offset ≡ 0)
  pub each : (k : ℕ) (p : PlacedInstruction) → slice_get code.instructions k ≡ Some p → ReadsSame body code k p
