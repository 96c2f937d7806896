-- Only the proofs of this crate rest on this module.
-- What reading an instruction answers, beside what the standard says of it.
use Rattle.std.specs.Prelude.{◌≡◌, Result, Ok, Err}
use Rattle.jvm_model.specs.declared.reason.Reason.{Reason}
use Rattle.jvm_model.specs.Instructions.{DecodedInstruction}
use Rattle.failure.specs.declared.Failure.{Failure}
use Rattle.failure.specs.declared.Failure.TheVariants.{Cause, OutOfMemory}

-- The answer is what the standard says, or out of memory.
abbrev pub GivesInstruction : Result DecodedInstruction (Failure Reason) → Result DecodedInstruction Reason → Type 0
GivesInstruction (Ok i) read = read ≡ Ok i
GivesInstruction (Err OutOfMemory) read = Unit {0}
GivesInstruction (Err (Cause reason)) read = read ≡ Err reason
