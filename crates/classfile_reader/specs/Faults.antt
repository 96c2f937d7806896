-- Public contracts rest on this module.
-- Why a class file is refused, and at which offset.
use Rattle.std.specs.Prelude.{◌≡◌, ℕ, List, Some, Err}
use Rattle.jvm_model.specs.declared.class_file.ClassFile.{ClassFile}
use Rattle.failure.specs.declared.Failure.{Failure}
use Rattle.jvm_model.specs.declared.reason.Fault.{Fault}
use Rattle.failure.specs.declared.Failure.TheVariants.{Cause, OutOfMemory}
use Rattle.jvm_model.specs.declared.reason.Reason.{Reason}
use Rattle.jvm_model.specs.Soundness.{places_of}
use Rattle.classfile_reader.specs.ClassReading.{class_of, SpellsReadable}
use Rattle.classfile_reader.specs.FirstPlace.{IsFirstBreach}

-- The fault is the first one of the spelling; or the bytes are spelled as a class file, and it is the first place of it
-- of which the use does not hold.
pub data IsFaulty (bytes : List ℕ) (offset : ℕ) (reason : Reason) : Type 0 where
  by_spelling : class_of bytes ≡ Err (record { offset = offset; reason = reason }) → IsFaulty bytes offset reason
  by_use : (c : ClassFile) → SpellsReadable bytes c → IsFirstBreach c.pool (places_of c) (Some (offset, reason)) → IsFaulty bytes offset reason

-- A failure is such a fault, or out of memory.
abbrev pub IsClassFileRefusal : List ℕ → Failure Fault → Type 0
IsClassFileRefusal bytes OutOfMemory = Unit {0}
IsClassFileRefusal bytes (Cause fault) = IsFaulty bytes fault.offset fault.reason
