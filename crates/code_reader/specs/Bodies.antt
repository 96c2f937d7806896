-- Only the proofs of this crate rest on this module.
-- What the code answers on the body of a Code attribute.
use Rattle.std.specs.Prelude.{◌≡◌, ℕ, List, Result, Ok, Err}
use Rattle.jvm_model.specs.declared.code.Code.{Code}
use Rattle.jvm_model.specs.declared.pool.PoolEntry.{PoolEntry}
use Rattle.failure.specs.declared.Failure.{Failure}
use Rattle.jvm_model.specs.declared.reason.Fault.{Fault}
use Rattle.failure.specs.declared.Failure.TheVariants.{Cause, OutOfMemory}
use Rattle.byte_reader.specs.Reading.{Place}
use Rattle.code_reader.specs.declared.body.Head.{Head as ReadHead}
use Rattle.code_reader.specs.CodeReading.{Head, cut_of_code, ReadsBody}

-- What was read before the handlers.
abbrev pub head_view : ReadHead → Head
head_view h = record { max_stack = h.max_stack; max_locals = h.max_locals; at = h.at; bytes = h.bytes.now }

-- The failure names a cut as one of the code, and any other fault as it is.
abbrev pub IsInCode : Failure Fault → Failure Fault → Type 0
IsInCode OutOfMemory told = told ≡ OutOfMemory
IsInCode (Cause fault) told = told ≡ Cause (record { offset = fault.offset; reason = cut_of_code fault.reason })

-- The answer is what the body gives, or out of memory.
abbrev pub TellsBody : List PoolEntry → ℕ → Place → Result Code (Failure Fault) → Type 0
TellsBody pool parameters place (Ok code) = ReadsBody pool parameters place (Ok code)
TellsBody pool parameters place (Err OutOfMemory) = Unit {0}
TellsBody pool parameters place (Err (Cause fault)) = ReadsBody pool parameters place (Err fault)
