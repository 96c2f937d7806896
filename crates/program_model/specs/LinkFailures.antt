-- Public contracts rest on this module.
-- Why linking gives no program.
use Rattle.std.specs.Prelude.{ℕ, List, ◌≡◌}
use Rattle.failure.specs.declared.Failure.{Failure}
use Rattle.failure.specs.declared.Failure.TheVariants.{Cause, OutOfMemory}
use Rattle.jvm_model.specs.declared.reason.Reason.{Reason}
use Rattle.program_model.specs.declared.link_failure.LinkFault.{LinkFault}
use Rattle.program_model.specs.declared.link_failure.LinkFault.TheVariants.{Refused, TooMany}

-- The refusal of a file at an offset, or out of memory.
abbrev pub IsLinkRefusal : List ℕ → ℕ → Reason → Failure LinkFault → Type 0
IsLinkRefusal file offset reason (Cause (Refused refusal)) = refusal ≡ record { file = file; offset = offset; reason = reason }
IsLinkRefusal file offset reason (Cause TooMany) = ⊥
IsLinkRefusal file offset reason OutOfMemory = Unit {0}
