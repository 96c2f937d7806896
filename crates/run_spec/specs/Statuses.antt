-- Public contracts rest on this module.
-- The codes of the statuses.
use Rattle.std.specs.Prelude.{ℕ}
use Rattle.run_spec.specs.declared.status.Status.{Status}
use Rattle.run_spec.specs.declared.status.Status.TheVariants.{AllSafe, SomeUnproved, Refused, RejectedCertificate, ReadFault, WriteFault, Usage, Memory}

-- The number that the program ends with.
abbrev pub code_of : Status → ℕ
code_of AllSafe = 0
code_of SomeUnproved = 1
code_of Refused = 2
code_of RejectedCertificate = 3
code_of ReadFault = 4
code_of WriteFault = 5
code_of Usage = 6
code_of Memory = 7
