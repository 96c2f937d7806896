-- Public contracts rest on this module.
-- The text of a certificate, and when it is too large.
use Rattle.std.specs.Prelude.{◌<◌, ℕ, List, length}
use Rattle.std.specs.List.{flat_map}
use Rattle.failure.specs.declared.Failure.{Failure}
use Rattle.failure.specs.declared.Failure.TheVariants as failures
use Rattle.certificate_lines.specs.declared.line.Line.{Line}
use Rattle.certificate_lines.specs.LineTexts.{line_text}
use Rattle.certificates.specs.declared.fault.CertificateFault.{CertificateFault}
use Rattle.certificates.specs.declared.fault.CertificateFault.TheVariants.{TooLarge}

-- The lines, one after another.
abbrev pub text : List Line → List ℕ
text lines = flat_map line_text lines

-- A certificate has at most so many bytes.
abbrev pub most_bytes : ℕ
most_bytes = 1073741824

-- Why lines are not written: their text is over the limit, or memory ran out.
abbrev pub IsWriteEnd : List Line → Failure CertificateFault → Type 0
IsWriteEnd lines (failures.Cause TooLarge) = most_bytes < length (text lines)
IsWriteEnd lines failures.OutOfMemory = Unit {0}
