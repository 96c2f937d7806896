use Rattle.std.proofs.Common.{◌≡◌, ◌≤◌, ◌*◌, length, take}
use Rattle.site_report.specs.Printed.{printed}
use Rattle.certificate_lines.proofs.word_lengths.name_length.Given as goal

-- the bytes so far are counted
abbrev pub invariant-loop-byte : goal.invariant-loop-byte
invariant-loop-byte l = record {
  long : l.long ≡ length (printed (take l.byte-index l.name));
  few : l.long ≤ 4 * l.byte-index;
}
