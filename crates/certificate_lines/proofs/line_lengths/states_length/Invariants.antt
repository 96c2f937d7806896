use Rattle.std.proofs.Common.{◌≡◌, ◌≤◌, ◌*◌, length, take}
use Rattle.std.specs.List.{flat_map}
use Rattle.certificate_lines.specs.LineTexts.{next_word}
use Rattle.certificate_lines.proofs.line_lengths.states_length.Given as goal

-- the states so far are counted
abbrev pub invariant-loop-state : goal.invariant-loop-state
invariant-loop-state l = record {
  long : l.long ≡ length (flat_map next_word (take l.state-index l.states));
  few : l.long ≤ 11 * l.state-index;
}
