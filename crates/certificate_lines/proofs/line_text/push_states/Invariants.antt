use Rattle.std.proofs.Common.{◌≡◌, ◌++◌, take}
use Rattle.std.specs.List.{flat_map}
use Rattle.certificate_lines.specs.LineTexts.{next_word}
use Rattle.certificate_lines.proofs.line_text.push_states.Given as goal

abbrev pub invariant-loop-state : goal.invariant-loop-state
invariant-loop-state l = l.text.items ≡ l.initial.text.items ++ flat_map next_word (take l.state-index l.states)
