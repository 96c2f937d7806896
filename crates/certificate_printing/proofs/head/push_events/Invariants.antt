use Rattle.std.proofs.Common.{◌≡◌, ◌++◌, map, take}
use Rattle.certificate_lines.specs.declared.line.Line.TheVariants as lines
use Rattle.certificate_printing.proofs.head.push_events.Given as goal

abbrev pub invariant-loop-event : goal.invariant-loop-event
invariant-loop-event l = record { pushed : l.lines.items ≡ l.initial.lines.items ++ map lines.Event (take l.event-index l.events) }
