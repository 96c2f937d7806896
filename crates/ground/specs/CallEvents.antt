-- Public contracts rest on this module.
-- Events by their numbers in an automaton.
use Rattle.std.specs.Prelude.{ℕ, Bool, ◌&&◌, List, Option, None, position, if◌then◌else◌}
use Rattle.std.specs.Str.{bytes_eq}
use Rattle.jvm_model.specs.declared.automaton.Automaton.{Automaton}
use Rattle.jvm_model.specs.declared.automaton.Event.{Event}
use Rattle.jvm_model.specs.Lookups.{Signature}
use Rattle.machine_nodes.specs.NodeSteps.{is_selecting_kind}
use Rattle.op_model.specs.declared.op.Call.{Call as NodeCall}

-- The event is that of calls of the name and the descriptor.
abbrev pub is_event_of : Signature → Event → Bool
is_event_of s e = bytes_eq e.name s.name && bytes_eq e.descriptor s.descriptor

-- The number of the first event of calls of the name and the descriptor.
abbrev pub event_number : List Event → Signature → Option ℕ
event_number events s = position (is_event_of s) events

-- The number of the event that a call is, if it selects by its object.
abbrev pub call_event : Automaton → NodeCall → Option ℕ
call_event a c = if is_selecting_kind c.kind then event_number a.events (record { name = c.name; descriptor = c.descriptor }) else None
