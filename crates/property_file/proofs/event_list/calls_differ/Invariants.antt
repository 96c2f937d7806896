use Rattle.std.proofs.Common.{◌≡◌, drop}
use Rattle.jvm_model.specs.Automata.{all_differ, is_same_call}
use Rattle.property_file.proofs.event_list.calls_differ.Given as goal

-- what is left differs exactly where all do
abbrev pub invariant-loop-place : goal.invariant-loop-place
invariant-loop-place l = all_differ is_same_call (drop l.place l.events) ≡ all_differ is_same_call l.events
