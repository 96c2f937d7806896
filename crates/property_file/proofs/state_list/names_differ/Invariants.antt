use Rattle.std.proofs.Common.{◌≡◌, drop}
use Rattle.std.specs.Str.{bytes_eq}
use Rattle.jvm_model.specs.Automata.{all_differ}
use Rattle.property_file.proofs.state_list.names_differ.Given as goal

-- what is left differs exactly where all do
abbrev pub invariant-loop-place : goal.invariant-loop-place
invariant-loop-place l = all_differ bytes_eq (drop l.place l.names) ≡ all_differ bytes_eq l.names
