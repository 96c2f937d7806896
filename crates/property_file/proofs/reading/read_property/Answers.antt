use Rattle.toml.specs.View.{table_view}
use Rattle.property_file.proofs.Broken.{only_read, sound_read}
use Rattle.property_file.proofs.reading.read_property.Goals as goal

pub returns-in-Ok-clause-sound : goal.returns-in-Ok-clause-sound
returns-in-Ok-clause-sound c = sound_read (table_view c.in-Ok.table) c.automaton_in.result c.automaton_in.ensures.found

pub returns-in-Ok-clause-only : goal.returns-in-Ok-clause-only
returns-in-Ok-clause-only c =
    only_read c.args.bytes.now (table_view c.in-Ok.table) c.automaton_in.result c.in-Ok.ensures.found c.automaton_in.ensures.found c.automaton_in.ensures.refused
