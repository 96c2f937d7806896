use Rattle.toml.specs.View.{table_view}
use Rattle.stub_file.proofs.Whole.{read_only}
use Rattle.stub_file.proofs.reader.read_stubs.Goals as goal

pub returns-in-Ok-clause-only : goal.returns-in-Ok-clause-only
returns-in-Ok-clause-only c =
    read_only c.args.file.now c.args.bytes.now (table_view c.in-Ok.table) c.classes_in.result c.in-Ok.ensures.found c.classes_in.ensures.found c.classes_in.ensures.refused
