use Rattle.std.proofs.Common.{codes}
use Rattle.toml.specs.View.{table_view}
use Rattle.stub_file.specs.StubSpelling.{ListsAt, SpellsName, SpellsText}
use Rattle.toml_tables.proofs.Finding.{Finds-none}
use Rattle.stub_file.proofs.class_table.lists_in.Goals as goal

pub returns-in_default : goal.returns-in_default
returns-in_default c = λ lists spelled.
    let members = table_view c.args.table.now in
    Finds-none (ListsAt (codes "interfaces") (SpellsText SpellsName) members) c.in_ok-interfaces.field-0 c.in_default.is c.in_ok-interfaces.ensures lists.interfaces spelled.interfaces
