use Rattle.std.proofs.Common.{codes}
use Rattle.toml.specs.View.{table_view}
use Rattle.stub_file.specs.StubSpelling.{ListsAt, SpellsName, SpellsText}
use Rattle.toml_tables.proofs.Finding.{Finds-none}
use Rattle.stub_file.proofs.member_table.method_in.Goals as goal

pub returns-in_default-4 : goal.returns-in_default-4
returns-in_default-4 c = λ m spelled.
    let members = table_view c.args.table.now in
    Finds-none (ListsAt (codes "throws") (SpellsText SpellsName) members) c.in_ok-throws.field-0 c.in_default-4.is c.in_ok-throws.ensures m.throws spelled.throws
