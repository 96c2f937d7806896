use Rattle.toml.specs.View.{table_view}
use Rattle.stub_file.specs.ClassParts.{SpellsClassHead, SpellsClassLists}
use Rattle.toml_tables.proofs.Finding.{Finds-none}
use Rattle.stub_file.proofs.ClassParts.{lists_of, lists_spelled, head_of, head_spelled}
use Rattle.stub_file.proofs.class_table.class_in.Goals as goal

pub returns-in_default : goal.returns-in_default
returns-in_default c = λ class spelled.
    let members = table_view c.args.table.now in
    Finds-none (SpellsClassHead members) c.in_ok-head.field-0 c.in_default.is c.in_ok-head.ensures (head_of class) (head_spelled c.args.file.now members class spelled)

pub returns-in_default-2 : goal.returns-in_default-2
returns-in_default-2 c = λ class spelled.
    let members = table_view c.args.table.now in
    Finds-none (SpellsClassLists members) c.in_ok-lists.field-0 c.in_default-2.is c.in_ok-lists.ensures (lists_of class) (lists_spelled c.args.file.now members class spelled)
