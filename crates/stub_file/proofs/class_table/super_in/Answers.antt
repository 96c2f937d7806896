use Rattle.std.proofs.Common.{codes, ◌≡◌, ℕ, List, Option, Some, None, option_map, ap, ◌∙◌}
use Rattle.toml.specs.Data.{string, get_member}
use Rattle.toml.specs.View.{table_view}
use Rattle.toml_tables.proofs.Finding.{Finds-none, Finds-some}
use Rattle.stub_file.proofs.SuperClass.{no_super, SpellsSuper-by_default}
use Rattle.stub_file.proofs.class_table.super_in.Goals as goal

pub returns-in_default : goal.returns-in_default
returns-in_default c = λ x.
    let members = table_view c.args.table.now in
    no_super members c.args.is_patch x
    (Finds-none (λ (found : Option (List ℕ)). get_member (codes "super") members ≡ option_map string found) c.in_ok-named.field-0 c.in_default.is c.in_ok-named.ensures)

pub returns-in_ok-bytes_of-in-None-2 : goal.returns-in_ok-bytes_of-in-None-2
returns-in_ok-bytes_of-in-None-2 c =
    let members = table_view c.args.table.now in
    let none = Finds-some (λ (found : Option (List ℕ)). get_member (codes "super") members ≡ option_map string found) c.in_ok-named.field-0 None (c.in-Some.is ∙ ap Some c.in-None-2.is) c.in_ok-named.ensures in
    SpellsSuper-by_default members c.args.is_patch c.in_ok-bytes_of-in-None-2.field-0 c.if-is_patch.false none c.in_ok-bytes_of-in-None-2.ensures
