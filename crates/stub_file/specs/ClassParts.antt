-- This crate's own proofs alone rest on this module.
-- The two parts in which the table of a class is read, beside the name of its file.
use Rattle.std.specs.Prelude.{codes}
use Rattle.toml.specs.Data.{Members}
use Rattle.toml_tables.specs.Tables.{IsFlagAt, IsTextAt}
use Rattle.stub_file.specs.declared.class_table.ClassHead.{ClassHead}
use Rattle.stub_file.specs.declared.class_table.ClassLists.{ClassLists}
use Rattle.stub_file.specs.StubSpelling.{ListsAt, SpellsField, SpellsMethod, SpellsName, SpellsSuper, SpellsTable, SpellsText}

-- What the table spells beside the lists.
pub record SpellsClassHead (members : Members) (h : ClassHead) : Type 0 where
  pub name : IsTextAt (codes "name") members h.name
  pub is_interface : IsFlagAt (codes "interface") members h.is_interface
  pub is_patch : IsFlagAt (codes "patch") members h.is_patch
  pub super_class : SpellsSuper members h.is_patch h.super_class

-- The lists of the table.
pub record SpellsClassLists (members : Members) (l : ClassLists) : Type 0 where
  pub interfaces : ListsAt (codes "interfaces") (SpellsText SpellsName) members l.interfaces
  pub methods : ListsAt (codes "method") (SpellsTable SpellsMethod) members l.methods
  pub fields : ListsAt (codes "field") (SpellsTable SpellsField) members l.fields
