use Rattle.std.proofs.Common.{◌≡◌, List, take}
use Rattle.std.specs.List.{AllZip}
use Rattle.toml.specs.Data.{Members}
use Rattle.toml.specs.View.{items_view}
use Rattle.toml_tables.specs.Documents.{tables}
use Rattle.stub_file.specs.StubFile.{GivesClass}
use Rattle.stub_file.proofs.reader.classes_of.Given as goal

-- the classes of the tables so far
abbrev pub invariant-loop-number : goal.invariant-loop-number
invariant-loop-number l = (class_tables : List Members) → items_view l.values ≡ tables class_tables → AllZip (GivesClass l.file) (take l.number class_tables) l.classes.items
