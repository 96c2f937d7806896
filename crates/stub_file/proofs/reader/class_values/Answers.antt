use Rattle.std.proofs.Common.{sym, ◌∙◌}
use Rattle.std.proofs.lemmas.Bool.{false≢true}
use Rattle.toml.specs.View.{items_view}
use Rattle.toml_tables.specs.Documents.{tables}
use Rattle.toml_tables.proofs.Values.{array_same}
use Rattle.stub_file.proofs.Whole.{each_is_table, AreTables-from_each}
use Rattle.stub_file.proofs.reader.class_values.Goals as goal

pub returns-then-are_tables : goal.returns-then-are_tables
returns-then-are_tables c = record {
  class = c.in_ok-values.ensures;
  each = AreTables-from_each c.in_ok-values.values.now (c.are_tables.ensures.0 c.if-are_tables.true);
}

pub returns-else-are_tables : goal.returns-else-are_tables
returns-else-are_tables c = λ ts e.
    let values = c.in_ok-values.values.now in
    false≢true (sym c.if-are_tables.false ∙ c.are_tables.ensures.1 (each_is_table values ts (array_same _ (items_view values) (tables ts) c.in_ok-values.ensures e)))
