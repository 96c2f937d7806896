use Rattle.std.proofs.Common.{codes, sym, ◌∙◌}
use Rattle.toml.specs.View.{table_view}
use Rattle.property_file.proofs.Parts.{NamesState-unique}
use Rattle.property_file.proofs.reading.error_at.Goals as goal

pub returns-in_default : goal.returns-in_default
returns-in_default c = λ error g. c.in_default.ensures error g.names

pub returns-else-error-initial : goal.returns-else-error-initial
returns-else-error-initial c = λ error g.
    let same = NamesState-unique c.args.states.now (codes "error") (table_view c.args.table.now) error c.in-Some.error c.requires.differ g.names c.in-Some.ensures in
    g.differs (sym c.if-error-initial.false ∙ sym same)
