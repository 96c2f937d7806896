use Rattle.std.proofs.Common.{sym, ap, ◌∙◌}
use Rattle.std.specs.Option.{option_copied}
use Rattle.points_to_numbers.specs.Kept.{kept}
use Rattle.points_to_numbers.proofs.Reading.{names_are, copied_some}
use Rattle.points_to_numbers.proofs.tables.Tables.name_of.Goals as goal

pub unwrap-requires : goal.unwrap-requires
unwrap-requires c = copied_some c.text.result c.requires.0 (c.text.ensures ∙ names_are (kept c.self.inside) c.args.self.now c.self.view_is c.args.class.0 ∙ c.requires.1)

pub returns : goal.returns
returns c = sym (names_are (kept c.self.inside) c.args.self.now c.self.view_is c.args.class.0) ∙ sym c.text.ensures ∙ ap option_copied c.unwrap.ensures
