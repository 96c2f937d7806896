use Rattle.std.proofs.Common.{sym, ap, ◌∙◌}
use Rattle.std.specs.Option.{option_copied}
use Rattle.points_to_numbers.specs.Kept.{kept}
use Rattle.points_to_numbers.proofs.Reading.{holder_at, has_holder}
use Rattle.points_to_numbers.proofs.tables.Tables.place_of.Goals as goal

pub unwrap-requires : goal.unwrap-requires
unwrap-requires c = c.get_index.ensures.found.1 (has_holder (kept c.self.inside) c.args.self.now c.self.view_is c.self.invariant c.args.place.0 c.requires)

pub returns : goal.returns
returns c = holder_at (kept c.self.inside) c.args.self.now c.self.view_is c.self.invariant c.args.place.0 c.unwrap.result.now (sym c.get_index.ensures.key ∙ ap option_copied c.unwrap.ensures)
