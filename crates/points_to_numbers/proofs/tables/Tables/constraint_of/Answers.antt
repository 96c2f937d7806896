use Rattle.std.proofs.Common.{sym, ap, ◌∙◌}
use Rattle.std.specs.Option.{option_copied}
use Rattle.points_to_numbers.specs.Kept.{kept}
use Rattle.points_to_numbers.proofs.Reading.{constraint_at, has_constraint}
use Rattle.points_to_numbers.proofs.tables.Tables.constraint_of.Goals as goal

pub unwrap-requires : goal.unwrap-requires
unwrap-requires c = c.get_index.ensures.found.1 (has_constraint (kept c.self.inside) c.args.self.now c.self.view_is c.self.invariant c.args.constraint.0 c.requires)

pub returns : goal.returns
returns c = constraint_at (kept c.self.inside) c.args.self.now c.self.view_is c.self.invariant c.args.constraint.0 c.unwrap.result.now (sym c.get_index.ensures.key ∙ ap option_copied c.unwrap.ensures)
