use Rattle.points_to_numbers.specs.Kept.{kept}
use Rattle.points_to_numbers.proofs.KnownPlaces.{holders_kept, places_stand}
use Rattle.points_to_numbers.proofs.tables.Tables.into_places.Goals as goal

pub returns-clause-holders : goal.returns-clause-holders
returns-clause-holders c = holders_kept (kept c.self.inside) c.args.self c.self.view_is

pub returns-clause-stand : goal.returns-clause-stand
returns-clause-stand c = λ number place at. places_stand (kept c.self.inside) c.args.self c.self.view_is c.self.invariant number place at

pub returns-clause-few : goal.returns-clause-few
returns-clause-few c = c.self.invariant.few.places

pub returns-clause-apart : goal.returns-clause-apart
returns-clause-apart c = c.self.invariant.places_apart
