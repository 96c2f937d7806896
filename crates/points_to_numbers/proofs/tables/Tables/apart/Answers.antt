use Rattle.points_to_numbers.specs.Kept.{kept}
use Rattle.points_to_numbers.proofs.Apart.{apart_by}
use Rattle.points_to_numbers.proofs.tables.Tables.apart.Goals as goal

pub returns : goal.returns
returns c = apart_by (kept c.self.inside) c.args.self.now c.self.view_is c.self.invariant (λ name i j at_i at_j. c.len.ensures.distinct.one_place i j name at_i at_j)
