-- Public contracts rest on this module.
-- What facts have to be so that what they say of a program holds of its executions, whoever found them.
use Rattle.std.specs.Prelude.{List, Contains}
use Rattle.machine_bytecode.specs.Objects.{Subject}
use Rattle.lowering_supply.specs.Supplied.{IsSupplied}
use Rattle.least_sets.specs.Rules.{IsClosedSet}
use Rattle.points_to_rules.specs.Facts.{Fact}
use Rattle.points_to_rules.specs.Refusals.{IsUnrefused}
use Rattle.points_to_rules.specs.Writes.{AnyInstance}

-- The facts have all that the rules of the points-to analysis conclude from them, also of what methods write, and nothing that may run by them is refused.
-- They may be more than the least ones.
pub record AreClosedFacts (x : Subject) (facts : List Fact) : Type 0 where
  pub closed : IsClosedSet (AnyInstance x.program (IsSupplied x.program) (record { 0 = x.entry })) (Contains facts)
  pub unrefused : IsUnrefused x.program (IsSupplied x.program) (Contains facts)
