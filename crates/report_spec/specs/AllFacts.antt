-- Public contracts rest on this module.
-- The facts by which a report is made.
use Rattle.std.specs.Prelude.{List, Contains}
use Rattle.jvm_model.specs.declared.number.MethodNo.{MethodNo}
use Rattle.jvm_model.specs.Programs.{Program}
use Rattle.op_model.specs.Supplies.{GivenAs}
use Rattle.least_sets.specs.Rules.{IsLeast}
use Rattle.points_to_rules.specs.Facts.{Fact}
use Rattle.points_to_rules.specs.Refusals.{IsUnrefused}
use Rattle.points_to_rules.specs.Writes.{AnyInstance}

-- They are the least by all rules of the points-to analysis, with what each method may write, and nothing is refused by them.
pub record AreAllFacts (p : Program) (gives : GivenAs) (entry : MethodNo) (facts : List Fact) : Type 0 where
  pub least : IsLeast (AnyInstance p gives entry) facts
  pub unrefused : IsUnrefused p gives (Contains facts)
