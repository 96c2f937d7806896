-- Public contracts rest on this module.
-- What the solver answers: items that stand for the least sets, with the methods that may run.
use Rattle.std.specs.Prelude.{◌≡◌, ℕ, List, Contains}
use Rattle.std.specs.List.{AllZip}
use Rattle.jvm_model.specs.declared.number.MethodNo.{MethodNo}
use Rattle.jvm_model.specs.Programs.{Program}
use Rattle.op_model.specs.Supplies.{GivenAs}
use Rattle.points_to_rules.specs.Facts.{Fact}
use Rattle.points_to_rules.specs.Solutions.{AreRunning, IsSolution}
use Rattle.points_to_constraints.specs.Items.{Item as RuleItem, facts_of}
use Rattle.points_to_numbers.specs.declared.item.Item.{Item}
use Rattle.points_to_numbers.specs.Numbered.{Numbered}
use Rattle.points_to_numbers.specs.Steps.{IsItemAt}
use Rattle.points_to.specs.declared.solution.Solution.{Solution}
use Rattle.points_to.specs.Queues.{items_of}

-- The facts among the items that the numbers stand for.
abbrev pub AreFactsOf : Numbered → List Item → List Fact → Type 0
AreFactsOf n items facts = (xs : List RuleItem) × AllZip (IsItemAt n) items xs × (facts ≡ facts_of xs)

-- The solution's items stand for the least facts.
pub record IsSolved (p : Program) (gives : GivenAs) (entry : MethodNo) (limit : ℕ) (s : Solution) : Type 0 where
  pub facts : List Fact
  pub of : AreFactsOf s.tables (items_of s.items) facts
  pub solution : IsSolution p gives entry limit facts
  pub running : AreRunning gives (Contains facts) s.methods.items
