use Rattle.std.proofs.Common.{◌≡◌, Some}
use Rattle.std.specs.List.{slice_get}
use Rattle.points_to_constraints.specs.Items.{CallSite}
use Rattle.points_to_numbers.proofs.Adding.{OfOneBelow}
use Rattle.points_to_calls.specs.Parts.{PassesUnit}
use Rattle.points_to_numbers.specs.Steps.{Makes}
use Rattle.points_to_calls.proofs.targets.pass_units.Given as goal

abbrev pub invariant-loop-unit : goal.invariant-loop-unit
invariant-loop-unit l =
    (site : CallSite) → slice_get l.fn.work.tables.calls l.call.0 ≡ Some site
    → Makes l.fn.work.tables l.work.tables (OfOneBelow (PassesUnit site l.target) l.unit) l.fn.work.steps.items l.work.steps.items
