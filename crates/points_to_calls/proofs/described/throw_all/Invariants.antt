use Rattle.std.proofs.Common.{◌≡◌, Some, take}
use Rattle.std.specs.List.{slice_get}
use Rattle.points_to_constraints.specs.Items.{CallSite}
use Rattle.points_to_numbers.proofs.Adding.{OfOne}
use Rattle.points_to_calls.specs.Parts.{ClassThrown}
use Rattle.points_to_numbers.specs.Steps.{Makes}
use Rattle.points_to_calls.proofs.described.throw_all.Given as goal

abbrev pub invariant-loop-class : goal.invariant-loop-class
invariant-loop-class l =
    (site : CallSite) → slice_get l.fn.work.tables.calls l.call.0 ≡ Some site
    → Makes l.fn.work.tables l.work.tables (OfOne (ClassThrown l.program site) (take l.class-index l.stub.throws)) l.fn.work.steps.items l.work.steps.items
