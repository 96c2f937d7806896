use Rattle.std.proofs.Common.{◌≡◌, Option, Some, take}
use Rattle.std.specs.List.{slice_get}
use Rattle.jvm_model.specs.declared.site.Site.{Site}
use Rattle.points_to_constraints.specs.Items.{CallSite}
use Rattle.points_to_numbers.proofs.Adding.{OfOne}
use Rattle.points_to_calls.specs.Describing.{IsReceiverAt}
use Rattle.points_to_calls.specs.Parts.{ResultGot}
use Rattle.points_to_numbers.specs.Steps.{Makes}
use Rattle.points_to_calls.proofs.described.give_all.Given as goal

abbrev pub invariant-loop-outcome : goal.invariant-loop-outcome
invariant-loop-outcome l =
    (site : CallSite) (r : Option Site) → slice_get l.fn.work.tables.calls l.call.0 ≡ Some site → IsReceiverAt l.fn.work.tables l.description.receiver r
    → Makes l.fn.work.tables l.work.tables (OfOne (ResultGot l.program site l.description.stub.now r) (take l.outcome-index l.description.stub.now.returns)) l.fn.work.steps.items l.work.steps.items
