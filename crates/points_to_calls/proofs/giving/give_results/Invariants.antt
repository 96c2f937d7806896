use Rattle.std.proofs.Common.{◌≡◌, Some}
use Rattle.std.specs.List.{slice_get}
use Rattle.points_to_constraints.specs.Items.{CallSite as ItemCallSite}
use Rattle.points_to_numbers.proofs.Adding.{OfOneBelow}
use Rattle.points_to_calls.specs.Parts.{RuleOrigin, IsOriginAt, GetsAt}
use Rattle.points_to_numbers.specs.Steps.{Makes}
use Rattle.points_to_calls.proofs.giving.give_results.Given as goal

abbrev pub invariant-loop-number : goal.invariant-loop-number
invariant-loop-number l =
    (site : ItemCallSite) (g : RuleOrigin) → slice_get l.fn.work.tables.calls l.call.0 ≡ Some site → IsOriginAt l.fn.work.tables l.origin g
    → Makes l.fn.work.tables l.work.tables (OfOneBelow (GetsAt l.program site g) l.number) l.fn.work.steps.items l.work.steps.items
