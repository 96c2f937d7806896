use Rattle.std.proofs.Common.{take}
use Rattle.points_to_constraints.specs.Items.{constrained}
use Rattle.points_to_numbers.proofs.Adding.{OfOne}
use Rattle.points_to_numbers.specs.Steps.{Makes}
use Rattle.points_to_methods.specs.Fixed.{holder_of, constraint_by}
use Rattle.points_to_methods.specs.Known.{names_at}
use Rattle.points_to_methods.specs.Slots.{MadeAt}
use Rattle.points_to_methods.proofs.accesses.pass_after.Given as goal

abbrev pub invariant-loop-offset : goal.invariant-loop-offset
invariant-loop-offset l =
    Makes l.fn.work.tables l.work.tables (OfOne (MadeAt l.at.method.now (names_at l.at) (λ to. constrained (holder_of l.outgoing.from) (constraint_by l.outgoing.passing to)) l.target) (take l.offset-index l.offset-items)) l.fn.work.steps.items l.work.steps.items
