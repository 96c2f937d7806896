use Rattle.points_to_numbers.proofs.Adding.{OfOneBelow}
use Rattle.points_to_numbers.specs.Steps.{Makes}
use Rattle.points_to_methods.specs.Known.{names_at}
use Rattle.points_to_methods.specs.Slots.{PassesSlot}
use Rattle.points_to_methods.proofs.handlers.handle_at.Given as goal

abbrev pub invariant-loop-slot : goal.invariant-loop-slot
invariant-loop-slot l =
    Makes l.fn.work.tables l.work.tables (OfOneBelow (λ z. PassesSlot (names_at l.at) l.node z l.next z) l.slot) l.fn.work.steps.items l.work.steps.items
