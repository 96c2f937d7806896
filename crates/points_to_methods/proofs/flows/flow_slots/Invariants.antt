use Rattle.points_to_numbers.proofs.Adding.{OfOneBelow}
use Rattle.points_to_numbers.specs.Steps.{Makes}
use Rattle.points_to_methods.specs.Known.{names_at}
use Rattle.points_to_methods.specs.Slots.{PassesBy}
use Rattle.slot_names.specs.Variables.{effect_on}
use Rattle.points_to_methods.proofs.flows.flow_slots.Given as goal

abbrev pub invariant-loop-slot : goal.invariant-loop-slot
invariant-loop-slot l =
    Makes l.fn.work.tables l.work.tables (OfOneBelow (λ z. PassesBy (names_at l.at) l.node l.next z (effect_on z l.op)) l.slot) l.fn.work.steps.items l.work.steps.items
