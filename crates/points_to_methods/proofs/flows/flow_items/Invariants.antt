use Rattle.std.proofs.Common.{ℕ, take}
use Rattle.points_to_numbers.proofs.Adding.{OfOne}
use Rattle.points_to_numbers.specs.Steps.{Makes}
use Rattle.points_to_methods.specs.Known.{names_at}
use Rattle.points_to_methods.specs.Slots.{FlowsTo}
use Rattle.points_to_methods.proofs.flows.flow_items.Given as goal

abbrev pub invariant-loop-offset : goal.invariant-loop-offset
invariant-loop-offset l =
    Makes l.fn.work.tables l.work.tables (OfOne (λ (offset : ℕ). FlowsTo l.at.method.now (names_at l.at) l.from.op l.node offset) (take l.offset-index l.offset-items)) l.fn.work.steps.items l.work.steps.items
