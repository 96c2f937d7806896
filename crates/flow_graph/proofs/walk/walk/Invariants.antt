use Rattle.std.proofs.Common.{◌≡◌, length, List}
use Rattle.flow_graph.specs.declared.mark.Mark.{Mark}
use Rattle.flow_graph.specs.Draining.{AreUncaught}
use Rattle.flow_graph.specs.Walking.{AreAwaited}
use Rattle.flow_graph.specs.Walks.{Walk}
use Rattle.flow_graph.proofs.Walked.{unwalked}
use Rattle.flow_graph.proofs.walk.walk.Given as goal

abbrev pub decreases-loop-number : goal.decreases-loop-number
decreases-loop-number l = unwalked l.marks

abbrev pub invariant-loop-number : goal.invariant-loop-number
invariant-loop-number l =
    (length l.marks ≡ length l.code.instructions)
    × AreAwaited l.awaited l.marks
    × AreUncaught l.code l.uncaught.levels.items l.marks
    × ((end : List Mark) → Walk l.code l.effects l.marks end → Walk l.code l.effects l.initial.marks end)
