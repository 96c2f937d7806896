use Rattle.std.proofs.Common.{ap, ◌∙◌, List, drop, ◌+◌}
use Rattle.flow_graph.specs.declared.mark.Mark.{Mark}
use Rattle.flow_graph.specs.Walks.{reached, at_each}
use Rattle.flow_graph.proofs.Loops.{each_more}
use Rattle.flow_graph.proofs.walk.reach_each.Goals as goal

pub loop-offset-preserved : goal.loop-offset-preserved
loop-offset-preserved c =
    let i = c.loop-offset.offset-index in
    let change = reached c.args.height in
    ap (λ (marks : List Mark). at_each change c.args.instructions.now marks (drop (i + 1) c.args.offsets.now)) c.reach_at.ensures
    ∙ each_more change c.args.instructions.now c.loop-offset.marks c.args.offsets.now i c.loop-offset-test.true ∙ c.loop-offset.invariant
