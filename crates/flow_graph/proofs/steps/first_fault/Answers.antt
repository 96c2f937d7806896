use Rattle.std.proofs.Common.{sym, ◌∙◌, arith}
use Rattle.flow_graph.specs.Walks.{unreached}
use Rattle.flow_graph.proofs.Loops.{fault_more}
use Rattle.flow_graph.proofs.steps.first_fault.Goals as goal

pub loop-number-preserved : goal.loop-number-preserved
loop-number-preserved c =
    c.loop-number.invariant
    ∙ fault_more c.args.instructions.now c.args.marks.now c.loop-number.number unreached c.loop-number-test.true (omega (arith, c.requires, c.loop-number-test.true)) (sym c.reason_at.ensures ∙ c.in_default.is)
