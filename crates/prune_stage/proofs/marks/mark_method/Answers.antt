use Rattle.std.proofs.Common.{◌≤◌, length, sym, ◌∙◌, arith}
use Rattle.std.proofs.lemmas.Bool.{false≢true}
use Rattle.prune_stage.specs.Marks.{NodeMarks}
use Rattle.prune_stage.proofs.Marking.{marked_below_more, marked_below_start}
use Rattle.prune_stage.proofs.MarkedCalls.{method_marked, no_run}
use Rattle.prune_stage.proofs.marks.mark_method.Goals as goal

pub returns-then-not-may_run : goal.returns-then-not-may_run
returns-then-not-may_run g c =
    no_run c.args.automaton.now c.args.ground.now (g.M.Marking.stands c.args.marking.now) c.args.method c.method-lowered.result.now c.method-lowered.ensures
    (λ runs. false≢true (sym c.if-not-may_run.true ∙ c.may_run.ensures.1 runs)) c.args.sets.now

pub loop-node-init : goal.loop-node-init
loop-node-init g c = record {
  marked = marked_below_start (NodeMarks c.args.automaton.now c.args.ground.now (g.M.Marking.stands c.args.marking.now) c.args.method) c.args.sets.now;
}

pub mark_node-requires-clause-there : goal.mark_node-requires-clause-there
mark_node-requires-clause-there g c = record {
  lowered = c.method-lowered.result.now;
  stands = c.method-lowered.ensures;
  within = omega arith;
}

pub loop-node-preserved : goal.loop-node-preserved
loop-node-preserved g c = record {
  marked = marked_below_more (NodeMarks c.args.automaton.now c.args.ground.now (g.M.Marking.stands c.args.marking.now) c.args.method) c.loop-node.node
      c.args.sets.now c.loop-node.sets c.mark_node.new.sets c.loop-node.invariant.marked c.mark_node.ensures;
}

pub returns : goal.returns
returns g c =
    let l = c.method-lowered.result.now in
    let past : length l.nodes ≤ c.loop-node.node = omega arith in
    method_marked c.args.automaton.now c.args.ground.now (g.M.Marking.stands c.args.marking.now) c.args.method l c.method-lowered.ensures
    (c.may_run.ensures.0 c.if-not-may_run.false) c.loop-node.node past c.args.sets.now c.loop-node.sets c.loop-node.invariant.marked
