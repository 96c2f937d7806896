use Rattle.stage_facts.specs.Plain.{fact_of}
use Rattle.edge_steps.specs.declared.conclusions.Conclusion.{Conclusion}
use Rattle.edge_steps.specs.Steps.{within}
use Rattle.edge_checker.specs.Conditions.{HasEdge}
use Rattle.edge_checker.proofs.Leasts.{all_more, all_none, all_whole}
use Rattle.edge_checker.proofs.following.are_listed.Goals as goal

pub loop-conclusion-init : goal.loop-conclusion-init
loop-conclusion-init c = all_none (λ (d : Conclusion). HasEdge c.args.listed.now (within c.args.a.now.edge.method (fact_of c.args.a.now.edge.entry) d)) c.args.conclusions.now

pub loop-conclusion-preserved : goal.loop-conclusion-preserved
loop-conclusion-preserved c =
    all_more (λ (d : Conclusion). HasEdge c.args.listed.now (within c.args.a.now.edge.method (fact_of c.args.a.now.edge.entry) d)) c.args.conclusions.now
    c.loop-conclusion.conclusion-index c.conclusion-item.result c.loop-conclusion-test.true c.conclusion-item.is
    (c.is_conclusion_listed.ensures.0 c.if-not-is_conclusion_listed.false) c.loop-conclusion.invariant

pub returns : goal.returns
returns c = record {
  each =
      all_whole (λ (d : Conclusion). HasEdge c.args.listed.now (within c.args.a.now.edge.method (fact_of c.args.a.now.edge.entry) d)) c.args.conclusions.now
      c.loop-conclusion.conclusion-index c.loop-conclusion-test.false c.loop-conclusion.invariant;
}
