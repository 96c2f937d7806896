use Rattle.edge_steps.specs.declared.conclusions.EnteredWith.{EnteredWith}
use Rattle.edge_steps.specs.Steps.{begun}
use Rattle.edge_checker.specs.Conditions.{HasEdge}
use Rattle.edge_checker.proofs.Leasts.{all_more, all_none, all_whole}
use Rattle.edge_checker.proofs.following.are_begun.Goals as goal

pub loop-one-init : goal.loop-one-init
loop-one-init c = all_none (λ (b : EnteredWith). HasEdge c.args.listed.now (begun b)) c.args.entered.now

pub loop-one-preserved : goal.loop-one-preserved
loop-one-preserved c =
    all_more (λ (b : EnteredWith). HasEdge c.args.listed.now (begun b)) c.args.entered.now c.loop-one.one-index c.one-item.result c.loop-one-test.true c.one-item.is
    (c.is_begun.ensures.0 c.if-not-is_begun.false) c.loop-one.invariant

pub returns : goal.returns
returns c = record {
  each =
      all_whole (λ (b : EnteredWith). HasEdge c.args.listed.now (begun b)) c.args.entered.now c.loop-one.one-index c.loop-one-test.false c.loop-one.invariant;
}
