use Rattle.std.proofs.Common.{◌∙◌, sym, subst}
use Rattle.std.proofs.lemmas.Bool.{false≢true}
use Rattle.op_model.specs.declared.node.Node.{Node}
use Rattle.ground_views.specs.Views.{HasFewArguments}
use Rattle.ground_views.proofs.Seen.{node_here, too_large}
use Rattle.ground_views.proofs.method_ways.ways_of_node.Goals as goal

pub returns-then-not-has_few_arguments-clause-end : goal.returns-then-not-has_few_arguments-clause-end
returns-then-not-has_few_arguments-clause-end c =
    too_large c.args.ground.now c.args.at c.node.result.now c.node.ensures (λ few. false≢true (sym c.if-not-has_few_arguments.true ∙ c.has_few_arguments.ensures.1 few))

pub returns-clause-are : goal.returns-clause-are
returns-clause-are c = λ l n method node. record {
  few =
      subst (λ (o : Node). HasFewArguments o) (node_here c.args.ground.now c.args.at c.node.result.now c.node.ensures l n method node)
      (c.has_few_arguments.ensures.0 c.if-not-has_few_arguments.false);
  each = λ x program. c.in_ok-ways_at.ensures x l n program method node;
}
