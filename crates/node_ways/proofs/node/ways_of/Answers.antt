use Rattle.node_ways.proofs.node.ways_of.Goals as goal

pub returns : goal.returns
returns c = λ x l same are. record {
  raised = c.in_ok-raised_landings.ensures x l same are;
  called = c.in_ok-called_methods.ensures x same;
  described = c.in_ok-described_targets.ensures x same;
  started = c.in_ok-started_methods.ensures x same;
}
