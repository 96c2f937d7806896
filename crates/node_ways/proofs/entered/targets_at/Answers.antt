use Rattle.node_ways.proofs.entered.targets_at.Goals as goal

pub returns-clause-numbers : goal.returns-clause-numbers
returns-clause-numbers c = λ m there. c.well_formed-2.ensures.targets _ m ((c.targets_of.ensures.targets m).0 there)
