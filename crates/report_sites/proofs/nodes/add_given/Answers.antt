use Rattle.std.proofs.lemmas.Result.{on_ok_weaker}
use Rattle.report_sites.proofs.FoundSites.{listed_targets}
use Rattle.report_sites.proofs.nodes.add_given.Goals as goal
use Rattle.points_to_rules.specs.Rules.{node_of}

pub add_each_target-requires-clause-targets : goal.add_each_target-requires-clause-targets
add_each_target-requires-clause-targets c = λ m among. c.requires.targets (node_of c.args.method c.args.node.now) m ((c.targets_of-targets.ensures.targets m).0 among)

pub returns : goal.returns
returns c =
    on_ok_weaker c.add_each_target.result
    (λ added. listed_targets c.args.wanted.now.program.now c.args.ground.now c.args.wanted.now.upper c.args.method c.args.node.now c.targets_of-targets.result.now
    c.targets_of-targets.ensures.targets
    c.args.sites.now.items c.add_each_target.new.sites.items added)
    c.add_each_target.ensures
