use Rattle.node_ways.proofs.Throwing.{none_thrown, slot_thrown}
use Rattle.node_ways.proofs.node.thrown_sites.Goals as goal

pub returns-in-Some-clause-sites : goal.returns-in-Some-clause-sites
returns-in-Some-clause-sites c = λ l stands.
    slot_thrown c.args.ground.now c.args.at l c.args.node.now stands c.requires.node c.in-Some.slot c.in-Some.ensures c.sites_of_slot.result.now c.sites_of_slot.ensures.holder c.sites_of_slot.ensures.sites

pub returns-in-None-clause-sites : goal.returns-in-None-clause-sites
returns-in-None-clause-sites c = λ l stands. none_thrown c.args.ground.now l c.args.node.now c.in-None.ensures
