use Rattle.std.proofs.Common.{map, refl, ◌∙◌, ap}
use Rattle.ground.specs.declared.lists.Lists.{Lists}
use Rattle.ground.specs.Lists.{holders_of, nodes_of}
use Rattle.ground.proofs.PutInOrder.{facts_before, of_ground}
use Rattle.ground.proofs.Views.{facts_told, holders_are, methods_are, program_is, sites_are}
use Rattle.ground.proofs.ground.Ground.of.Goals as goal

pub invariant_of-result : goal.invariant_of-result
invariant_of-result c = of_ground c.args.lists c.put_in_order.new.lists c.put_in_order.ensures c.args.program.now c.requires

pub returns-clause-program : goal.returns-clause-program
returns-clause-program c = program_is c.args.program.now c.put_in_order.new.lists _ refl

pub returns-clause-methods : goal.returns-clause-methods
returns-clause-methods c =
    methods_are c.args.program.now c.put_in_order.new.lists _ refl ∙ ap (λ (l : Lists). map nodes_of l.methods.items) c.put_in_order.ensures.others

pub returns-clause-sites : goal.returns-clause-sites
returns-clause-sites c = sites_are c.args.program.now c.put_in_order.new.lists _ refl ∙ ap (λ (l : Lists). l.sites.items) c.put_in_order.ensures.others

pub returns-clause-holders : goal.returns-clause-holders
returns-clause-holders c =
    holders_are c.args.program.now c.put_in_order.new.lists _ refl ∙ ap (λ (l : Lists). holders_of l) c.put_in_order.ensures.others

pub returns-clause-facts : goal.returns-clause-facts
returns-clause-facts c = facts_before c.args.lists c.put_in_order.new.lists c.put_in_order.ensures _ (facts_told c.args.program.now c.put_in_order.new.lists _ refl)
