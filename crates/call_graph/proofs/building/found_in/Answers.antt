use Rattle.std.proofs.Common.{List, map, sym, ◌∙◌, ap, subst}
use Rattle.std.specs.List.{Contains}
use Rattle.points_to_rules.specs.declared.running_method.RunningMethod.{RunningMethod}
use Rattle.points_to.specs.Queues.{items_of}
use Rattle.ground.specs.Lists.{HaveDifferentNumbers, nodes_of, number_of}
use Rattle.call_graph.specs.Written.{AreWrites}
use Rattle.call_graph.proofs.FoundFacts.{stands_for_each}
use Rattle.call_graph.proofs.building.found_in.Goals as goal

pub sets_of-requires : goal.sets_of-requires
sets_of-requires c = λ item there.
    let solution = c.args.solution.now in
    stands_for_each solution.tables (items_of solution.items) c.requires.facts.0 c.requires.facts.1 item there

pub writes_of-requires : goal.writes_of-requires
writes_of-requires c = λ m there. c.requires.methods m (subst (λ (methods : List RunningMethod). Contains methods m) c.deref-2.ensures.value there)

pub returns-clause-writes : goal.returns-clause-writes
returns-clause-writes c =
    let written = λ (methods : List RunningMethod). AreWrites c.args.program.now (map nodes_of methods) c.in_ok-sets.sets c.in_ok-writes.writes.keys in
    subst written c.deref-2.ensures.value c.in_ok-writes.ensures

pub numbers_of-requires : goal.numbers_of-requires
numbers_of-requires c = subst (λ (methods : List RunningMethod). HaveDifferentNumbers methods) (sym c.deref.ensures.value) c.requires.apart

pub returns-clause-numbers : goal.returns-clause-numbers
returns-clause-numbers c = c.in_ok-numbers.ensures ∙ ap (λ (methods : List RunningMethod). map number_of methods) c.deref.ensures.value
