use Rattle.std.proofs.Common.{◌∙◌, ◌<◌, List, length, map, sym, ap, subst}
use Rattle.std.specs.List.{Contains}
use Rattle.points_to_rules.specs.declared.place.Place.TheVariants.{Variable}
use Rattle.points_to_rules.specs.declared.running_method.RunningMethod.{RunningMethod}
use Rattle.jvm_model.specs.declared.site.Site.{Site}
use Rattle.ground.specs.Lists.{HaveDifferentNumbers, number_of}
use Rattle.certificate_ground.specs.Lists.{IsTarget}
use Rattle.certificate_ground.specs.Pairs.{ArePairs}
use Rattle.certificate_ground.proofs.HeldPairs.{held_within}
use Rattle.certificate_ground.proofs.building.lists_of.Goals as goal

pub numbers_of-requires : goal.numbers_of-requires
numbers_of-requires g c = subst (λ (methods : List RunningMethod). HaveDifferentNumbers methods) (sym c.deref.ensures.value) c.in_ok-reached.ensures.given.apart

pub targets_of-requires-clause-whole : goal.targets_of-requires-clause-whole
targets_of-requires-clause-whole g c = λ r there.
    let listed = subst (λ (methods : List RunningMethod). Contains methods r) c.deref-3.ensures.value there in
    c.requires.supply.methods (number_of r).0 r.method (c.in_ok-reached.ensures.given.only r listed).1

pub targets_of-requires-clause-names : goal.targets_of-requires-clause-names
targets_of-requires-clause-names g c = λ r there.
    c.in_ok-reached.ensures.given.named r (subst (λ (methods : List RunningMethod). Contains methods r) c.deref-3.ensures.value there)

pub targets_of-requires-clause-held : goal.targets_of-requires-clause-held
targets_of-requires-clause-held g c = λ v site pair.
    let sets = c.in_ok-sets.sets in
    subst (λ (sites : List Site). site.0 < length sites) (sym c.deref-2.ensures.value)
    (held_within sets.sites.items c.args.lines.now sets.held.places.keys sets.held.sites.groups.items c.in_ok-sets.ensures.pairs (Variable v) site pair)

pub returns-clause-lists : goal.returns-clause-lists
returns-clause-lists g c =
    let p = c.args.program.now in
    let reached = c.in_ok-reached.reached in
    let sets = c.in_ok-sets.sets in
    let targets = c.in_ok-targets.targets in
    record {
      running = c.in_ok-reached.ensures.running;
      given = c.in_ok-reached.ensures.given;
      numbered = c.in_ok-numbers.ensures ∙ ap (λ (methods : List RunningMethod). map number_of methods) c.deref.ensures.value;
      sets = c.in_ok-sets.ensures;
      targets = subst (λ (methods : List RunningMethod). ArePairs (IsTarget p sets.sites.items sets.held c.args.entry methods) targets.calls.keys targets.targets.groups.items)
          c.deref-3.ensures.value
          (subst (λ (sites : List Site). ArePairs (IsTarget p sites sets.held c.args.entry c.deref-3.result.now) targets.calls.keys targets.targets.groups.items) c.deref-2.ensures.value
          c.in_ok-targets.ensures);
    }
