use Rattle.std.proofs.Common.{subst, List}
use Rattle.std.specs.List.{Contains}
use Rattle.certificate_lines.specs.declared.line.Line.{Line}
use Rattle.certificate_lines.specs.declared.line.Line.TheVariants.{Reached}
use Rattle.certificate_ground.specs.Lists.{AreListsOf}
use Rattle.certificate_ground.proofs.ListedFacts.{are_sound, is_listed_ground}
use Rattle.certificate_ground.proofs.Ranged.{reached_within}
use Rattle.certificate_ground.proofs.building.certificate_ground.Goals as goal

pub lists_of-requires-clause-within : goal.lists_of-requires-clause-within
lists_of-requires-clause-within g c = λ m there.
    reached_within _ c.args.certificate.now c.requires.certificate m (subst (λ (all : List Line). Contains all (Reached m)) c.lines.ensures there)

pub of-requires : goal.of-requires
of-requires g c =
    are_sound c.args.program.now (g.S.Supply.gives c.args.supply.now) c.args.entry c.lines.result.now c.in_ok-lists.lists c.in_ok-lists.ensures.lists c.requires.supply c.requires.entry

pub returns-clause-ground : goal.returns-clause-ground
returns-clause-ground g c =
    let gives = g.S.Supply.gives c.args.supply.now in
    let are = subst (λ (all : List Line). AreListsOf c.args.program.now gives c.args.entry all c.in_ok-lists.lists) c.lines.ensures c.in_ok-lists.ensures.lists in
    is_listed_ground c.args.program.now gives c.args.entry c.args.certificate.now c.in_ok-lists.lists are c.requires.supply c.requires.entry c.of.result c.of.ensures.program
    c.of.ensures.methods c.of.ensures.sites c.of.ensures.facts
