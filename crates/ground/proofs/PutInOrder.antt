-- Lists that are put in order tell the same.
use Rattle.std.proofs.Common.{◌≡◌, List, sym, subst}
use Rattle.jvm_model.specs.Programs.{Program}
use Rattle.grouped_lists.specs.Ordered.{AreOrdered as GroupsAreOrdered}
use Rattle.points_to_rules.specs.Facts.{Fact}
use Rattle.ground.specs.declared.lists.Lists.{Lists}
use Rattle.ground.specs.Lists.{HasFacts}
use Rattle.ground.specs.Ordered.{AreOfGround, ArePutInOrder}
use Rattle.ground.specs.Sound.{AreSound}
use Rattle.ground.proofs.AscendingNumbers.{method_cmp, methods_ascend, site_cmp, sites_ascend}
use Rattle.ground.proofs.ExactKeys.{same_methods, same_sites, tells_methods, tells_sites}

-- groups that are put in order, in lists that are otherwise the same
pub are_put : (old new : Lists) → new ≡ record old { held = new.held; targets = new.targets }
    → GroupsAreOrdered same_sites site_cmp old.held.groups.items new.held.groups.items
    → GroupsAreOrdered same_methods method_cmp old.targets.groups.items new.targets.groups.items → ArePutInOrder old new
are_put old new others held targets = record {
  ordered = record {
    held = λ place. sites_ascend _ (held.each place).ascend;
    targets = λ call. methods_ascend _ (targets.each call).ascend;
  };
  held = λ place site. (held.each place).same tells_sites.exact site;
  targets = λ call m. (targets.each call).same tells_methods.exact m;
  others = others;
}

module _ (old new : Lists) (put : ArePutInOrder old new) where
  -- the other lists are the same
  abbrev Mixed : Lists
  Mixed = record old { held = new.held; targets = new.targets }

  sound_mixed : (p : Program) → AreSound p old → AreSound p Mixed
  sound_mixed p sound = record {
    methods = sound.methods;
    names = sound.names;
    numbered = sound.numbered;
    apart = sound.apart;
    places = sound.places;
    places_apart = sound.places_apart;
    held = λ place site there. sound.held place site ((put.held place site).0 there);
    called = λ number call at.
        let (target, there) = sound.called number call at in
        (target, (put.targets number target).1 there);
    targets = λ call target there. sound.targets call target ((put.targets call target).0 there);
    few = sound.few;
  }

  pub of_ground : (p : Program) → AreSound p old → AreOfGround p new
  of_ground p sound = record { sound = subst (λ (l : Lists). AreSound p l) (sym put.others) (sound_mixed p sound); ordered = put.ordered }

  -- the facts are the same
  facts_mixed : (facts : List Fact) → HasFacts Mixed facts → HasFacts old facts
  facts_mixed facts has = record {
    holds = λ h s. (
      λ there. let (place, site, at_place, at_site, among) = (has.holds h s).0 there in (place, site, at_place, at_site, (put.held place site).0 among),
      λ (place, site, at_place, at_site, among). (has.holds h s).1 (place, site, at_place, at_site, (put.held place site).1 among),
    );
    runs = has.runs;
    calls = λ call target. (
      λ there. let (number, at, among) = (has.calls call target).0 there in (number, at, (put.targets number target).0 among),
      λ (number, at, among). (has.calls call target).1 (number, at, (put.targets number target).1 among),
    );
    writes = has.writes;
  }

  pub facts_before : (facts : List Fact) → HasFacts new facts → HasFacts old facts
  facts_before facts has = facts_mixed facts (subst (λ (l : Lists). HasFacts l facts) put.others has)
