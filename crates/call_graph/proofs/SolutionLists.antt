-- The lists of a solution are those of the program.
use Rattle.std.proofs.Common.{◌≡◌, ℕ, ◌<◌, ◌^◌, List, length, map, Some, sym, ◌∙◌, ap, subst}
use Rattle.std.specs.List.{slice_get, Contains}
use Rattle.jvm_model.specs.declared.number.SiteNo.{SiteNo}
use Rattle.jvm_model.specs.declared.site.Site.{Site}
use Rattle.jvm_model.specs.Programs.{Program}
use Rattle.least_sets.specs.Rules.{IsWithoutDoubles}
use Rattle.points_to.specs.Solutions.{AreFactsOf}
use Rattle.points_to_constraints.specs.Items.{Item as RuleItem}
use Rattle.points_to_rules.specs.declared.place.Place.{Place}
use Rattle.points_to_rules.specs.declared.running_method.RunningMethod.{RunningMethod}
use Rattle.points_to_rules.specs.Facts.{Fact, Holder}
use Rattle.points_to_rules.specs.Places.{IsHolderIn, holder_from}
use Rattle.points_to_rules.specs.WholeMethods.{IsWholeMethod}
use Rattle.points_to_numbers.specs.declared.item.Item.{Item}
use Rattle.points_to_numbers.specs.declared.item.Item.TheVariants.{Holds}
use Rattle.points_to_numbers.specs.Numbered.{Numbered, AreApart}
use Rattle.points_to_numbers.specs.Steps.{IsItemAt}
use Rattle.slot_names.specs.KeptNames.{name_table}
use Rattle.slot_names.specs.Tables.{AreNames}
use Rattle.ground.specs.declared.lists.Lists.{Lists}
use Rattle.ground.specs.Lists.{number_of}
use Rattle.ground.specs.Sound.{AreSound}
use Rattle.call_graph.specs.declared.sets.Sets.{Sets}
use Rattle.call_graph.specs.Grounds.{HaveTargets}
use Rattle.call_graph.specs.Sets.{AreSetsOf}
use Rattle.call_graph.proofs.FoundFacts.{AreNumbered, found_calls, sets_in, stands_for_each}

-- the lists have the sites and the holders of the tables
pub numbered_as : (n : Numbered) (l : Lists) → l.sites.items ≡ n.sites → map (holder_from n.sites) l.places.keys ≡ n.holders → AreNumbered n l
numbered_as n l sites holders = record {
  sites = sites;
  holders = subst (λ (ss : List Site). map (holder_from ss) l.places.keys ≡ n.holders) (sym sites) holders;
}

-- and the sets that were found
pub sets_same : (l : Lists) (s : Sets) → l.held ≡ s.sites → l.running ≡ s.running → l.calls ≡ s.calls → l.targets ≡ s.targets → sets_in l ≡ s
sets_same l s held running calls targets = (λ i. record { sites = held i; running = running i; calls = calls i; targets = targets i })

-- a site that is held has a number
held_site : (n : Numbered) (place : ℕ) (site : SiteNo) (x : RuleItem) → IsItemAt n (Holds (record { 0 = place }) site) x → (s : Site) × (slice_get n.sites site.0 ≡ Some s)
held_site n place site x (h, s, holder, there, e) = (s, there)

module _ (p : Program) (n : Numbered) (l : Lists) (are : AreNumbered n l) (items : List Item) (found : List Fact) (facts : AreFactsOf n items found) (sets : AreSetsOf n items (sets_in l)) where
  pub are_sound : ((m : RunningMethod) → Contains l.methods.items m → IsWholeMethod p m.method.method.0 m.method)
      → ((m : RunningMethod) → Contains l.methods.items m → AreNames m.method (name_table m.names)) → l.numbers.keys ≡ map number_of l.methods.items → AreApart n
      → ((number : ℕ) (place : Place) → slice_get l.places.keys number ≡ Some place → (h : Holder) × IsHolderIn n.sites place h)
      → HaveTargets p found → IsWithoutDoubles l.places.keys → length l.places.keys < 2 ^ 32 → AreSound p l
  are_sound methods names numbered apart stand targets places_apart few = record {
    methods = methods;
    names = names;
    numbered = numbered;
    apart = subst (λ (ss : List Site). IsWithoutDoubles ss) (sym are.sites) apart.sites;
    places = λ number place at.
        let (h, stands) = stand number place at in
        (h, subst (λ (ss : List Site). IsHolderIn ss place h) (sym are.sites) stands);
    places_apart = places_apart;
    held = λ place site there.
        let item = (sets.holds place site).0 there in
        let (x, is) = stands_for_each n items found facts (Holds (record { 0 = place }) site) item in
        let (s, at) = held_site n place site x is in
        (s, ap (λ (ss : List Site). slice_get ss site.0) are.sites ∙ at);
    called = sets.called;
    targets = λ number target there.
        let (call, stands) = sets.listed number target there in
        targets.each call target ((found_calls n l are items found facts sets call target).1 (number, stands, there));
    few = few;
  }
