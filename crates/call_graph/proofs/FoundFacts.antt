-- The facts that were found, by the sets of their items.
use Rattle.std.proofs.Common.{◌≡◌, ◌↔◌, List, refl, sym, ◌∙◌, ap, subst}
use Rattle.std.specs.List.{slice_get, Contains}
use Rattle.jvm_model.specs.declared.number.FieldNo.{FieldNo}
use Rattle.jvm_model.specs.declared.number.MethodNo.{MethodNo}
use Rattle.jvm_model.specs.declared.site.Site.{Site}
use Rattle.least_sets.proofs.Places.{place_of, contains_at}
use Rattle.op_model.specs.declared.node.NodeRef.{NodeRef}
use Rattle.points_to.specs.Solutions.{AreFactsOf}
use Rattle.points_to.proofs.ItemPlaces.{holding, running, calling, zip_back, rule_is}
use Rattle.points_to.proofs.PairedFacts.{known_there, fact_there}
use Rattle.points_to_constraints.specs.Items.{Item as RuleItem, known}
use Rattle.points_to_constraints.proofs.Holders.{zip_place}
use Rattle.points_to_rules.specs.Facts.{Holder, Fact, may_hold, may_run, may_call, may_write}
use Rattle.points_to_numbers.specs.declared.item.Item.{Item}
use Rattle.points_to_numbers.specs.declared.item.Item.TheVariants.{Holds, Runs, Calls, Constrains}
use Rattle.points_to_numbers.specs.Numbered.{Numbered}
use Rattle.points_to_numbers.specs.Steps.{IsItemAt}
use Rattle.ground.specs.declared.lists.Lists.{Lists}
use Rattle.call_graph.specs.declared.sets.Sets.{Sets}
use Rattle.ground.specs.Lists.{IsHeldIn, IsTargetIn, holders_of}
use Rattle.call_graph.specs.Sets.{AreSetsOf}

-- something stands for each item
pub stands_for_each : (n : Numbered) (items : List Item) (found : List Fact) → AreFactsOf n items found → (i : Item) → Contains items i → (x : RuleItem) × IsItemAt n i x
stands_for_each n items found facts i there =
    let (k, at) = place_of items i there in
    let (x, stands, is) = zip_place (IsItemAt n) items facts.0 facts.1 k i at in
    (x, is)

-- no item stands for what a method may write
no_writing : (n : Numbered) (i : Item) (m : MethodNo) (field : FieldNo) → IsItemAt n i (known (may_write m field)) → ⊥
no_writing n (Holds place site) m field (h, s, holder, there, e) = cc
no_writing n (Runs k) m field e = cc
no_writing n (Calls call target) m field (c, at, e) = cc
no_writing n (Constrains place constraint) m field (h, u, holder, there, e) = cc

abbrev pub sets_in : Lists → Sets
sets_in l = record { sites = l.held; running = l.running; calls = l.calls; targets = l.targets }

-- The lists have the sites and the holders of the numbers.
pub record AreNumbered (n : Numbered) (l : Lists) : Type 0 where
  pub sites : l.sites.items ≡ n.sites
  pub holders : holders_of l ≡ n.holders

module _ (n : Numbered) (l : Lists) (are : AreNumbered n l) (items : List Item) (found : List Fact) (facts : AreFactsOf n items found) (sets : AreSetsOf n items (sets_in l)) where
  -- a fact stands among the items
  item_of : (fact : Fact) → Contains found fact → (i : Item) × Contains items i × IsItemAt n i (known fact)
  item_of fact there =
      let among = known_there facts.0 fact (subst (λ (fs : List Fact). Contains fs fact) facts.2 there) in
      let (k, at) = place_of facts.0 (known fact) among in
      let (i, stands, is) = zip_back (IsItemAt n) items facts.0 facts.1 k (known fact) at in
      (i, contains_at items k i stands, is)

  fact_of : (i : Item) (fact : Fact) → Contains items i → IsItemAt n i (known fact) → Contains found fact
  fact_of i fact there is =
      subst (λ (fs : List Fact). Contains fs fact) (sym facts.2) (fact_there facts.0 fact (rule_is n items facts.0 facts.1 i (known fact) there is))

  pub found_holds : (h : Holder) (s : Site) → Contains found (may_hold h s) ↔ IsHeldIn l h s
  found_holds h s = (
    λ there.
        let (i, among, is) = item_of (may_hold h s) there in
        let x = holding n i h s is in (
          x.place.0,
          x.site,
          ap (λ (hs : List Holder). slice_get hs x.place.0) are.holders ∙ x.holder,
          ap (λ (ss : List Site). slice_get ss x.site.0) are.sites ∙ x.of_site,
          (sets.holds x.place.0 x.site).1 (subst (λ (j : Item). Contains items j) x.is among),
        ),
    λ (place, site, at_place, at_site, there).
        fact_of (Holds (record { 0 = place }) site) (may_hold h s) ((sets.holds place site).0 there) (
          h,
          s,
          ap (λ (hs : List Holder). slice_get hs place) (sym are.holders) ∙ at_place,
          ap (λ (ss : List Site). slice_get ss site.0) (sym are.sites) ∙ at_site,
          refl,
        ),
  )

  pub found_runs : (m : MethodNo) → Contains found (may_run m) ↔ Contains l.running.keys m
  found_runs m = (
    λ there.
        let (i, among, is) = item_of (may_run m) there in
        (sets.runs m).1 (subst (λ (j : Item). Contains items j) (running n i m is) among),
    λ there. fact_of (Runs m) (may_run m) ((sets.runs m).0 there) refl,
  )

  pub found_calls : (call : NodeRef) (target : MethodNo) → Contains found (may_call call target) ↔ IsTargetIn l call target
  found_calls call target = (
    λ there.
        let (i, among, is) = item_of (may_call call target) there in
        let x = calling n i call target is in
        (sets.targets call target).1 (x.number, x.call, subst (λ (j : Item). Contains items j) x.is among, x.stands, sym x.of_node),
    λ listed.
        let (number, site, there, at, is) = (sets.targets call target).0 listed in
        fact_of (Calls number target) (may_call call target) there (site, at, ap (λ (c : NodeRef). known (may_call c target)) is),
  )

  pub nothing_written : (m : MethodNo) (field : FieldNo) → Contains found (may_write m field) → ⊥
  nothing_written m field there = let (i, among, is) = item_of (may_write m field) there in no_writing n i m field is
