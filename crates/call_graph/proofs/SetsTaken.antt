-- The sets of items, with one item more.
use Rattle.std.proofs.Common.{◌≡◌, ◌⊎◌, ◌↔◌, ℕ, List, [], ◌∷◌, ◌++◌, Some, refl, sym, ◌∙◌, ap, subst, inl, inr}
use Rattle.std.specs.List.{slice_get, Contains}
use Rattle.std.proofs.lemmas.List.Elements.{Contains-append_left, Contains-push, Contains-push_cases}
use Rattle.std.proofs.lemmas.Option.{same_Some}
use Rattle.jvm_model.specs.declared.number.MethodNo.{MethodNo}
use Rattle.jvm_model.specs.declared.number.SiteNo.{SiteNo}
use Rattle.grouped_lists.specs.Groups.{values_at, IsPut}
use Rattle.grouped_lists.specs.declared.groups.Groups.{Groups}
use Rattle.grouped_lists.proofs.PutValues.{put_there, put_keeps, put_cases}
use Rattle.least_sets.specs.Rules.{IsWithoutDoubles}
use Rattle.points_to_constraints.specs.Items.{CallSite}
use Rattle.points_to_numbers.specs.declared.item.Item.{Item}
use Rattle.points_to_numbers.specs.declared.item.Item.TheVariants.{Holds, Runs, Calls, Constrains}
use Rattle.points_to_numbers.specs.declared.keys.CallNo.{CallNo}
use Rattle.points_to_rules.specs.declared.place.PlaceNo.{PlaceNo}
use Rattle.points_to_numbers.specs.declared.keys.ConstraintNo.{ConstraintNo}
use Rattle.points_to_numbers.specs.Numbered.{Numbered}
use Rattle.points_to_numbers.proofs.AddedKeys.{IsAdded}
use Rattle.op_model.specs.declared.node.NodeRef.{NodeRef}
use Rattle.call_graph.specs.declared.sets.Sets.{Sets}
use Rattle.ground.specs.Added.{AreAdded}
use Rattle.call_graph.specs.Sets.{AddsTarget, AreCalled, AreListed, AreSetsOf, IsCalled, IsTarget, TakesItem}

-- ---- a target more

module _ (old new : Sets) (call : NodeRef) (target : MethodNo) (number : ℕ) (calls : IsAdded old.calls.keys new.calls.keys call number) (apart : IsWithoutDoubles new.calls.keys)
    (put : IsPut old.targets.groups.items new.targets.groups.items number target) where
  -- what was a target is one
  target_stays : (key : NodeRef) (m : MethodNo) → IsTarget old key m → IsTarget new key m
  target_stays key m (at, stands, there) = (at, calls.longer at key stands, put_keeps old.targets.groups.items new.targets.groups.items number target put at m there)

  -- a target was one, or is that of the call
  target_cases : AreListed old → (key : NodeRef) (m : MethodNo) → IsTarget new key m → IsTarget old key m ⊎ ((key ≡ call) × (m ≡ target))
  target_cases listed key m (at, stands, there) = elim (put_cases old.targets.groups.items new.targets.groups.items number target put at m there) [
    | inl before ↦
        let (k, stood) = listed at m before in
        let same : k ≡ key = same_Some k key (sym (calls.longer at k stood) ∙ stands) in
        inl (at, stood ∙ ap Some same, before)
    | inr last ↦ inr (same_Some key call (sym stands ∙ ap (λ (k : ℕ). slice_get new.calls.keys k) (sym last.0) ∙ calls.stands), sym last.1)
  ]

  still_listed : AreListed old → AreListed new
  still_listed listed at m there = elim (put_cases old.targets.groups.items new.targets.groups.items number target put at m there) [
    | inl before ↦ (let (k, stood) = listed at m before in (k, calls.longer at k stood))
    | inr last ↦ (call, ap (λ (k : ℕ). slice_get new.calls.keys k) (sym last.0) ∙ calls.stands)
  ]

  still_called : AreCalled old → AreCalled new
  still_called called at key stands = elim (calls.others at key stands) [
    | inl before ↦ (let (m, there) = called at key before in (m, put_keeps old.targets.groups.items new.targets.groups.items number target put at m there))
    | inr same ↦
        let here : number ≡ at = apart call number at calls.stands (stands ∙ ap Some same) in (
          target,
          subst (λ (k : ℕ). Contains (values_at new.targets.groups.items k) target) here (put_there old.targets.groups.items new.targets.groups.items number target put),
        )
  ]

  new_target : (key : NodeRef) (m : MethodNo) → (key ≡ call) × (m ≡ target) → IsTarget new key m
  new_target key m (same_call, same) = (
    number,
    calls.stands ∙ ap Some (sym same_call),
    subst (λ (k : MethodNo). Contains (values_at new.targets.groups.items number) k) (sym same) (put_there old.targets.groups.items new.targets.groups.items number target put),
  )

  pub target_added : new.sites ≡ old.sites → new.running ≡ old.running → AddsTarget call target old new
  target_added sites running = record {
    sites = sites;
    running = running;
    targets = λ listed key m. (target_cases listed key m, λ either. elim either [ inl before ↦ target_stays key m before | inr last ↦ new_target key m last ]);
    listed = still_listed;
    called = still_called;
  }

-- ---- which items are there

-- another item was there before
other_item : (items : List Item) (item x : Item) → (item ≡ x → ⊥) → Contains (items ++ item ∷ []) x → Contains items x
other_item items item x differs there = elim (Contains-push_cases items item x there) [ inl before ↦ before | inr last ↦ absurd (differs last) ]

called_after : (n : Numbered) (items : List Item) (item : Item) (key : NodeRef) (m : MethodNo) → IsCalled n items key m → IsCalled n (items ++ item ∷ []) key m
called_after n items item key m (call, site, there, at, is) = (call, site, Contains-append_left items (item ∷ []) _ there, at, is)

module _ (n : Numbered) (item : Item) (old new : Sets) (items : List Item) (sets : AreSetsOf n items old) where
  -- sites stay where the item is no holding
  sites_stay : ((place : PlaceNo) (site : SiteNo) → item ≡ Holds place site → ⊥) → new.sites ≡ old.sites
      → (place : ℕ) (site : SiteNo) → Contains (values_at new.sites.groups.items place) site ↔ Contains (items ++ item ∷ []) (Holds (record { 0 = place }) site)
  sites_stay none same place site = (
    λ there. Contains-append_left items (item ∷ []) _ ((sets.holds place site).0 (subst (λ (g : Groups SiteNo). Contains (values_at g.groups.items place) site) same there)),
    λ there. subst (λ (g : Groups SiteNo). Contains (values_at g.groups.items place) site) (sym same)
        ((sets.holds place site).1 (other_item items item _ (none (record { 0 = place }) site) there)),
  )

  -- the methods that run stay where it is none of these
  running_stays : ((m : MethodNo) → item ≡ Runs m → ⊥) → new.running.keys ≡ old.running.keys → (m : MethodNo) → Contains new.running.keys m ↔ Contains (items ++ item ∷ []) (Runs m)
  running_stays none same m = (
    λ there. Contains-append_left items (item ∷ []) _ ((sets.runs m).0 (subst (λ (ms : List MethodNo). Contains ms m) same there)),
    λ there. subst (λ (ms : List MethodNo). Contains ms m) (sym same) ((sets.runs m).1 (other_item items item _ (none m) there)),
  )

  -- targets stay where it is no call
  listed_stay : new.calls.keys ≡ old.calls.keys → new.targets ≡ old.targets → AreListed new
  listed_stay calls same number m there =
      let (key, stands) = sets.listed number m (subst (λ (g : Groups MethodNo). Contains (values_at g.groups.items number) m) same there) in
      (key, ap (λ (ks : List NodeRef). slice_get ks number) calls ∙ stands)

  called_stay : new.calls.keys ≡ old.calls.keys → new.targets ≡ old.targets → AreCalled new
  called_stay calls same number key at =
      let (m, there) = sets.called number key (sym (ap (λ (ks : List NodeRef). slice_get ks number) calls) ∙ at) in
      (m, subst (λ (g : Groups MethodNo). Contains (values_at g.groups.items number) m) (sym same) there)

  targets_stay : ((call : CallNo) (m : MethodNo) → item ≡ Calls call m → ⊥) → new.calls.keys ≡ old.calls.keys → new.targets ≡ old.targets
      → (key : NodeRef) (m : MethodNo) → IsTarget new key m ↔ IsCalled n (items ++ item ∷ []) key m
  targets_stay none calls same key m = (
    λ target. called_after n items item key m ((sets.targets key m).0 (
      target.0,
      sym (ap (λ (ks : List NodeRef). slice_get ks target.0) calls) ∙ target.1,
      subst (λ (g : Groups MethodNo). Contains (values_at g.groups.items target.0) m) same target.2,
    )),
    λ called.
        let before = (sets.targets key m).1 (called.0, called.1, other_item items item _ (none called.0 m) called.2, called.3, called.4) in (
          before.0,
          ap (λ (ks : List NodeRef). slice_get ks before.0) calls ∙ before.1,
          subst (λ (g : Groups MethodNo). Contains (values_at g.groups.items before.0) m) (sym same) before.2,
        ),
  )

-- ---- an item more

-- a holding
pub holding_taken : (n : Numbered) (place : PlaceNo) (site : SiteNo) (old new : Sets) → IsPut old.sites.groups.items new.sites.groups.items place.0 site → new.running.keys ≡ old.running.keys
    → new.calls.keys ≡ old.calls.keys → new.targets ≡ old.targets → TakesItem n (Holds place site) old new
holding_taken n place site old new put running calls targets = record {
  goes = λ items sets. record {
    holds = λ q s. (
      λ there. elim (put_cases old.sites.groups.items new.sites.groups.items place.0 site put q s there) [
        | inl before ↦ Contains-append_left items (Holds place site ∷ []) _ ((sets.holds q s).0 before)
        | inr last ↦ subst (λ (i : Item). Contains (items ++ Holds place site ∷ []) i) (λ i. Holds (record { 0 = last.0 i }) (last.1 i)) (Contains-push items (Holds place site))
      ],
      λ there. elim (Contains-push_cases items (Holds place site) _ there) [
        | inl before ↦ put_keeps old.sites.groups.items new.sites.groups.items place.0 site put q s ((sets.holds q s).1 before)
        | inr last ↦
            let places : ◌≡◌ {A = PlaceNo} place (record { 0 = q }) = cc in
            let sites : site ≡ s = cc in
            subst (λ (t : SiteNo). Contains (values_at new.sites.groups.items q) t) sites
            (subst (λ (k : PlaceNo). Contains (values_at new.sites.groups.items k.0) site) places (put_there old.sites.groups.items new.sites.groups.items place.0 site put))
      ],
    );
    runs = running_stays n (Holds place site) old new items sets (λ m e. cc) running;
    targets = targets_stay n (Holds place site) old new items sets (λ call m e. cc) calls targets;
    listed = listed_stay n (Holds place site) old new items sets calls targets;
    called = called_stay n (Holds place site) old new items sets calls targets;
  };
}

-- a method that may run
pub run_taken : (n : Numbered) (method : MethodNo) (old new : Sets) → AreAdded (λ m. m ≡ method) old.running.keys new.running.keys → new.sites ≡ old.sites
    → new.calls.keys ≡ old.calls.keys → new.targets ≡ old.targets → TakesItem n (Runs method) old new
run_taken n method old new added sites calls targets = record {
  goes = λ items sets. record {
    holds = sites_stay n (Runs method) old new items sets (λ place site e. cc) sites;
    runs = λ m. (
      λ there. elim ((added.each m).0 there) [
        | inl before ↦ Contains-append_left items (Runs method ∷ []) _ ((sets.runs m).0 before)
        | inr same ↦ subst (λ (k : MethodNo). Contains (items ++ Runs method ∷ []) (Runs k)) (sym same) (Contains-push items (Runs method))
      ],
      λ there. elim (Contains-push_cases items (Runs method) _ there) [
        | inl before ↦ (added.each m).1 (inl ((sets.runs m).1 before))
        | inr last ↦ (added.each m).1 (inr (let same : m ≡ method = cc in same))
      ],
    );
    targets = targets_stay n (Runs method) old new items sets (λ call m e. cc) calls targets;
    listed = listed_stay n (Runs method) old new items sets calls targets;
    called = called_stay n (Runs method) old new items sets calls targets;
  };
}

-- a call
pub call_taken : (n : Numbered) (call : CallNo) (target : MethodNo) (site : CallSite) (key : NodeRef) (old new : Sets) → slice_get n.calls call.0 ≡ Some site → key ≡ site.at
    → AddsTarget key target old new → TakesItem n (Calls call target) old new
call_taken n call target site key old new stands of_node adds = record {
  goes = λ items sets. record {
    holds = sites_stay n (Calls call target) old new items sets (λ place s e. cc) adds.sites;
    runs = running_stays n (Calls call target) old new items sets (λ m e. cc) (λ i. (adds.running i).keys);
    targets = λ k m. (
      λ there. elim ((adds.targets sets.listed k m).0 there) [
        | inl before ↦ called_after n items (Calls call target) k m ((sets.targets k m).0 before)
        | inr last ↦ (
          call,
          site,
          subst (λ (t : MethodNo). Contains (items ++ Calls call target ∷ []) (Calls call t)) (sym last.1) (Contains-push items (Calls call target)),
          stands,
          last.0 ∙ of_node,
        )
      ],
      λ called. elim (Contains-push_cases items (Calls call target) _ called.2) [
        | inl before ↦ (adds.targets sets.listed k m).1 (inl ((sets.targets k m).1 (called.0, called.1, before, called.3, called.4)))
        | inr last ↦
            let calls : call ≡ called.0 = cc in
            let targets : target ≡ m = cc in
            let sites : site ≡ called.1 = same_Some site called.1 (sym stands ∙ ap (λ (c : CallNo). slice_get n.calls c.0) calls ∙ called.3) in
            (adds.targets sets.listed k m).1 (inr (called.4 ∙ sym (ap (λ (c : CallSite). c.at) sites) ∙ sym of_node, sym targets))
      ],
    );
    listed = adds.listed sets.listed;
    called = adds.called sets.called;
  };
}

-- a use changes nothing
pub use_taken : (n : Numbered) (place : PlaceNo) (constraint : ConstraintNo) (sets : Sets) → TakesItem n (Constrains place constraint) sets sets
use_taken n place constraint sets = record {
  goes = λ items are. record {
    holds = sites_stay n (Constrains place constraint) sets sets items are (λ q site e. cc) refl;
    runs = running_stays n (Constrains place constraint) sets sets items are (λ m e. cc) refl;
    targets = targets_stay n (Constrains place constraint) sets sets items are (λ call m e. cc) refl refl;
    listed = are.listed;
    called = are.called;
  };
}
