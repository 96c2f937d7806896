-- What is read of a ground, by the lists of which it was made.
use Rattle.std.proofs.Common.{◌≡◌, ◌↔◌, ℕ, ◌<◌, List, [], map, length, Option, Some, None, sym, ◌∙◌, ap, subst}
use Rattle.std.specs.List.{slice_get, Contains}
use Rattle.std.proofs.lemmas.List.{length-map}
use Rattle.std.proofs.lemmas.Option.{same_Some, none-some, slice_get_within}
use Rattle.list_laws.proofs.Members.{contains_none}
use Rattle.list_laws.proofs.Places.{at_map, contains_at, map_at, place_of}
use Rattle.jvm_model.specs.declared.number.MethodNo.{MethodNo}
use Rattle.jvm_model.specs.declared.number.SiteNo.{SiteNo}
use Rattle.jvm_model.specs.declared.site.Site.{Site}
use Rattle.jvm_model.specs.Programs.{Program}
use Rattle.program_model.specs.Numbers.{IsMethodNumber}
use Rattle.grouped_lists.specs.Groups.{values_at}
use Rattle.least_sets.specs.Rules.{IsWithoutDoubles}
use Rattle.op_model.specs.declared.lowered.LoweredMethod.{LoweredMethod}
use Rattle.op_model.specs.declared.node.NodeRef.{NodeRef}
use Rattle.points_to_rules.specs.declared.place.Place.{Place}
use Rattle.points_to_rules.specs.declared.running_method.RunningMethod.{RunningMethod}
use Rattle.points_to_rules.specs.Facts.{Holder, Fact, may_hold, may_call}
use Rattle.points_to_rules.specs.Places.{IsHolderIn, holder_from}
use Rattle.points_to_rules.specs.WholeMethods.{IsWholeMethod}
use Rattle.points_to_rules.proofs.PlaceHolders.{place_stands, places_differ}
use Rattle.ground.specs.declared.lists.Lists.{Lists}
use Rattle.ground.specs.Findings.{Findings, AreSitesOf}
use Rattle.ground.specs.Lists.{HasFacts, holders_of, nodes_of}
use Rattle.ground.specs.Sound.{AreSound}
use Rattle.ground.specs.Told.{findings_of, facts_of}
use Rattle.ground.proofs.TellingFacts.{Says, has_facts, tells_so}

module _ (p : Program) (l : Lists) (g : Findings) (is : findings_of p l ≡ g) where
  pub program_is : g.program ≡ p
  unfolding findings_of
  program_is = sym (ap (λ (f : Findings). f.program) is)

  pub methods_are : g.methods ≡ map nodes_of l.methods.items
  unfolding findings_of
  methods_are = sym (ap (λ (f : Findings). f.methods) is)

  pub sites_are : g.sites ≡ l.sites.items
  unfolding findings_of
  sites_are = sym (ap (λ (f : Findings). f.sites) is)

  pub holders_are : g.holders ≡ holders_of l
  unfolding findings_of
  holders_are = sym (ap (λ (f : Findings). f.holders) is)

  facts_are : g.facts ≡ facts_of l
  unfolding findings_of
  facts_are = sym (ap (λ (f : Findings). f.facts) is)

  pub facts_told : HasFacts l g.facts
  facts_told = subst (HasFacts l) (sym facts_are) (has_facts l)

  -- what is told is so, and the other way round
  pub so : (fact : Fact) → Contains g.facts fact ↔ Says l fact
  so fact = subst (λ (facts : List Fact). Contains facts fact ↔ Says l fact) (sym facts_are) (tells_so l fact)

  -- ---- methods

  pub method_count : length l.methods.items ≡ length g.methods
  method_count = sym (ap (λ (ms : List LoweredMethod). length ms) methods_are ∙ length-map l.methods.items nodes_of)

  pub method_within : (k : ℕ) → k < length g.methods → k < length l.methods.items
  method_within k within = subst (λ (n : ℕ). k < n) (sym method_count) within

  pub method_at : (k : ℕ) (r : RunningMethod) → slice_get l.methods.items k ≡ Some r → slice_get g.methods k ≡ Some r.method
  method_at k r at = ap (λ (ms : List LoweredMethod). slice_get ms k) methods_are ∙ at_map nodes_of l.methods.items k r at

  pub running_at : (k : ℕ) (m : LoweredMethod) → slice_get g.methods k ≡ Some m → (r : RunningMethod) × (slice_get l.methods.items k ≡ Some r) × (r.method ≡ m)
  running_at k m at = map_at nodes_of l.methods.items k m (ap (λ (ms : List LoweredMethod). slice_get ms k) (sym methods_are) ∙ at)

  -- ---- sites and places

  pub site_at : (k : ℕ) (s : Site) → slice_get l.sites.items k ≡ Some s → slice_get g.sites k ≡ Some s
  site_at k s at = ap (λ (ss : List Site). slice_get ss k) sites_are ∙ at

  pub site_in : (k : ℕ) (s : Site) → slice_get g.sites k ≡ Some s → slice_get l.sites.items k ≡ Some s
  site_in k s at = ap (λ (ss : List Site). slice_get ss k) (sym sites_are) ∙ at

  pub site_count : length l.sites.items ≡ length g.sites
  site_count = sym (ap (λ (ss : List Site). length ss) sites_are)

  pub site_within : (k : ℕ) → k < length g.sites → k < length l.sites.items
  site_within k within = subst (λ (n : ℕ). k < n) (sym site_count) within

  pub place_count : length l.places.keys ≡ length g.holders
  place_count = sym (ap (λ (hs : List Holder). length hs) holders_are ∙ length-map l.places.keys (holder_from l.sites.items))

  pub place_within : (k : ℕ) → k < length g.holders → k < length l.places.keys
  place_within k within = subst (λ (n : ℕ). k < n) (sym place_count) within

  pub holder_in : (k : ℕ) (h : Holder) → slice_get g.holders k ≡ Some h → slice_get (holders_of l) k ≡ Some h
  holder_in k h at = ap (λ (hs : List Holder). slice_get hs k) (sym holders_are) ∙ at

  pub holder_at : (k : ℕ) (h : Holder) → slice_get (holders_of l) k ≡ Some h → slice_get g.holders k ≡ Some h
  holder_at k h at = ap (λ (hs : List Holder). slice_get hs k) holders_are ∙ at

  module _ (sound : AreSound p l) where
    pub sites_apart : IsWithoutDoubles g.sites
    sites_apart = subst (λ (ss : List Site). IsWithoutDoubles ss) (sym sites_are) sound.apart

    pub methods_whole : (m : LoweredMethod) → Contains g.methods m → IsWholeMethod g.program m.method.0 m
    methods_whole m there =
        let (k, at) = place_of g.methods m there in
        let (r, stands, same) = running_at k m at in
        let whole = sound.methods r (contains_at l.methods.items k r stands) in
        subst (λ (q : Program). IsWholeMethod q m.method.0 m) (sym program_is) (subst (λ (x : LoweredMethod). IsWholeMethod p x.method.0 x) same whole)

    pub targets_in : (call : NodeRef) (m : MethodNo) → Contains g.facts (may_call call m) → IsMethodNumber g.program m.0
    targets_in call m there =
        let (number, at, listed) = (so (may_call call m)).0 there in
        subst (λ (q : Program). IsMethodNumber q m.0) (sym program_is) (sound.targets number m listed)

    -- the holder of a place
    pub holder_of_place : (k : ℕ) (place : Place) (h : Holder) → slice_get l.places.keys k ≡ Some place → slice_get g.holders k ≡ Some h → IsHolderIn g.sites place h
    holder_of_place k place h at held =
        let (other, stands) = sound.places k place at in
        let both = same_Some (holder_from l.sites.items place) h (sym (at_map (holder_from l.sites.items) l.places.keys k place at) ∙ holder_in k h held) in
        let same : other ≡ h = sym (place_stands l.sites.items place other stands) ∙ both in
        subst (λ (ss : List Site). IsHolderIn ss place h) (sym sites_are) (subst (λ (x : Holder). IsHolderIn l.sites.items place x) same stands)

    -- holders differ where places do
    pub holders_apart : IsWithoutDoubles (holders_of l)
    holders_apart h i j at_i at_j =
        let (a, a_at, a_is) = map_at (holder_from l.sites.items) l.places.keys i h at_i in
        let (b, b_at, b_is) = map_at (holder_from l.sites.items) l.places.keys j h at_j in
        let (a_other, a_stands) = sound.places i a a_at in
        let (b_other, b_stands) = sound.places j b b_at in
        let a_same : a_other ≡ h = sym (place_stands l.sites.items a a_other a_stands) ∙ a_is in
        let b_same : b_other ≡ h = sym (place_stands l.sites.items b b_other b_stands) ∙ b_is in
        let a_holds = subst (λ (x : Holder). IsHolderIn l.sites.items a x) a_same a_stands in
        let b_holds = subst (λ (x : Holder). IsHolderIn l.sites.items b x) b_same b_stands in
        let same : a ≡ b = places_differ l.sites.items sound.apart a b h a_holds b_holds in
        sound.places_apart a i j a_at (b_at ∙ ap Some (sym same))

    -- ---- what a place holds

    pub sites_listed : (k : ℕ) (h : Holder) (numbers : List SiteNo) → slice_get g.holders k ≡ Some h
        → numbers ≡ values_at l.held.groups.items k → AreSitesOf g h numbers
    sites_listed k h numbers at are = record {
      each = λ s. (
        λ there.
            let (place, site, at_place, at_site, among) = (so (may_hold h s)).0 there in
            let same : place ≡ k = holders_apart h place k at_place (holder_in k h at) in
            (site, subst (λ (vs : List SiteNo). Contains vs site) (ap (λ (i : ℕ). values_at l.held.groups.items i) same ∙ sym are) among, site_at site.0 s at_site),
        λ (site, among, at_site).
            (so (may_hold h s)).1 (k, site, holder_in k h at, site_in site.0 s at_site, subst (λ (vs : List SiteNo). Contains vs site) are among),
      );
    }

    pub none_listed : (h : Holder) → (Contains g.holders h → ⊥) → AreSitesOf g h []
    none_listed h none = record {
      each = λ s. (
        λ there. let (place, site, at_place, at_site, among) = (so (may_hold h s)).0 there in absurd (none (contains_at g.holders place h (holder_at place h at_place))),
        λ (site, among, at_site). absurd (contains_none site among),
      );
    }

    pub sites_within : (k : ℕ) (numbers : List SiteNo) → numbers ≡ values_at l.held.groups.items k → (site : SiteNo) → Contains numbers site → site.0 < length g.sites
    sites_within k numbers are site among =
        let (s, at) = sound.held k site (subst (λ (vs : List SiteNo). Contains vs site) are among) in
        slice_get_within g.sites site.0 s (site_at site.0 s at)

  -- a site that is held has a number
  pub held_numbered : (h : Holder) (s : Site) → Contains g.facts (may_hold h s) → (number : ℕ) × (slice_get g.sites number ≡ Some s)
  held_numbered h s there = let (place, site, at_place, at_site, among) = (so (may_hold h s)).0 there in (site.0, site_at site.0 s at_site)

  -- ---- targets

  pub targets_there : (call : NodeRef) (m : MethodNo) (number : ℕ) (targets : List MethodNo) → slice_get l.calls.keys number ≡ Some call
      → ((k : ℕ) → slice_get l.calls.keys k ≡ Some call → ◌≡◌ {A = Option ℕ} (Some number) (Some k)) → targets ≡ values_at l.targets.groups.items number
      → Contains targets m ↔ Contains g.facts (may_call call m)
  targets_there call m number targets stands only are = (
    λ among. (so (may_call call m)).1 (number, stands, subst (λ (vs : List MethodNo). Contains vs m) are among),
    λ there.
        let (k, at, among) = (so (may_call call m)).0 there in
        let here : number ≡ k = same_Some number k (only k at) in
        subst (λ (vs : List MethodNo). Contains vs m) (ap (λ (i : ℕ). values_at l.targets.groups.items i) (sym here) ∙ sym are) among,
  )

  pub no_targets : (call : NodeRef) (m : MethodNo) → ((k : ℕ) → slice_get l.calls.keys k ≡ Some call → ◌≡◌ {A = Option ℕ} None (Some k))
      → Contains [] m ↔ Contains g.facts (may_call call m)
  no_targets call m none = (
    λ among. absurd (contains_none m among),
    λ there. let (k, at, among) = (so (may_call call m)).0 there in absurd (none-some k (none k at)),
  )
