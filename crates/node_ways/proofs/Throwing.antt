-- What is thrown at a node: by itself, and by a method that it enters.
use Rattle.std.proofs.Common.{codes, ◌≡◌, ◌⊎◌, ◌↔◌, ℕ, Bool, true, false, List, [], Option, Some, refl, sym, ap, ◌∙◌, subst, inl, inr}
use Rattle.std.specs.List.{slice_get, Contains}
use Rattle.std.proofs.lemmas.Bool.{false≢true}
use Rattle.std.proofs.lemmas.Option.{same_Some}
use Rattle.jvm_model.specs.declared.number.ClassNo.{ClassNo}
use Rattle.jvm_model.specs.declared.number.MethodNo.{MethodNo}
use Rattle.jvm_model.specs.declared.number.SiteNo.{SiteNo}
use Rattle.jvm_model.specs.declared.site.Site.{Site}
use Rattle.jvm_model.specs.Programs.{Program}
use Rattle.jvm_model.specs.Subtypes.{Fits}
use Rattle.program_model.specs.Numbers.{name_at, IsClassNumber}
use Rattle.list_laws.proofs.Members.{contains_none}
use Rattle.hierarchy.proofs.ClassPlaces.{class_there, name_at-at}
use Rattle.op_model.specs.declared.lowered.LoweredMethod.{LoweredMethod}
use Rattle.op_model.specs.declared.node.Node.{Node}
use Rattle.op_model.specs.declared.op.Op.TheVariants.{Throw}
use Rattle.machine_bytecode.specs.Objects.{Subject}
use Rattle.machine_nodes.specs.Nodes.{IsClassNumber as HasClassName}
use Rattle.points_to_rules.specs.Facts.{Holder, thrown_by}
use Rattle.points_to_rules.specs.Rules.{IsSlot}
use Rattle.ground.specs.declared.node_place.NodePlace.{NodePlace}
use Rattle.ground.specs.Added.{AreAdded, OfOne}
use Rattle.ground.specs.Findings.{AreSitesOf, Findings, IsNodeAt, IsSlotOf}
use Rattle.ground.proofs.Adding.{added_alone, added_as, added_both, added_none}
use Rattle.stage_edges.specs.Rules.{MayThrow, ThrowsClass}
use Rattle.node_ways.specs.Parts.{AreLandingsIn, AreThrownSites, LandsAt, ListedLands, SiteLands, ThrowableLands, ThrowsSite}
use Rattle.node_ways.specs.Ways.{AreLandings}
use Rattle.node_ways.proofs.Landing.{of_program}

-- ---- classes

pub of_classes : (p : Program) (n : Node) (classes : List (List ℕ)) (landings : List (Option ℕ)) → AreAdded (OfOne (LandsAt p n) classes) [] landings
    → AreLandingsIn p n (Contains classes) landings
of_classes p n classes landings added = record { each = added_alone (OfOne (LandsAt p n) classes) landings added }

-- ---- what a method may throw

pub of_method : (g : Findings) (n : Node) (m : MethodNo) (sites : List SiteNo) (landings : List (Option ℕ)) → AreSitesOf g (thrown_by m) sites
    → AreAdded (OfOne (SiteLands g n) sites) [] landings → AreLandingsIn g.program n (MayThrow (Contains g.facts) m) landings
of_method g n m sites landings are added = record {
  each = λ handler. let alone = added_alone (OfOne (SiteLands g n) sites) landings added handler in (
    λ there. let (number, among, way) = alone.0 there in (way.site.class, (way.site, (are.each way.site).1 (number, among, way.stands), refl), way.lands),
    λ (class, (s, held, same), lands).
        let (number, among, stands) = (are.each s).0 held in
        alone.1 (number, among, record { site = s; stands = stands; lands = subst (λ (k : List ℕ). LandsAt g.program n k handler) same lands }),
  );
}

-- ---- what one site adds

module _ (g : Findings) (n : Node) (number : SiteNo) (site : Site) (at : slice_get g.sites number.0 ≡ Some site) where
  one_site : (class : List ℕ) → class ≡ site.class → (s : Site) → slice_get g.sites number.0 ≡ Some s → s.class ≡ class
  one_site class named s stands = ap (λ (k : Site). k.class) (same_Some s site (sym stands ∙ at)) ∙ sym named

  pub site_added : (class : List ℕ) → class ≡ site.class → (a b : List (Option ℕ)) → AreAdded (LandsAt g.program n class) a b → AreAdded (SiteLands g n number) a b
  site_added class named a b added =
      added_as (LandsAt g.program n class) (SiteLands g n number) a b
      (λ handler lands. record { site = site; stands = at; lands = subst (λ (k : List ℕ). LandsAt g.program n k handler) named lands })
      (λ handler (way : SiteLands g n number handler). subst (λ (k : List ℕ). LandsAt g.program n k handler) (one_site class named way.site way.stands) way.lands)
      added

  module _ (p : Program) (same : p ≡ g.program) (class : List ℕ) (named : class ≡ site.class) (b : Bool) (tells : (b ≡ true) ↔ Fits p (codes "java/lang/Throwable") class) where
    pub not_throwable : b ≡ false → (a : List (Option ℕ)) → AreAdded (ThrowableLands g n number) a a
    not_throwable is a =
        added_none (ThrowableLands g n number) a (λ handler (way : ThrowableLands g n number handler).
        let fits = subst (λ (k : List ℕ). Fits g.program (codes "java/lang/Throwable") k) (one_site class named way.site way.stands) way.fits in
        false≢true (sym is ∙ tells.1 (subst (λ (q : Program). Fits q (codes "java/lang/Throwable") class) (sym same) fits)))

    pub throwable_added : b ≡ true → (a c : List (Option ℕ)) → AreAdded (LandsAt g.program n class) a c → AreAdded (ThrowableLands g n number) a c
    throwable_added is a c added =
        let fits = subst (λ (k : List ℕ). Fits g.program (codes "java/lang/Throwable") k) named (subst (λ (q : Program). Fits q (codes "java/lang/Throwable") class) same (tells.0 is)) in
        added_as (LandsAt g.program n class) (ThrowableLands g n number) a c
        (λ handler lands. record { site = site; stands = at; fits = fits; lands = subst (λ (k : List ℕ). LandsAt g.program n k handler) named lands })
        (λ handler (way : ThrowableLands g n number handler). subst (λ (k : List ℕ). LandsAt g.program n k handler) (one_site class named way.site way.stands) way.lands)
        added

-- ---- what a node throws itself

module _ (x : Subject) (g : Findings) (same : x.program ≡ g.program) (l : LoweredMethod) (n : Node) (thrown : List SiteNo) (are : AreThrownSites g l n thrown)
    (numbers : (c : ClassNo) → Contains n.throws c → IsClassNumber g.program c.0) where
  abbrev Throws : List ℕ → Type 0
  Throws = ThrowsClass x (Contains g.facts) l n

  abbrev Way : Option ℕ → Type 0
  Way handler = OfOne (ListedLands g.program n) n.throws handler ⊎ OfOne (ThrowableLands g n) thrown handler

  to : (handler : Option ℕ) → Way handler → (class : List ℕ) × Throws class × LandsAt g.program n class handler
  to handler (inl (number, there, lands)) =
      let (k, stands) = class_there g.program number.0 (numbers number there) in
      let is : HasClassName g.program number (name_at g.program number.0) = record { class = k; stands = stands; named = sym (name_at-at g.program number.0 k stands) } in
      (name_at g.program number.0, ThrowsClass.listed number there (subst (λ (q : Program). HasClassName q number (name_at g.program number.0)) (sym same) is), lands)
  to handler (inr (number, there, way)) =
      let throws = (are.each way.site).1 (number, there, way.stands) in
      let fits = subst (λ (q : Program). Fits q (codes "java/lang/Throwable") way.site.class) (sym same) way.fits in
      (way.site.class, ThrowsClass.held throws.slot throws.holder way.site throws.is_throw throws.is_slot throws.held fits refl, way.lands)

  from : (handler : Option ℕ) (class : List ℕ) → Throws class → LandsAt g.program n class handler → Way handler
  from handler class (ThrowsClass.listed number there is) lands =
      let named : name_at g.program number.0 ≡ class =
      ap (λ (q : Program). name_at q number.0) (sym same) ∙ name_at-at x.program number.0 is.class is.stands ∙ is.named in
      inl (number, there, subst (λ (k : List ℕ). LandsAt g.program n k handler) (sym named) lands)
  from handler class (ThrowsClass.held z h s op slot holds fits e) lands =
      let (number, there, stands) = (are.each s).0 (record { slot = z; is_throw = op; holder = h; is_slot = slot; held = holds }) in
      inr (
        number,
        there,
        record {
          site = s;
          stands = stands;
          fits = subst (λ (q : Program). Fits q (codes "java/lang/Throwable") s.class) same fits;
          lands = subst (λ (k : List ℕ). LandsAt g.program n k handler) e lands;
        },
      )

  pub raised_are : (first landings : List (Option ℕ)) → AreAdded (OfOne (ListedLands g.program n) n.throws) [] first → AreAdded (OfOne (ThrowableLands g n) thrown) first landings
      → AreLandings x n Throws landings
  raised_are first landings listed held =
      let both = added_alone Way landings (added_both (OfOne (ListedLands g.program n) n.throws) (OfOne (ThrowableLands g n) thrown) [] first landings listed held) in
      of_program x g.program same n Throws landings (record {
        each = λ handler. (λ there. to handler ((both handler).0 there), λ (class, throws, lands). (both handler).1 (from handler class throws lands));
      })

-- ---- the sites of the slot that is thrown

module _ (g : Findings) (at : NodePlace) (l : LoweredMethod) (n : Node) (stands : slice_get g.methods at.method ≡ Some l) (is : IsNodeAt g at n) where
  here : slice_get l.nodes at.node ≡ Some n
  here = ap (λ (k : LoweredMethod). slice_get k.nodes at.node) (same_Some l is.lowered (sym stands ∙ is.method_stands)) ∙ is.node_stands

  pub slot_thrown : (slot : ℕ) → n.op ≡ Throw slot → (numbers : List SiteNo) → ((h : Holder) × IsSlotOf g at slot h) → ((h : Holder) → IsSlotOf g at slot h → AreSitesOf g h numbers)
      → AreThrownSites g l n numbers
  slot_thrown slot op numbers (h, of) sites = record {
    each = λ s. (
      λ (throws : ThrowsSite (Contains g.facts) l n s).
          let same : throws.slot ≡ slot = let e : Throw throws.slot ≡ Throw slot = sym throws.is_throw ∙ op in cc e in
          let of_slot : IsSlotOf g at slot throws.holder = record {
            node = n;
            stands = record { lowered = l; method_stands = stands; node_stands = here };
            is_slot = subst (λ (z : ℕ). IsSlot l n z throws.holder) same throws.is_slot;
          } in
          ((sites throws.holder of_slot).each s).0 throws.held,
      λ among.
          let method : of.stands.lowered ≡ l = same_Some of.stands.lowered l (sym of.stands.method_stands ∙ stands) in
          let node : of.node ≡ n = same_Some of.node n (sym of.stands.node_stands ∙ ap (λ (k : LoweredMethod). slice_get k.nodes at.node) method ∙ here) in
          let is_slot = subst (λ (m : Node). IsSlot l m slot h) node (subst (λ (k : LoweredMethod). IsSlot k of.node slot h) method of.is_slot) in
          record { slot = slot; is_throw = op; holder = h; is_slot = is_slot; held = ((sites h of).each s).1 among },
    );
  }

-- where nothing is thrown, there is no such site
pub none_thrown : (g : Findings) (l : LoweredMethod) (n : Node) → ((slot : ℕ) → n.op ≡ Throw slot → ⊥) → AreThrownSites g l n []
none_thrown g l n none = record {
  each = λ s. (λ (throws : ThrowsSite (Contains g.facts) l n s). absurd (none throws.slot throws.is_throw), λ (number, among, stands). absurd (contains_none number among));
}
