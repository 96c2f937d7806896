-- What calls, nodes and methods mark.
use Rattle.std.proofs.Common.{◌≡◌, ℕ, ◌≤◌, List, length, Option, Some, None, refl, sym, ◌∙◌, ap, subst, arith}
use Rattle.std.specs.List.{slice_get, Contains}
use Rattle.std.specs.Option.{option_flatten}
use Rattle.std.proofs.lemmas.Option.{none-some, same_Some, slice_get_within}
use Rattle.jvm_model.specs.declared.automaton.Automaton.{Automaton}
use Rattle.jvm_model.specs.declared.number.SiteNo.{SiteNo}
use Rattle.jvm_model.specs.declared.site.Site.{Site}
use Rattle.least_sets.specs.Rules.{IsWithoutDoubles}
use Rattle.op_model.specs.declared.lowered.LoweredMethod.{LoweredMethod}
use Rattle.op_model.specs.declared.node.Node.{Node}
use Rattle.op_model.specs.declared.op.Call.{Call as NodeCall}
use Rattle.op_model.specs.declared.op.Op.TheVariants.{Call}
use Rattle.points_to_rules.specs.Facts.{Holder, may_run}
use Rattle.points_to_rules.specs.Rules.{IsSlot}
use Rattle.ground.specs.CallEvents.{call_event}
use Rattle.ground.specs.declared.node_place.NodePlace.{NodePlace}
use Rattle.ground.specs.Findings.{AreSitesOf, Findings, IsNodeAt, IsSlotOf}
use Rattle.prune_stage.specs.declared.event_set.EventSet.{EventSet}
use Rattle.prune_stage.specs.Marks.{AreMarked, CallMarks, MethodMarks, NodeMarks, OfOne, OfOneBelow, SiteMarks, Standing}
use Rattle.prune_stage.specs.Places.{StandsAlone, StandsInTable}
use Rattle.prune_stage.proofs.Marking.{marked_as, marked_none}

-- two readings of one place are one
pub one_reading : (g : Findings) (at : NodePlace) (n k : Node) (one : IsNodeAt g at n) (other : IsNodeAt g at k) → (one.lowered ≡ other.lowered) × (n ≡ k)
one_reading g at n k one other =
    let methods = same_Some one.lowered other.lowered (sym one.method_stands ∙ other.method_stands) in
    let there = subst (λ (l : LoweredMethod). slice_get l.nodes at.node ≡ Some n) methods one.node_stands in
    (methods, same_Some n k (sym there ∙ other.node_stands))

-- the slot of a node, by another reading of its place
slot_there : (g : Findings) (at : NodePlace) (slot : ℕ) (h : Holder) (n : Node) (there : IsNodeAt g at n) → IsSlotOf g at slot h → IsSlot there.lowered n slot h
slot_there g at slot h n there of =
    let (methods, nodes) = one_reading g at of.node n of.stands there in
    subst (λ (l : LoweredMethod). IsSlot l n slot h) methods (subst (λ (k : Node). IsSlot of.stands.lowered k slot h) nodes of.is_slot)

module _ (a : Automaton) (g : Findings) (stands : Standing) where
  -- ---- a call

  module _ (l : LoweredMethod) (n : Node) (c : NodeCall) where
    -- one that is no event
    pub no_event : call_event a c ≡ None → (sets : List EventSet) → AreMarked (CallMarks a g stands l n c) sets sets
    no_event none sets = marked_none (CallMarks a g stands l n c) sets (λ place e m. none-some e (sym none ∙ m.is_event))

    -- one without an object
    pub no_receiver : option_flatten (slice_get c.arguments 0) ≡ None → (sets : List EventSet) → AreMarked (CallMarks a g stands l n c) sets sets
    no_receiver none sets = marked_none (CallMarks a g stands l n c) sets (λ place e m. none-some m.slot (sym none ∙ m.receiver))

  module _ (at : NodePlace) (n : Node) (there : IsNodeAt g at n) (c : NodeCall) where
    pub call_marked : (event slot : ℕ) → call_event a c ≡ Some event → option_flatten (slice_get c.arguments 0) ≡ Some slot → IsWithoutDoubles g.sites
        → (h : Holder) → IsSlotOf g at slot h
        → (found : List SiteNo) → ((k : Holder) → IsSlotOf g at slot k → AreSitesOf g k found) → ((site : SiteNo) → Contains found site → (s : Site) × (slice_get g.sites site.0 ≡ Some s))
        → (old new : List EventSet) → AreMarked (OfOne (SiteMarks stands event) found) old new → AreMarked (CallMarks a g stands there.lowered n c) old new
    call_marked event slot is_event is_slot apart h of found held within old new marked =
        marked_as (OfOne (SiteMarks stands event) found) (CallMarks a g stands there.lowered n c) old new
        (λ place e (number, among, (placed, is)).
        let (s, numbered) = within number among in
        record {
          is_event = is_event ∙ ap (λ (k : ℕ). Some k) (sym is);
          slot = slot;
          receiver = is_slot;
          from = h;
          of_slot = slot_there g at slot h n there of;
          site = s;
          holds = ((held h of).each s).1 (number, among, numbered);
          number = number.0;
          numbered = numbered;
          at = placed;
        })
        (λ place e m.
        let same : m.slot ≡ slot = same_Some m.slot slot (sym m.receiver ∙ is_slot) in
        let own : IsSlot there.lowered n slot m.from = subst (λ (z : ℕ). IsSlot there.lowered n z m.from) same m.of_slot in
        let (number, among, numbered) = ((held m.from (record { node = n; stands = there; is_slot = own })).each m.site).0 m.holds in
        let numbers : m.number ≡ number.0 = apart m.site m.number number.0 m.numbered numbered in
        (number, among, (subst (λ (k : ℕ). stands k place) numbers m.at, same_Some e event (sym m.is_event ∙ is_event))))
        marked

  -- ---- a node

  module _ (at : NodePlace) (n : Node) (there : IsNodeAt g at n) where
    -- a node that marks stands there
    abbrev reading : (place e : ℕ) (m : NodeMarks a g stands at.method at.node place e) → IsNodeAt g at m.n
    reading place e m = record { lowered = m.l; method_stands = m.listed; node_stands = m.there }

    -- one that is no call
    pub no_call : ((c : NodeCall) → n.op ≡ Call c → ⊥) → (sets : List EventSet) → AreMarked (NodeMarks a g stands at.method at.node) sets sets
    no_call other sets =
        marked_none (NodeMarks a g stands at.method at.node) sets
        (λ place e m.
        let (methods, nodes) = one_reading g at m.n n (reading place e m) there in
        other m.call (ap (λ (k : Node). k.op) (sym nodes) ∙ m.is_call))

    pub node_marked : (c : NodeCall) → n.op ≡ Call c → (old new : List EventSet) → AreMarked (CallMarks a g stands there.lowered n c) old new
        → AreMarked (NodeMarks a g stands at.method at.node) old new
    node_marked c is old new marked =
        marked_as (CallMarks a g stands there.lowered n c) (NodeMarks a g stands at.method at.node) old new
        (λ place e m. record { l = there.lowered; listed = there.method_stands; n = n; there = there.node_stands; call = c; is_call = is; marks = m })
        (λ place e m.
        let (methods, nodes) = one_reading g at m.n n (reading place e m) there in
        let both : Call m.call ≡ Call c = sym m.is_call ∙ ap (λ (k : Node). k.op) nodes ∙ is in
        let calls : m.call ≡ c = cc in
        let of_call = subst (λ (x : NodeCall). CallMarks a g stands m.l m.n x place e) calls m.marks in
        let of_node = subst (λ (k : Node). CallMarks a g stands m.l k c place e) nodes of_call in
        subst (λ (x : LoweredMethod). CallMarks a g stands x n c place e) methods of_node)
        marked

  -- ---- a method

  module _ (method : ℕ) (l : LoweredMethod) (listed : slice_get g.methods method ≡ Some l) where
    is_listed : (m : LoweredMethod) → slice_get g.methods method ≡ Some m → m ≡ l
    is_listed m m_listed = same_Some m l (sym m_listed ∙ listed)

    -- one that does not run
    pub no_run : (Contains g.facts (may_run l.method) → ⊥) → (sets : List EventSet) → AreMarked (MethodMarks a g stands method) sets sets
    no_run none sets =
        marked_none (MethodMarks a g stands method) sets
        (λ place e m. none (subst (λ (x : LoweredMethod). Contains g.facts (may_run x.method)) (is_listed m.marks.l m.marks.listed) m.runs))

    pub method_marked : Contains g.facts (may_run l.method) → (limit : ℕ) → length l.nodes ≤ limit → (old new : List EventSet)
        → AreMarked (OfOneBelow (NodeMarks a g stands method) limit) old new → AreMarked (MethodMarks a g stands method) old new
    method_marked runs limit past old new marked =
        marked_as (OfOneBelow (NodeMarks a g stands method) limit) (MethodMarks a g stands method) old new
        (λ place e (k, below, m). record {
          node = k;
          marks = m;
          runs = subst (λ (x : LoweredMethod). Contains g.facts (may_run x.method)) (sym (is_listed m.l m.listed)) runs;
        })
        (λ place e m.
        let there = subst (λ (x : LoweredMethod). slice_get x.nodes m.node ≡ Some m.marks.n) (is_listed m.marks.l m.marks.listed) m.marks.there in
        let within = slice_get_within l.nodes m.node m.marks.n there in
        (m.node, omega (arith, within, past), m.marks))
        marked

-- ---- a site

-- a site that has no place
pub no_place : (places : List (Option ℕ)) (event : ℕ) (site : SiteNo) → ((place : ℕ) → slice_get places site.0 ≡ Some (Some place) → ⊥)
    → (sets : List EventSet) → AreMarked (SiteMarks (StandsInTable places) event site) sets sets
no_place places event site none sets = marked_none (SiteMarks (StandsInTable places) event site) sets (λ place e m. none place m.0)

pub site_marked : (places : List (Option ℕ)) (event : ℕ) (site : SiteNo) (place : ℕ) → slice_get places site.0 ≡ Some (Some place) → (old new : List EventSet)
    → AreMarked (λ i e. (i ≡ place) × (e ≡ event)) old new → AreMarked (SiteMarks (StandsInTable places) event site) old new
site_marked places event site place at old new marked =
    marked_as (λ i e. (i ≡ place) × (e ≡ event)) (SiteMarks (StandsInTable places) event site) old new
    (λ i e (here, is). (at ∙ ap (λ (k : ℕ). Some (Some k)) (sym here), is))
    (λ i e (there, is).
    let both : Some i ≡ Some place = same_Some (Some i) (Some place) (sym there ∙ at) in
    (same_Some i place both, is))
    marked

-- one site alone
module _ (only : SiteNo) (event : ℕ) (found : List SiteNo) where
  pub only_marked : Contains found only → (old new : List EventSet) → AreMarked (λ i e. (i ≡ 0) × (e ≡ event)) old new
      → AreMarked (OfOne (SiteMarks (StandsAlone only) event) found) old new
  only_marked among old new marked =
      marked_as (λ i e. (i ≡ 0) × (e ≡ event)) (OfOne (SiteMarks (StandsAlone only) event) found) old new
      (λ i e (here, is). (only, among, ((refl, here), is)))
      (λ i e (site, there, ((same, here), is)). (here, is))
      marked

  pub only_elsewhere : (Contains found only → ⊥) → (sets : List EventSet) → AreMarked (OfOne (SiteMarks (StandsAlone only) event) found) sets sets
  only_elsewhere none sets =
      marked_none (OfOne (SiteMarks (StandsAlone only) event) found) sets
      (λ i e (site, there, ((same, here), is)). none (subst (λ (s : SiteNo). Contains found s) (λ i. record { 0 = same i }) there))
