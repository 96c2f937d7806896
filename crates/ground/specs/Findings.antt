-- Public contracts rest on this module.
-- What is known of a program that is analysed.
use Rattle.std.specs.Prelude.{◌≡◌, ◌↔◌, ◌<◌, ℕ, List, length, Contains, Ok, Some, slice_get}
use Rattle.jvm_model.specs.declared.number.MethodNo.{MethodNo}
use Rattle.jvm_model.specs.declared.number.SiteNo.{SiteNo}
use Rattle.jvm_model.specs.declared.site.Site.{Site}
use Rattle.jvm_model.specs.Programs.{Program}
use Rattle.op_model.specs.declared.lowered.LoweredMethod.{LoweredMethod}
use Rattle.op_model.specs.declared.node.Node.{Node}
use Rattle.op_model.specs.declared.node.NodeRef.{NodeRef}
use Rattle.op_model.specs.Supplies.{GivenAs}
use Rattle.points_to_rules.specs.Facts.{Holder, Fact, may_call, may_hold}
use Rattle.points_to_rules.specs.Rules.{IsSlot}
use Rattle.ground.specs.declared.node_place.NodePlace.{NodePlace}

-- The program; the methods that may run and have code; the sites and the holders, by their numbers; and the facts.
pub record Findings : Type 0 where
  pub program : Program
  pub methods : List LoweredMethod
  pub sites : List Site
  pub holders : List Holder
  pub facts : List Fact

-- The supplier that gives the listed methods.
abbrev pub gives_listed : List LoweredMethod → GivenAs
gives_listed methods number answer = (l : LoweredMethod) × Contains methods l × (l.method.0 ≡ number) × (answer ≡ Ok l)

-- ---- methods and nodes, by places

-- The method of the number stands at the place.
pub record IsPlaceOfMethod (g : Findings) (number : MethodNo) (place : ℕ) : Type 0 where
  pub lowered : LoweredMethod
  pub stands : slice_get g.methods place ≡ Some lowered
  pub is : lowered.method ≡ number

-- A node stands at the place.
pub record HasNode (g : Findings) (at : NodePlace) : Type 0 where
  pub lowered : LoweredMethod
  pub stands : slice_get g.methods at.method ≡ Some lowered
  pub within : at.node < length lowered.nodes

-- It is this one.
pub record IsNodeAt (g : Findings) (at : NodePlace) (n : Node) : Type 0 where
  pub lowered : LoweredMethod
  pub method_stands : slice_get g.methods at.method ≡ Some lowered
  pub node_stands : slice_get lowered.nodes at.node ≡ Some n

-- The node at the offset of the method at a place stands at the place.
pub record IsPlaceInMethod (g : Findings) (method offset : ℕ) (at : NodePlace) : Type 0 where
  pub in_method : at.method ≡ method
  pub node : Node
  pub stands : IsNodeAt g at node
  pub is : node.offset ≡ offset

-- The node that is meant stands at the place.
pub record IsPlaceOfNode (g : Findings) (meant : NodeRef) (at : NodePlace) : Type 0 where
  pub node : Node
  pub stands : IsNodeAt g at node
  pub of_method : meant.method ≡ Some stands.lowered.method
  pub is : node.offset ≡ meant.offset

-- The holder is that of the slot at the node.
pub record IsSlotOf (g : Findings) (at : NodePlace) (slot : ℕ) (h : Holder) : Type 0 where
  pub node : Node
  pub stands : IsNodeAt g at node
  pub is_slot : IsSlot stands.lowered node slot h

-- ---- the objects of a holder

-- Such a site has one of the numbers.
abbrev pub IsAmong : List Site → List SiteNo → Site → Type 0
IsAmong sites numbers s = (number : SiteNo) × Contains numbers number × (slice_get sites number.0 ≡ Some s)

-- The numbers are those of the sites that the holder may hold.
pub record AreSitesOf (g : Findings) (h : Holder) (numbers : List SiteNo) : Type 0 where
  pub each : (s : Site) → Contains g.facts (may_hold h s) ↔ IsAmong g.sites numbers s

-- The holder may hold objects of the site, and of no other.
pub record HoldsAlone (g : Findings) (h : Holder) (s : Site) : Type 0 where
  pub holds : Contains g.facts (may_hold h s)
  pub only : (other : Site) → Contains g.facts (may_hold h other) → other ≡ s

-- ---- calls

-- The call may go to some method.
abbrev pub MayGoOn : Findings → NodeRef → Type 0
MayGoOn g call = (m : MethodNo) × Contains g.facts (may_call call m)
