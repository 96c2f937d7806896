-- This crate's own proofs alone rest on this module.
-- The parts of which the ways out of a node are made.
use Rattle.std.specs.Prelude.{codes, ◌≡◌, ◌↔◌, ◌⊎◌, ℕ, List, Option, Some, None, map, slice_get, Contains}
use Rattle.jvm_model.specs.declared.number.ClassNo.{ClassNo}
use Rattle.jvm_model.specs.declared.number.MethodNo.{MethodNo}
use Rattle.jvm_model.specs.declared.number.SiteNo.{SiteNo}
use Rattle.jvm_model.specs.declared.site.Site.{Site}
use Rattle.jvm_model.specs.declared.stub.StubMethod.{StubMethod}
use Rattle.jvm_model.specs.Descriptors.{IsMethodDescriptor}
use Rattle.jvm_model.specs.Programs.{Program}
use Rattle.jvm_model.specs.Subtypes.{Fits}
use Rattle.program_model.specs.Numbers.{name_at}
use Rattle.op_model.specs.declared.lowered.LoweredMethod.{LoweredMethod}
use Rattle.op_model.specs.declared.node.Node.{Node}
use Rattle.op_model.specs.declared.node.NodeHandler.{NodeHandler}
use Rattle.op_model.specs.declared.op.Call.{Call as NodeCall}
use Rattle.op_model.specs.declared.op.Op.TheVariants.{Throw}
use Rattle.machine_nodes.specs.NodeSteps.{IsFirstTaking, Takes}
use Rattle.points_to_rules.specs.Calls.{IsDescribedBy, IsOfFile}
use Rattle.points_to_rules.specs.Facts.{Fact, Holder, may_hold}
use Rattle.points_to_rules.specs.Rules.{IsSlot}
use Rattle.ground.specs.Findings.{Findings, IsAmong}
use Rattle.stage_edges.specs.Rules.{MayThrow, given_by, kept_slots}
use Rattle.node_ways.specs.declared.ways.DescribedTarget.{DescribedTarget}
use Rattle.node_ways.specs.declared.ways.EnteredMethod.{EnteredMethod}
use Rattle.node_ways.specs.Ways.{result_of}

-- ---- exceptions

-- Where an object of a class goes that is thrown at the node: the first handler that takes it, or none.
pub data LandsAt (p : Program) (n : Node) (class : List ℕ) : Option ℕ → Type 0 where
  caught : (h : NodeHandler) → IsFirstTaking p class n.handlers h → LandsAt p n class (Some h.target)
  uncaught : ((h : NodeHandler) → Contains n.handlers h → Takes p h class → ⊥) → LandsAt p n class None

-- These are all ways of objects of such classes.
pub record AreLandingsIn (p : Program) (n : Node) (IsThrown : List ℕ → Type 0) (landings : List (Option ℕ)) : Type 0 where
  pub each : (handler : Option ℕ) → Contains landings handler ↔ ((class : List ℕ) × IsThrown class × LandsAt p n class handler)

-- The way of an object of the class of a number.
abbrev pub ListedLands : Program → Node → ClassNo → Option ℕ → Type 0
ListedLands p n number handler = LandsAt p n (name_at p number.0) handler

-- The way of an object of the site of a number.
pub record SiteLands (g : Findings) (n : Node) (number : SiteNo) (handler : Option ℕ) : Type 0 where
  pub site : Site
  pub stands : slice_get g.sites number.0 ≡ Some site
  pub lands : LandsAt g.program n site.class handler

-- The same, if it can be thrown.
pub record ThrowableLands (g : Findings) (n : Node) (number : SiteNo) (handler : Option ℕ) : Type 0 where
  pub site : Site
  pub stands : slice_get g.sites number.0 ≡ Some site
  pub fits : Fits g.program (codes "java/lang/Throwable") site.class
  pub lands : LandsAt g.program n site.class handler

-- A throw at the node may throw an object of the site.
pub record ThrowsSite (S : Fact → Type 0) (l : LoweredMethod) (n : Node) (s : Site) : Type 0 where
  pub slot : ℕ
  pub is_throw : n.op ≡ Throw slot
  pub holder : Holder
  pub is_slot : IsSlot l n slot holder
  pub held : S (may_hold holder s)

-- These are the numbers of all such sites.
pub record AreThrownSites (g : Findings) (l : LoweredMethod) (n : Node) (numbers : List SiteNo) : Type 0 where
  pub each : (s : Site) → ThrowsSite (Contains g.facts) l n s ↔ IsAmong g.sites numbers s

-- ---- what is found for each of a list

-- What is found is found for one of them, and something is found for each that has something.
pub record AreFound {X Y : Type 0} (Is : Y → X → Type 0) (Has : Y → Type 0) (ys : List Y) (found : List X) : Type 0 where
  pub only : (x : X) → Contains found x → (y : Y) × Contains ys y × Is y x
  pub all : (y : Y) → Contains ys y → Has y → (x : X) × Contains found x × Is y x

-- What is found for one is added.
pub record AddsFound {X : Type 0} (Is : X → Type 0) (Has : Type 0) (old new : List X) : Type 0 where
  pub only : (x : X) → Contains new x → Contains old x ⊎ Is x
  pub kept : (x : X) → Contains old x → Contains new x
  pub some : Has → (x : X) × Contains new x × Is x

-- ---- methods that are entered

-- The method is that of the number, which is one of a class file; and these are the ways of what it throws.
pub record IsEnteredAs (g : Findings) (n : Node) (target : MethodNo) (e : EnteredMethod) : Type 0 where
  pub of_file : IsOfFile g.program target
  pub is : e.method ≡ target
  pub landings : AreLandingsIn g.program n (MayThrow (Contains g.facts) target) e.landings.items

-- ---- described methods

-- The parameters of its descriptor.
pub record AreParameters (stub : StubMethod) (parameters : List (List ℕ)) : Type 0 where
  pub descriptor : IsMethodDescriptor stub.descriptor
  pub are : parameters ≡ descriptor.parameters

-- What a stub keeps, gives and throws, at a call of a node.
pub record IsToldOf (p : Program) (n : Node) (c : NodeCall) (stub : StubMethod) (d : DescribedTarget) : Type 0 where
  pub kept : (parameters : List (List ℕ)) → AreParameters stub parameters → d.kept.items ≡ kept_slots c stub parameters
  pub results : (m : Option MethodNo) (parameters : List (List ℕ)) → AreParameters stub parameters
      → map (result_of m n) d.results.items ≡ map (given_by m n c stub parameters) stub.returns
  pub landings : AreLandingsIn p n (Contains stub.throws) d.landings.items

-- The same, of a stub with the descriptor of a method.
pub record IsToldBy (p : Program) (n : Node) (c : NodeCall) (stub : StubMethod) (d : DescribedTarget) : Type 0 where
  pub descriptor : IsMethodDescriptor stub.descriptor
  pub told : IsToldOf p n c stub d

-- The stub that describes the target, and has the descriptor of a method.
pub record IsDescription (p : Program) (target : MethodNo) (stub : StubMethod) : Type 0 where
  pub described : IsDescribedBy p target stub
  pub descriptor : IsMethodDescriptor stub.descriptor

-- A stub describes the target so.
pub record IsDescribedAs (p : Program) (n : Node) (c : NodeCall) (target : MethodNo) (d : DescribedTarget) : Type 0 where
  pub stub : StubMethod
  pub description : IsDescription p target stub
  pub told : IsToldOf p n c stub d

-- A stub describes the target.
abbrev pub HasDescription : Program → MethodNo → Type 0
HasDescription p target = (stub : StubMethod) × IsDescription p target stub
