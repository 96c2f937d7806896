-- Public contracts rest on this module.
-- The rules of path edges (Fink et al., section 4.2; Reps, Horwitz and Sagiv, POPL 1995): which edges follow from which. They are over any transfer of
-- facts, and over any set of facts of the points-to analysis.
use Rattle.std.specs.Prelude.{codes, ◌≡◌, ◌≢◌, ℕ, List, [], ◌∷◌, Option, Some, None, Ok, slice_get, Contains}
use Rattle.std.specs.List.{flat_map}
use Rattle.std.specs.Option.{option_flatten, option_to_list}
use Rattle.jvm_model.specs.declared.number.ClassNo.{ClassNo}
use Rattle.jvm_model.specs.declared.number.MethodNo.{MethodNo}
use Rattle.jvm_model.specs.declared.site.Site.{Site}
use Rattle.jvm_model.specs.declared.site.SiteKind.TheVariants as kinds
use Rattle.jvm_model.specs.declared.stub.StubArgument.{StubArgument}
use Rattle.jvm_model.specs.declared.stub.StubMethod.{StubMethod}
use Rattle.jvm_model.specs.declared.stub.StubResult.{StubResult}
use Rattle.jvm_model.specs.declared.stub.StubResult.TheVariants as results
use Rattle.jvm_model.specs.Descriptors.{IsMethodDescriptor}
use Rattle.jvm_model.specs.Subtypes.{Fits}
use Rattle.op_model.specs.declared.lowered.LoweredMethod.{LoweredMethod}
use Rattle.op_model.specs.declared.node.Node.{Node}
use Rattle.op_model.specs.declared.node.NodeHandler.{NodeHandler}
use Rattle.op_model.specs.declared.node.NodeRef.{NodeRef}
use Rattle.op_model.specs.declared.node.Spot.{Spot}
use Rattle.op_model.specs.declared.node.Spot.TheVariants as spots
use Rattle.op_model.specs.declared.op.Call.{Call as NodeCall}
use Rattle.op_model.specs.declared.op.Op.TheVariants.{Call, Return, Throw}
use Rattle.op_model.specs.Supplies.{GivenAs}
use Rattle.machine_bytecode.specs.Described.{argument_unit}
use Rattle.machine_bytecode.specs.Objects.{Subject}
use Rattle.machine_nodes.specs.Nodes.{AreStartNodes, IsClassNumber}
use Rattle.machine_nodes.specs.NodeSteps.{IsFirstTaking, Takes}
use Rattle.points_to_rules.specs.Calls.{IsDescribedBy, IsOfFile}
use Rattle.points_to_rules.specs.Facts.{Fact, Holder, may_call, may_hold, thrown_by}
use Rattle.points_to_rules.specs.Rules.{IsSlot, StartsAt}
use Rattle.stage_facts.specs.Facts.{SiteFact, none_yet}
use Rattle.stage_transfer.specs.Calls.{Entering, by_call, by_trigger, Result, an_argument, a_new_object, another}
use Rattle.stage_transfer.specs.Stages.{Transfer}

-- A path edge: in a method, or at the start of the program where there is none, that is entered with one fact, another fact holds at a spot: before a
-- node, or where the method returns or throws.
pub record Edge : Type 0 where
  pub method : Option MethodNo
  pub entry : SiteFact
  pub spot : Spot
  pub fact : SiteFact

abbrev pub edge : Option MethodNo → SiteFact → Spot → SiteFact → Edge
edge m e spot f = record { method = m; entry = e; spot = spot; fact = f }

-- ---- methods and nodes

-- A method as nodes. The start of the program is read as one without slots.
pub data IsMethod (x : Subject) (gives : GivenAs) (l : LoweredMethod) : Option MethodNo → Type 0 where
  of_file : (m : MethodNo) → gives m.0 (Ok l) → IsMethod x gives l (Some m)
  of_start : AreStartNodes x l.nodes → l.slots ≡ 0 → l.stack ≡ 0 → l.params ≡ 0 → IsMethod x gives l None

-- A node of it.
pub record IsNode (x : Subject) (gives : GivenAs) (m : Option MethodNo) (l : LoweredMethod) (n : Node) : Type 0 where
  pub method : IsMethod x gives l m
  pub stands : Contains l.nodes n

abbrev pub node_at : Option MethodNo → Node → NodeRef
node_at m n = record { method = m; offset = n.offset }

abbrev pub before : Node → Spot
before n = spots.Node n.offset

-- ---- exceptions

-- Where an object of a class goes that is thrown at the node: to the first handler that takes it, or out of the method.
pub data GoesTo (x : Subject) (n : Node) (class : List ℕ) : (handler : Option ℕ) → Spot → Type 0 where
  caught : (h : NodeHandler) → IsFirstTaking x.program class n.handlers h → GoesTo x n class (Some h.target) (spots.Node h.target)
  uncaught : ((h : NodeHandler) → Contains n.handlers h → Takes x.program h class → ⊥) → GoesTo x n class None spots.Thrown

-- The class of an object that the node throws itself: one that it lists; or, at a throw, that of an object that its slot may hold.
pub data ThrowsClass (x : Subject) (S : Fact → Type 0) (l : LoweredMethod) (n : Node) (class : List ℕ) : Type 0 where
  listed : (number : ClassNo) → Contains n.throws number → IsClassNumber x.program number class → ThrowsClass x S l n class
  held : (z : ℕ) (h : Holder) (s : Site) → n.op ≡ Throw z → IsSlot l n z h → S (may_hold h s) → Fits x.program (codes "java/lang/Throwable") s.class
      → class ≡ s.class → ThrowsClass x S l n class

-- The class of an object that a method may throw.
abbrev pub MayThrow : (Fact → Type 0) → MethodNo → List ℕ → Type 0
MayThrow S target class = (s : Site) × S (may_hold (thrown_by target) s) × (class ≡ s.class)

-- ---- described targets

-- A stub describes the target, with these parameters.
pub record IsStub (x : Subject) (target : MethodNo) (stub : StubMethod) (parameters : List (List ℕ)) : Type 0 where
  pub described : IsDescribedBy x.program target stub
  pub descriptor : IsMethodDescriptor stub.descriptor
  pub are : parameters ≡ descriptor.parameters

-- The slot of an argument that the stub names, if it is a reference.
abbrev pub slot_of : NodeCall → StubMethod → List (List ℕ) → StubArgument → Option ℕ
slot_of c stub parameters a = option_flatten (slice_get c.arguments (argument_unit stub.is_static parameters a))

-- The slots of the arguments that it keeps.
abbrev pub kept_slots : NodeCall → StubMethod → List (List ℕ) → List ℕ
kept_slots c stub parameters = flat_map (λ (a : StubArgument). option_to_list (slot_of c stub parameters a)) stub.keeps

abbrev pub argument_given : Option ℕ → Result
argument_given None = another
argument_given (Some z) = an_argument z

-- What a listed result gives, at a call of a method.
abbrev pub given_by : Option MethodNo → Node → NodeCall → StubMethod → List (List ℕ) → StubResult → Result
given_by m n c stub parameters results.Primitive = another
given_by m n c stub parameters results.Void = another
given_by m n c stub parameters results.Null = another
given_by m n c stub parameters (results.Given a) = argument_given (slot_of c stub parameters a)
given_by m n c stub parameters (results.New class) = a_new_object (record { kind = kinds.Result; method = m; offset = n.offset; class = class })
given_by m n c stub parameters results.Kept = another

-- ---- what is entered

-- A node enters a method of a class file: a call one of its targets, and a trigger an initialiser. The fact is that of the call, once its event has
-- happened; at a trigger, that of the edge.
pub data Enters (x : Subject) (S : Fact → Type 0) (t : Transfer) (m : Option MethodNo) (l : LoweredMethod) (n : Node) (target : MethodNo) (f : SiteFact)
    : Entering → (sent : SiteFact) → Type 0 where
  called : (c : NodeCall) (sent : SiteFact) → n.op ≡ Call c → S (may_call (node_at m n) target) → IsOfFile x.program target → Contains (t.event l n c f) sent
      → Enters x S t m l n target f (by_call c) sent
  triggered : StartsAt x.program n target → Enters x S t m l n target f by_trigger f

-- A method ends where it returns or throws.
abbrev pub IsExit : Spot → Type 0
IsExit (spots.Node offset) = ⊥
IsExit spots.Returned = Unit {0}
IsExit spots.Thrown = Unit {0}

-- ---- the rules

pub data Instance (x : Subject) (gives : GivenAs) (S : Fact → Type 0) (t : Transfer) : List Edge → Edge → Type 0 where
  -- The program starts without an object of the site.
  start : Instance x gives S t [] (edge None none_yet (spots.Node 0) none_yet)
  -- A node that is no call goes on at each successor, and a return leaves its method.
  goes_on : (m : Option MethodNo) (l : LoweredMethod) (n : Node) (e f g : SiteFact) (offset : ℕ) → IsNode x gives m l n → ((c : NodeCall) → n.op ≢ Call c)
      → Contains n.successors offset → Contains (t.next l n f) g
      → Instance x gives S t (edge m e (before n) f ∷ []) (edge m e (spots.Node offset) g)
  returns : (m : Option MethodNo) (l : LoweredMethod) (n : Node) (e f g : SiteFact) (value : Option ℕ) → IsNode x gives m l n → n.op ≡ Return value
      → Contains (t.next l n f) g → Instance x gives S t (edge m e (before n) f ∷ []) (edge m e spots.Returned g)
  -- What a node throws itself goes to a handler, or out of the method.
  raises : (m : Option MethodNo) (l : LoweredMethod) (n : Node) (e f g : SiteFact) (class : List ℕ) (handler : Option ℕ) (spot : Spot) → IsNode x gives m l n
      → ThrowsClass x S l n class → GoesTo x n class handler spot → Contains (t.raise l n handler f) g
      → Instance x gives S t (edge m e (before n) f ∷ []) (edge m e spot g)
  -- A described target gives one of its results, or throws an object of one of its classes.
  answers : (m : Option MethodNo) (l : LoweredMethod) (n : Node) (e f sent g : SiteFact) (c : NodeCall) (target : MethodNo) (stub : StubMethod)
      (parameters : List (List ℕ)) (result : StubResult) (offset : ℕ) → IsNode x gives m l n → n.op ≡ Call c → S (may_call (node_at m n) target)
      → IsStub x target stub parameters → Contains stub.returns result → Contains n.successors offset → Contains (t.event l n c f) sent
      → Contains (t.answer l n c (kept_slots c stub parameters) (given_by m n c stub parameters result) sent) g
      → Instance x gives S t (edge m e (before n) f ∷ []) (edge m e (spots.Node offset) g)
  described_raises : (m : Option MethodNo) (l : LoweredMethod) (n : Node) (e f sent g : SiteFact) (c : NodeCall) (target : MethodNo) (stub : StubMethod)
      (parameters : List (List ℕ)) (class : List ℕ) (handler : Option ℕ) (spot : Spot) → IsNode x gives m l n → n.op ≡ Call c
      → S (may_call (node_at m n) target) → IsStub x target stub parameters → Contains stub.throws class → GoesTo x n class handler spot
      → Contains (t.event l n c f) sent → Contains (t.exception l n (kept_slots c stub parameters) handler sent) g
      → Instance x gives S t (edge m e (before n) f ∷ []) (edge m e spot g)
  -- A method of a class file begins with what it is entered with.
  enters : (m : Option MethodNo) (l : LoweredMethod) (n : Node) (e f sent : SiteFact) (target : MethodNo) (by : Entering) → IsNode x gives m l n
      → Enters x S t m l n target f by sent
      → Instance x gives S t (edge m e (before n) f ∷ []) (edge (Some target) (t.enter by sent) (spots.Node 0) (t.enter by sent))
  -- From where it returns, a caller goes on at each successor of its call; from where it throws, the caller throws at its call.
  call_returns : (m : Option MethodNo) (l : LoweredMethod) (n : Node) (e f sent out g : SiteFact) (target : MethodNo) (c : NodeCall) (offset : ℕ) → IsNode x gives m l n
      → Enters x S t m l n target f (by_call c) sent → Contains n.successors offset → Contains (t.next l n (t.leave l n (by_call c) target sent out)) g
      → Instance x gives S t (edge m e (before n) f ∷ edge (Some target) (t.enter (by_call c) sent) spots.Returned out ∷ []) (edge m e (spots.Node offset) g)
  -- From where an initialiser ends, the node that started it runs on.
  resumes : (m : Option MethodNo) (l : LoweredMethod) (n : Node) (e f out : SiteFact) (target : MethodNo) (exit : Spot) → IsNode x gives m l n
      → StartsAt x.program n target → IsExit exit
      → Instance x gives S t (edge m e (before n) f ∷ edge (Some target) (t.enter by_trigger f) exit out ∷ []) (edge m e (before n) (t.leave l n by_trigger target f out))
  -- What a method or an initialiser throws goes to a handler of the node, or out of the caller.
  unwinds : (m : Option MethodNo) (l : LoweredMethod) (n : Node) (e f sent out g : SiteFact) (target : MethodNo) (by : Entering) (class : List ℕ) (handler : Option ℕ)
      (spot : Spot) → IsNode x gives m l n → Enters x S t m l n target f by sent → MayThrow S target class → GoesTo x n class handler spot
      → Contains (t.raise l n handler (t.leave l n by target sent out)) g
      → Instance x gives S t (edge m e (before n) f ∷ edge (Some target) (t.enter by sent) spots.Thrown out ∷ []) (edge m e spot g)
