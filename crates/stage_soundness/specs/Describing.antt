-- Public contracts rest on this module.
-- What a set of path edges says of the states of executions on nodes: for an object of the site, or one that is not allocated yet, each frame has an
-- edge whose fact says of it what holds there.
use Rattle.std.specs.Prelude.{◌≡◌, ◌≢◌, ◌⊎◌, ℕ, ◌<◌, Bool, true, false, List, [], ◌∷◌, length, Option, Some, None, Ok, option_map, slice_get, Contains}
use Rattle.jvm_model.specs.declared.number.ClassNo.{ClassNo}
use Rattle.jvm_model.specs.declared.number.MethodNo.{MethodNo}
use Rattle.jvm_model.specs.declared.site.Site.{Site}
use Rattle.jvm_model.specs.declared.site.SiteKind.TheVariants as kinds
use Rattle.jvm_model.specs.Names.{IsClassName}
use Rattle.jvm_model.specs.Programs.{Program}
use Rattle.jvm_model.specs.Soundness.{is_array}
use Rattle.jvm_model.specs.Subtypes.{IsSubtype}
use Rattle.jvm_model.specs.Table.{null_pointer}
use Rattle.op_model.specs.declared.lowered.LoweredMethod.{LoweredMethod}
use Rattle.op_model.specs.declared.node.Node.{Node}
use Rattle.op_model.specs.declared.node.Spot.{Spot}
use Rattle.op_model.specs.declared.node.Spot.TheVariants as spots
use Rattle.op_model.specs.declared.op.Op.TheVariants.{NewArray, Throw}
use Rattle.op_model.specs.Supplies.{Given, GivenAs}
use Rattle.machine_bytecode.specs.Machine.{exception_class}
use Rattle.machine_bytecode.specs.Objects.{Subject}
use Rattle.machine_bytecode.specs.States.{Value, primitive_value, reference_to, Object, Frame, Mode, running, throwing, ended, World, State, slot_at}
use Rattle.machine_nodes.specs.Nodes.{IsClassNumber}
use Rattle.machine_nodes.specs.NodeExecutions.{IsNodeExecution}
use Rattle.points_to_rules.specs.Facts.{Fact, may_run}
use Rattle.stage_facts.specs.Facts.{SiteFact, none_yet, of_object, Tuple, Says}
use Rattle.stage_facts.specs.Values.{of_slots, of_return, of_throw}
use Rattle.stage_transfer.specs.Calls.{Entering, by_call, by_trigger}
use Rattle.stage_transfer.specs.Stages.{Transfer}
use Rattle.stage_edges.specs.Rules.{Edge, edge, Enters, GoesTo, IsExit, IsNode, before}
use Rattle.stage_relations.specs.Roots.{AreAlike, StaysIn}
use Rattle.stage_steps.specs.Said.{ChangesFields, IsTracked, SaysCaught}

-- ---- what is tracked

-- Objects of the site are made by an instruction or by a described method; they are no arrays, and of the property's class or of one below it.
pub record IsTrackable (x : Subject) (gives : GivenAs) (s : Site) : Type 0 where
  pub made : (s.kind ≡ kinds.New) ⊎ (s.kind ≡ kinds.Result)
  pub no_array : is_array s.class ≡ false
  pub observed : IsSubtype x.program x.property.class_name s.class
  pub no_arrays_there : (number : ℕ) (l : LoweredMethod) (n : Node) (sites : List Site) (target : ℕ) → gives number (Ok l) → Contains l.nodes n
      → n.op ≡ NewArray sites target → Contains sites s → ⊥

-- The site is one of the program's own: its objects are made by an instruction or by a described method, and are of the property's class or of one below it.
pub record IsOwnSite (x : Subject) (s : Site) : Type 0 where
  pub made : (s.kind ≡ kinds.New) ⊎ (s.kind ≡ kinds.Result)
  pub named : IsClassName s.class
  pub observed : IsSubtype x.program x.property.class_name s.class

-- A throw raises NullPointerException alone, and starts no initialisation (JVMS 5.5, 6.5.athrow).
pub record ThrowsPlainly (p : Program) (n : Node) : Type 0 where
  pub listed : (value : ℕ) (c : ClassNo) (class : List ℕ) → n.op ≡ Throw value → Contains n.throws c → IsClassNumber p c class → class ≡ exception_class null_pointer
  pub untriggered : (value : ℕ) → n.op ≡ Throw value → n.trigger ≡ None

-- So it is in each method that is given as nodes.
abbrev pub AreThrownPlainly : Program → GivenAs → Type 0
AreThrownPlainly p gives = (number : ℕ) (l : LoweredMethod) (n : Node) → gives number (Ok l) → Contains l.nodes n → ThrowsPlainly p n

-- ---- frames that wait

abbrev pub method_of : Frame → Option MethodNo
method_of f = option_map (λ (number : ℕ). record { 0 = number }) f.method

-- A frame waits for a call, but not for an initialiser.
abbrev pub waits_so : Entering → Bool
waits_so (by_call c) = true
waits_so by_trigger = false

-- A frame that waits below one of the called method, which was entered with a fact: it has an edge at its node, and a fact of its call said of the place
-- what held then. Since then its slots stayed, but for the arguments, which are gone; and only fields changed that the called method may write.
pub record Waits (x : Subject) (gives : GivenAs) (S : Fact → Type 0) (s : Site) (t : Transfer) (E : Edge → Type 0) (now : World) (place : ℕ) (f : Frame) (called : MethodNo)
    (entry : SiteFact) : Type 0 where
  pub lowered : LoweredMethod
  pub node : Node
  pub is_node : IsNode x gives (method_of f) lowered node
  pub at : node.offset ≡ f.offset
  pub runs : (m : MethodNo) → method_of f ≡ Some m → S (may_run m)
  pub by : Entering
  pub waits : f.waits ≡ waits_so by
  pub own : SiteFact
  pub fact : SiteFact
  pub sent : SiteFact
  pub held : E (edge (method_of f) own (before node) fact)
  pub enters : Enters x S t (method_of f) lowered node called fact by sent
  pub entered : entry ≡ t.enter by sent
  -- the slots and the world at the call, after its event
  pub slots : List Value
  pub world : World
  pub says : Says s sent place world (of_slots slots)
  pub alike : (y z : ℕ) → AreAlike lowered node y z → slot_at slots y ≡ slot_at slots z
  pub stays : (z : ℕ) → StaysIn by z → slot_at f.slots z ≡ slot_at slots z
  pub cleared : (z target : ℕ) → slot_at f.slots z ≡ reference_to target → StaysIn by z
  pub bounded : (z target : ℕ) → slot_at f.slots z ≡ reference_to target → target < length world.heap
  pub changes : ChangesFields S called world.heap now.heap

-- So it is for each frame below one of a method that was entered with a fact. The frame from which the program is started is the last one.
abbrev pub AreWaiting : Subject → GivenAs → (Fact → Type 0) → Site → Transfer → (Edge → Type 0) → World → ℕ → List Frame → Option MethodNo → SiteFact → Type 0
AreWaiting x gives S s t E now place [] above entry = (above ≡ None) × (entry ≡ none_yet)
AreWaiting x gives S s t E now place (f ∷ below) above entry = record {
  called : MethodNo;
  is_called : above ≡ Some called;
  first : Waits x gives S s t E now place f called entry;
  rest : AreWaiting x gives S s t E now place below (method_of f) first.own;
}

-- ---- the newest frame

-- It runs, at an edge whose fact says of the place what holds.
pub record IsRunning (x : Subject) (gives : GivenAs) (S : Fact → Type 0) (s : Site) (t : Transfer) (E : Edge → Type 0) (now : World) (place : ℕ) (f : Frame) (below : List Frame) : Type 0
  where
    pub entry : SiteFact
    pub fact : SiteFact
    pub held : E (edge (method_of f) entry (spots.Node f.offset) fact)
    pub says : Says s fact place now (of_slots f.slots)
    pub waiting : AreWaiting x gives S s t E now place below (method_of f) entry

-- Where it goes there is such an edge.
pub record Lands (s : Site) (E : Edge → Type 0) (now : World) (place thrown : ℕ) (f : Frame) (locals : ℕ) (entry : SiteFact) (handler : Option ℕ) (spot : Spot) : Type 0 where
  pub fact : SiteFact
  pub held : E (edge (method_of f) entry spot fact)
  pub says : SaysCaught s fact place now f.slots locals thrown handler

-- It throws an object: wherever this goes from the frame's node, it lands at such an edge.
pub record IsThrowing (x : Subject) (gives : GivenAs) (S : Fact → Type 0) (s : Site) (t : Transfer) (E : Edge → Type 0) (now : World) (place thrown : ℕ) (f : Frame) (below : List Frame)
    : Type 0 where
  pub lowered : LoweredMethod
  pub node : Node
  pub is_node : IsNode x gives (method_of f) lowered node
  pub at : node.offset ≡ f.offset
  pub object : Object
  pub stands : slice_get now.heap thrown ≡ Some object
  pub entry : SiteFact
  pub lands : (handler : Option ℕ) (spot : Spot) → GoesTo x node object.class handler spot → Lands s E now place thrown f lowered.slots entry handler spot
  pub waiting : AreWaiting x gives S s t E now place below (method_of f) entry

-- ---- states

-- The program has ended: an edge where its start returns or throws says of the place what held then.
pub record HasEnded (s : Site) (E : Edge → Type 0) (now : World) (place : ℕ) : Type 0 where
  pub spot : Spot
  pub exit : IsExit spot
  pub fact : SiteFact
  pub held : E (edge None none_yet spot fact)
  pub says : ((v : Value) × Says s fact place now (of_return v)) ⊎ ((thrown : ℕ) × Says s fact place now (of_throw thrown))

-- The edges describe what is at the place, or will be, in a state.
abbrev pub IsDescribed : Subject → GivenAs → (Fact → Type 0) → Site → Transfer → (Edge → Type 0) → ℕ → World → Mode → List Frame → Type 0
IsDescribed x gives S s t E place now running [] = ⊥
IsDescribed x gives S s t E place now running (f ∷ below) = IsRunning x gives S s t E now place f below
IsDescribed x gives S s t E place now (throwing thrown) [] = ⊥
IsDescribed x gives S s t E place now (throwing thrown) (f ∷ below) = IsThrowing x gives S s t E now place thrown f below
IsDescribed x gives S s t E place now ended frames = HasEnded s E now place

-- So they do for each place that has an object of the site, or none yet, in each state of each execution.
abbrev pub DescribesAll : Subject → Given → GivenAs → (Fact → Type 0) → Site → Transfer → (Edge → Type 0) → Type 0
DescribesAll x given gives S s t E =
    (states : List State) → IsNodeExecution x given states → (state : State) → Contains states state → (place : ℕ) → IsTracked s place state.world.heap
    → IsDescribed x gives S s t E place state.world state.mode state.frames

-- ---- errors

-- No edge of the set is in the error state.
abbrev pub AreErrorFree : Subject → (Edge → Type 0) → Type 0
AreErrorFree x E = (m : Option MethodNo) (entry : SiteFact) (spot : Spot) (t : Tuple) → E (edge m entry spot (of_object t)) → t.state ≢ x.property.error

-- Some execution on nodes has a state in which an object of the site is in the error state.
pub record ErrsOnNodes (x : Subject) (given : Given) (site : Site) : Type 0 where
  pub states : List State
  pub execution : IsNodeExecution x given states
  pub state : State
  pub reached : Contains states state
  pub object : Object
  pub lives : Contains state.world.heap object
  pub of_site : object.site ≡ site
  pub in_error : object.automaton ≡ x.property.error

-- ---- ends

-- The program's start has returned from its call of the entry.
pub record HasReturned (state : State) : Type 0 where
  pub frame : Frame
  pub below : List Frame
  pub runs : state.mode ≡ running
  pub frames : state.frames ≡ frame ∷ below
  pub no_method : frame.method ≡ None
  pub stands : frame.offset ≡ 1

-- An edge of its return says of the place what holds.
pub record EndsAt (s : Site) (E : Edge → Type 0) (now : World) (place : ℕ) : Type 0 where
  pub fact : SiteFact
  pub held : E (edge None none_yet spots.Returned fact)
  pub says : Says s fact place now (of_return primitive_value)

abbrev pub DescribesEnds : Subject → Given → Site → (Edge → Type 0) → Type 0
DescribesEnds x given s E =
    (states : List State) → IsNodeExecution x given states → (state : State) → Contains states state → HasReturned state → (place : ℕ) → IsTracked s place state.world.heap
    → EndsAt s E state.world place
