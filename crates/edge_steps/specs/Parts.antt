-- This crate's own proofs alone rest on this module.
-- What follows from an edge, over the ways of a node and what a transfer does there. No rule is in sight.
use Rattle.std.specs.Prelude.{◌≡◌, ◌⊎◌, ℕ, Bool, true, false, List, Option, Some, None}
use Rattle.jvm_model.specs.declared.number.MethodNo.{MethodNo}
use Rattle.op_model.specs.declared.lowered.LoweredMethod.{LoweredMethod}
use Rattle.op_model.specs.declared.node.Node.{Node}
use Rattle.op_model.specs.declared.node.Spot.{Spot}
use Rattle.op_model.specs.declared.node.Spot.TheVariants as spots
use Rattle.op_model.specs.declared.op.Call.{Call as NodeCall}
use Rattle.op_model.specs.declared.op.Op.{Op}
use Rattle.op_model.specs.declared.op.Op.TheVariants.{Assign, Load, Store, LoadElement, StoreElement, LoadStatic, StoreStatic, New, NewArray, Constant, Call, Return, Throw, Cast, Probe}
use Rattle.ground.specs.Added.{OfOne}
use Rattle.stage_facts.specs.Facts.{SiteFact, none_yet, some_yet, of_object}
use Rattle.stage_facts.specs.Plain.{fact_of}
use Rattle.stage_transfer.specs.Calls.{Entering, by_call, by_trigger}
use Rattle.stage_transfer.specs.Stages.{Transfer}
use Rattle.stage_views.specs.declared.calls.Answer.{Answer}
use Rattle.stage_views.specs.declared.calls.Answer.TheVariants.{Own, Other}
use Rattle.stage_edges.specs.Rules.{before}
use Rattle.node_ways.specs.declared.ways.DescribedTarget.{DescribedTarget}
use Rattle.node_ways.specs.declared.ways.EnteredMethod.{EnteredMethod}
use Rattle.node_ways.specs.declared.ways.GivenResult.{GivenResult}
use Rattle.node_ways.specs.declared.ways.NodeWays.{NodeWays}
use Rattle.node_ways.specs.Ways.{result_of}
use Rattle.edge_steps.specs.declared.conclusions.Conclusion.{Conclusion}
use Rattle.edge_steps.specs.declared.conclusions.EnteredWith.{EnteredWith}

-- ---- facts at spots

pub record IsAt (spot : Spot) (g : SiteFact) (c : Conclusion) : Type 0 where
  pub at : c.spot ≡ spot
  pub is : fact_of c.fact ≡ g

-- One of the facts is there.
abbrev pub OneAt : Spot → List SiteFact → Conclusion → Type 0
OneAt spot facts = OfOne (IsAt spot) facts

-- One of them is at a node of one of the offsets.
abbrev pub OneAtEach : List ℕ → List SiteFact → Conclusion → Type 0
OneAtEach offsets facts = OfOne (λ (offset : ℕ). OneAt (spots.Node offset) facts) offsets

-- Where what is thrown goes: to a handler, or out of the method.
abbrev pub landing : Option ℕ → Spot
landing None = spots.Thrown
landing (Some offset) = spots.Node offset

-- A method begins with the fact.
pub record IsBegun (g : SiteFact) (e : EnteredMethod) (b : EnteredWith) : Type 0 where
  pub method : b.method ≡ e.method
  pub is : fact_of b.fact ≡ g

-- ---- what a node does

pub record IsReturn (op : Op) : Type 0 where
  pub value : Option ℕ
  pub is_return : op ≡ Return value

-- The fact is of no object: there is none yet, or there are some.
abbrev pub IsOfNone : SiteFact → Type 0
IsOfNone none_yet = Unit {0}
IsOfNone some_yet = Unit {0}
IsOfNone (of_object t) = ⊥

-- The operation makes no object of a class, and goes on. So no fact that is of no object changes there.
abbrev pub GoesOn : Op → Type 0
GoesOn (Assign moves) = Unit {0}
GoesOn (Load object field target) = Unit {0}
GoesOn (Store object field value) = Unit {0}
GoesOn (LoadElement array target) = Unit {0}
GoesOn (StoreElement array value) = Unit {0}
GoesOn (LoadStatic field target) = Unit {0}
GoesOn (StoreStatic field value) = Unit {0}
GoesOn (New site target) = ⊥
GoesOn (NewArray sites target) = Unit {0}
GoesOn (Constant site target) = Unit {0}
GoesOn (Call call) = Unit {0}
GoesOn (Return value) = Unit {0}
GoesOn (Throw value) = ⊥
GoesOn (Cast class z) = Unit {0}
GoesOn (Probe z) = Unit {0}

pub record Stays (op : Op) (f : SiteFact) : Type 0 where
  pub goes_on : GoesOn op
  pub of_none : IsOfNone f

-- It throws, and the object lands there.
abbrev pub Raised : Transfer → LoweredMethod → Node → SiteFact → Option ℕ → Conclusion → Type 0
Raised t l n f handler = OneAt (landing handler) (t.raise l n handler f)

-- A described target throws; or it gives a result.
abbrev pub Excepted : Transfer → LoweredMethod → Node → (kept : List ℕ) → SiteFact → Option ℕ → Conclusion → Type 0
Excepted t l n kept sent handler = OneAt (landing handler) (t.exception l n kept handler sent)

abbrev pub Answered : Transfer → LoweredMethod → Option MethodNo → Node → NodeCall → (kept : List ℕ) → SiteFact → GivenResult → Conclusion → Type 0
Answered t l m n call kept sent r = OneAtEach n.successors (t.answer l n call kept (result_of m n r) sent)

abbrev pub Described : Transfer → LoweredMethod → Option MethodNo → Node → NodeCall → SiteFact → DescribedTarget → Conclusion → Type 0
Described t l m n call sent d c =
    OfOne (Answered t l m n call d.kept.items sent) d.results.items c ⊎ OfOne (Excepted t l n d.kept.items sent) d.landings.items c

-- Of a described target of the call, for a fact after its event.
abbrev pub DescribedFrom : Transfer → LoweredMethod → Option MethodNo → Node → NodeCall → List DescribedTarget → SiteFact → Conclusion → Type 0
DescribedFrom t l m n call targets sent = OfOne (Described t l m n call sent) targets

-- A method of a class file begins, for such a fact.
abbrev pub BegunFrom : Transfer → NodeCall → List EnteredMethod → SiteFact → EnteredWith → Type 0
BegunFrom t call methods sent = OfOne (IsBegun (t.enter (by_call call) sent)) methods

-- The node goes on, returns, or goes on for a described target.
pub data Done (t : Transfer) (l : LoweredMethod) (m : Option MethodNo) (n : Node) (ways : NodeWays) (f : SiteFact) (c : Conclusion) : Type 0 where
  passes : ((call : NodeCall) → n.op ≡ Call call → ⊥) → OneAtEach n.successors (t.next l n f) c → Done t l m n ways f c
  leaves : IsReturn n.op → OneAt spots.Returned (t.next l n f) c → Done t l m n ways f c
  answers : (call : NodeCall) → n.op ≡ Call call → OfOne (DescribedFrom t l m n call ways.described.items) (t.event l n call f) c → Done t l m n ways f c

-- It calls a method.
pub data Calls (t : Transfer) (l : LoweredMethod) (n : Node) (ways : NodeWays) (f : SiteFact) (b : EnteredWith) : Type 0 where
  calls : (call : NodeCall) → n.op ≡ Call call → OfOne (BegunFrom t call ways.called.items) (t.event l n call f) b → Calls t l n ways f b

-- It starts an initialiser.
abbrev pub Starts : Transfer → NodeWays → SiteFact → EnteredWith → Type 0
Starts t ways f = OfOne (IsBegun (t.enter by_trigger f)) ways.started.items

-- ---- exits of what it enters

-- What was entered has returned: a call goes on at each successor, and a node that started an initialiser runs.
abbrev pub AfterReturn : Transfer → LoweredMethod → Node → Entering → (left : SiteFact) → Conclusion → Type 0
AfterReturn t l n (by_call call) left c = OneAtEach n.successors (t.next l n left) c
AfterReturn t l n by_trigger left c = IsAt (before n) left c

-- It has thrown: the object lands, or a node that started an initialiser runs.
abbrev pub AfterThrow : Transfer → LoweredMethod → Node → Entering → (landings : List (Option ℕ)) → (left : SiteFact) → Conclusion → Type 0
AfterThrow t l n (by_call call) landings left c = OfOne (Raised t l n left) landings c
AfterThrow t l n by_trigger landings left c = IsAt (before n) left c ⊎ OfOne (Raised t l n left) landings c

-- How the node goes on with what is known at an exit.
abbrev pub After : Transfer → LoweredMethod → Node → Entering → (landings : List (Option ℕ)) → (left : SiteFact) → (spot : Spot) → Conclusion → Type 0
After t l n by landings left (spots.Node offset) c = ⊥
After t l n by landings left spots.Returned c = AfterReturn t l n by left c
After t l n by landings left spots.Thrown c = AfterThrow t l n by landings left c

-- The method was entered with the fact.
abbrev pub LeftWith : Transfer → LoweredMethod → Node → Entering → (target : MethodNo) → (entry : SiteFact) → (spot : Spot) → (out : SiteFact)
    → (landings : List (Option ℕ)) → (sent : SiteFact) → Conclusion → Type 0
LeftWith t l n by target entry spot out landings sent c = (t.enter by sent ≡ entry) × After t l n by landings (t.leave l n by target sent out) spot c

-- The method is the one that is left.
abbrev pub LeftFrom : Transfer → LoweredMethod → Node → Entering → (target : MethodNo) → (entry : SiteFact) → (spot : Spot) → (out : SiteFact)
    → (sent : SiteFact) → EnteredMethod → Conclusion → Type 0
LeftFrom t l n by target entry spot out sent e c = (e.method ≡ target) × LeftWith t l n by target entry spot out e.landings.items sent c

-- One of the methods is.
abbrev pub LeftOne : Transfer → LoweredMethod → Node → Entering → (target : MethodNo) → (entry : SiteFact) → (spot : Spot) → (out : SiteFact)
    → List EnteredMethod → (sent : SiteFact) → Conclusion → Type 0
LeftOne t l n by target entry spot out methods sent = OfOne (LeftFrom t l n by target entry spot out sent) methods

pub data LeavesCall (t : Transfer) (l : LoweredMethod) (n : Node) (ways : NodeWays) (f : SiteFact) (target : MethodNo) (entry : SiteFact) (spot : Spot) (out : SiteFact)
    (c : Conclusion) : Type 0 where
  ends : (call : NodeCall) → n.op ≡ Call call → OfOne (LeftOne t l n (by_call call) target entry spot out ways.called.items) (t.event l n call f) c
      → LeavesCall t l n ways f target entry spot out c

abbrev pub LeavesTrigger : Transfer → LoweredMethod → Node → NodeWays → SiteFact → (target : MethodNo) → (entry : SiteFact) → (spot : Spot) → (out : SiteFact)
    → Conclusion → Type 0
LeavesTrigger t l n ways f target entry spot out = LeftOne t l n by_trigger target entry spot out ways.started.items f

-- A described method gives a new object of the site, or of another one.
abbrev pub new_answer : Bool → Answer
new_answer true = Own
new_answer false = Other
