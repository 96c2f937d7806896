-- Public contracts rest on this module.
-- Where the ways out of a node lead, besides its successors: where the exceptions go that are thrown there, the methods that it may enter, and what the
-- described methods give that it may call.
use Rattle.std.specs.Prelude.{◌≡◌, ◌↔◌, ℕ, List, map, Option, Contains}
use Rattle.jvm_model.specs.declared.number.MethodNo.{MethodNo}
use Rattle.jvm_model.specs.declared.site.SiteKind.TheVariants as kinds
use Rattle.jvm_model.specs.declared.stub.StubMethod.{StubMethod}
use Rattle.op_model.specs.declared.lowered.LoweredMethod.{LoweredMethod}
use Rattle.op_model.specs.declared.node.Node.{Node}
use Rattle.op_model.specs.declared.node.Spot.{Spot}
use Rattle.op_model.specs.declared.op.Call.{Call as NodeCall}
use Rattle.op_model.specs.declared.op.Op.TheVariants.{Call}
use Rattle.machine_bytecode.specs.Objects.{Subject}
use Rattle.points_to_rules.specs.Calls.{IsOfFile}
use Rattle.points_to_rules.specs.Facts.{Fact, may_call}
use Rattle.points_to_rules.specs.Rules.{StartsAt}
use Rattle.stage_transfer.specs.Calls.{Result, an_argument, a_new_object, another}
use Rattle.stage_edges.specs.Rules.{GoesTo, IsStub, MayThrow, ThrowsClass, given_by, kept_slots, node_at}
use Rattle.node_ways.specs.declared.ways.DescribedTarget.{DescribedTarget}
use Rattle.node_ways.specs.declared.ways.EnteredMethod.{EnteredMethod}
use Rattle.node_ways.specs.declared.ways.GivenResult.{GivenResult}
use Rattle.node_ways.specs.declared.ways.GivenResult.TheVariants.{Argument, New, Other}
use Rattle.node_ways.specs.declared.ways.NodeWays.{NodeWays}

-- ---- exceptions

-- An object of one of the classes goes to the handler, or out of the method.
pub record Lands (x : Subject) (n : Node) (IsThrown : List ℕ → Type 0) (handler : Option ℕ) : Type 0 where
  pub class : List ℕ
  pub thrown : IsThrown class
  pub spot : Spot
  pub goes : GoesTo x n class handler spot

-- These are all ways of such objects.
pub record AreLandings (x : Subject) (n : Node) (IsThrown : List ℕ → Type 0) (landings : List (Option ℕ)) : Type 0 where
  pub each : (handler : Option ℕ) → Contains landings handler ↔ Lands x n IsThrown handler

-- ---- methods that are entered

-- A call at the node may enter the method, which is one of a class file.
pub record IsCalled (x : Subject) (S : Fact → Type 0) (m : Option MethodNo) (n : Node) (target : MethodNo) : Type 0 where
  pub call : NodeCall
  pub is_call : n.op ≡ Call call
  pub goes : S (may_call (node_at m n) target)
  pub of_file : IsOfFile x.program target

-- These are all such targets, with where what they throw goes.
pub record AreEntered (x : Subject) (S : Fact → Type 0) (n : Node) (IsTarget : MethodNo → Type 0) (methods : List EnteredMethod) : Type 0 where
  pub only : (e : EnteredMethod) → Contains methods e → IsTarget e.method × AreLandings x n (MayThrow S e.method) e.landings.items
  pub all : (target : MethodNo) → IsTarget target → (e : EnteredMethod) × Contains methods e × (e.method ≡ target)

-- ---- described methods

-- What a result stands for, at a call of a method.
abbrev pub result_of : Option MethodNo → Node → GivenResult → Result
result_of m n (Argument z) = an_argument z
result_of m n (New class) = a_new_object (record { kind = kinds.Result; method = m; offset = n.offset; class = class.now })
result_of m n Other = another

-- The target is one of the call, a stub describes it, and this is what it keeps, gives and throws.
pub record IsDescribed (x : Subject) (S : Fact → Type 0) (m : Option MethodNo) (n : Node) (c : NodeCall) (target : MethodNo) (stub : StubMethod)
    (parameters : List (List ℕ)) (d : DescribedTarget) : Type 0 where
  pub is_call : n.op ≡ Call c
  pub goes : S (may_call (node_at m n) target)
  pub is_stub : IsStub x target stub parameters
  pub kept : d.kept.items ≡ kept_slots c stub parameters
  pub results : map (result_of m n) d.results.items ≡ map (given_by m n c stub parameters) stub.returns
  pub landings : AreLandings x n (Contains stub.throws) d.landings.items

-- These are all such targets.
pub record AreDescribed (x : Subject) (S : Fact → Type 0) (m : Option MethodNo) (n : Node) (targets : List DescribedTarget) : Type 0 where
  pub only : (d : DescribedTarget) → Contains targets d
      → (c : NodeCall) × (target : MethodNo) × (stub : StubMethod) × (parameters : List (List ℕ)) × IsDescribed x S m n c target stub parameters d
  pub all : (c : NodeCall) (target : MethodNo) (stub : StubMethod) (parameters : List (List ℕ)) → n.op ≡ Call c → S (may_call (node_at m n) target)
      → IsStub x target stub parameters → (d : DescribedTarget) × Contains targets d × IsDescribed x S m n c target stub parameters d

-- ---- the ways out of a node

pub record AreWaysOf (x : Subject) (S : Fact → Type 0) (m : Option MethodNo) (l : LoweredMethod) (n : Node) (ways : NodeWays) : Type 0 where
  pub raised : AreLandings x n (ThrowsClass x S l n) ways.raised.items
  pub called : AreEntered x S n (IsCalled x S m n) ways.called.items
  pub described : AreDescribed x S m n ways.described.items
  pub started : AreEntered x S n (StartsAt x.program n) ways.started.items
