-- The ways out of two nodes that are both the call of the entry, or both the return after it.
use Rattle.std.proofs.Common.{◌≡◌, ℕ, List, [], Option, Some, None, sym, ap, ◌∙◌, subst}
use Rattle.std.specs.List.{slice_get, Contains}
use Rattle.std.proofs.lemmas.Option.{same_Some}
use Rattle.jvm_model.specs.declared.number.ClassNo.{ClassNo}
use Rattle.jvm_model.specs.declared.number.MethodNo.{MethodNo}
use Rattle.jvm_model.specs.declared.stub.StubMethod.{StubMethod}
use Rattle.jvm_model.specs.Programs.{Class, Method, Program}
use Rattle.op_model.specs.declared.lowered.LoweredMethod.{LoweredMethod}
use Rattle.op_model.specs.declared.node.Node.{Node}
use Rattle.op_model.specs.declared.node.Spot.{Spot}
use Rattle.op_model.specs.declared.op.Call.{Call as NodeCall}
use Rattle.op_model.specs.declared.op.Op.TheVariants.{Return, Throw}
use Rattle.machine_bytecode.specs.Objects.{Subject}
use Rattle.machine_nodes.specs.Nodes.{AreThrownAt, IsClassNumber as HasClassName, IsCodedInitialiser, IsStartCall, IsStartReturn}
use Rattle.points_to_rules.specs.Facts.{Fact}
use Rattle.points_to_rules.specs.Rules.{StartsAt}
use Rattle.stage_edges.specs.Rules.{GoesTo, MayThrow, ThrowsClass}
use Rattle.node_ways.specs.declared.ways.EnteredMethod.{EnteredMethod}
use Rattle.node_ways.specs.declared.ways.DescribedTarget.{DescribedTarget}
use Rattle.node_ways.specs.declared.ways.NodeWays.{NodeWays}
use Rattle.node_ways.specs.Ways.{AreDescribed, AreEntered, AreLandings, AreWaysOf, IsCalled, IsDescribed, Lands}
use Rattle.node_ways.proofs.Starting.{entry_call}

-- neither is a throw
pub call_throws_nothing : (x : Subject) (n : Node) → IsStartCall x n → (slot : ℕ) → n.op ≡ Throw slot → ⊥
call_throws_nothing x n call slot op = let e : entry_call (record { 0 = x.entry }) call.entry.signature ≡ Throw slot = sym call.op ∙ op in cc e

pub return_throws_nothing : (n : Node) → IsStartReturn n → (slot : ℕ) → n.op ≡ Throw slot → ⊥
return_throws_nothing n return slot op = let e : Return None ≡ Throw slot = sym return.op ∙ op in cc e

-- the initialisers of a class by either of two numbers
starts_as : (p : Program) (a b : Node) (c d : ClassNo) (name : List ℕ) → a.trigger ≡ Some c → b.trigger ≡ Some d → HasClassName p c name → HasClassName p d name → (i : MethodNo)
    → StartsAt p a i → StartsAt p b i
starts_as p a b c d name of_a of_b first second i starts =
    let number : starts.trigger ≡ c = same_Some starts.trigger c (sym starts.is_trigger ∙ of_a) in
    let at : slice_get p.classes c.0 ≡ Some starts.is_class.class = subst (λ (k : ClassNo). slice_get p.classes k.0 ≡ Some starts.is_class.class) number starts.is_class.stands in
    let class : starts.is_class.class ≡ first.class = same_Some starts.is_class.class first.class (sym at ∙ first.stands) in
    let named : starts.class ≡ name = sym starts.is_class.named ∙ ap (λ (k : Class). k.name) class ∙ first.named in
    record { trigger = d; is_trigger = of_b; class = name; is_class = second; initialiser = subst (λ (k : List ℕ). IsCodedInitialiser p k i.0) named starts.initialiser }

-- A node with the classes that another one lists, and its trigger.
abbrev with_classes : Node → Node → Node
with_classes a b = record { offset = b.offset; op = b.op; successors = b.successors; handlers = b.handlers; trigger = a.trigger; throws = a.throws }

-- ---- from such a node to the node itself

module _ (x : Subject) (S : Fact → Type 0) (l : LoweredMethod) (a b : Node) where
  abbrev mixed : Node
  mixed = with_classes a b

  goes_on : (class : List ℕ) (handler : Option ℕ) (spot : Spot) → GoesTo x mixed class handler spot → GoesTo x b class handler spot
  goes_on class handler spot (GoesTo.caught h first) = GoesTo.caught h first
  goes_on class handler spot (GoesTo.uncaught none) = GoesTo.uncaught none

  goes_back : (class : List ℕ) (handler : Option ℕ) (spot : Spot) → GoesTo x b class handler spot → GoesTo x mixed class handler spot
  goes_back class handler spot (GoesTo.caught h first) = GoesTo.caught h first
  goes_back class handler spot (GoesTo.uncaught none) = GoesTo.uncaught none

  landings_as : (P Q : List ℕ → Type 0) → ((class : List ℕ) → P class → Q class) → ((class : List ℕ) → Q class → P class) → (landings : List (Option ℕ)) → AreLandings x mixed P landings
      → AreLandings x b Q landings
  landings_as P Q to from landings are = record {
    each = λ handler. (
      λ there. let one = (are.each handler).0 there in record { class = one.class; thrown = to one.class one.thrown; spot = one.spot; goes = goes_on one.class handler one.spot one.goes },
      λ (one : Lands x b Q handler). (are.each handler).1 (record { class = one.class; thrown = from one.class one.thrown; spot = one.spot; goes = goes_back one.class handler one.spot one.goes }),
    );
  }

  entered_as : (P Q : MethodNo → Type 0) → ((t : MethodNo) → P t → Q t) → ((t : MethodNo) → Q t → P t) → (methods : List EnteredMethod) → AreEntered x S mixed P methods → AreEntered x S b Q methods
  entered_as P Q to from methods are = record {
    only = λ e there. let (target, landings) = are.only e there in (to e.method target, landings_as (MayThrow S e.method) (MayThrow S e.method) (λ k t. t) (λ k t. t) e.landings.items landings);
    all = λ t target. are.all t (from t target);
  }

  described_on : (m : Option MethodNo) (c : NodeCall) (t : MethodNo) (stub : StubMethod) (parameters : List (List ℕ)) (d : DescribedTarget) → IsDescribed x S m mixed c t stub parameters d
      → IsDescribed x S m b c t stub parameters d
  described_on m c t stub parameters d one = record {
    is_call = one.is_call;
    goes = one.goes;
    is_stub = one.is_stub;
    kept = one.kept;
    results = one.results;
    landings = landings_as (Contains stub.throws) (Contains stub.throws) (λ k t. t) (λ k t. t) d.landings.items one.landings;
  }

  described_as : (m : Option MethodNo) (targets : List DescribedTarget) → AreDescribed x S m mixed targets → AreDescribed x S m b targets
  described_as m targets are = record {
    only = λ d there. let (c, t, stub, parameters, one) = are.only d there in (c, t, stub, parameters, described_on m c t stub parameters d one);
    all = λ c t stub parameters is goes is_stub. let (d, there, one) = are.all c t stub parameters is goes is_stub in (d, there, described_on m c t stub parameters d one);
  }

  called_on : (m : Option MethodNo) (t : MethodNo) → IsCalled x S m mixed t → IsCalled x S m b t
  called_on m t one = record { call = one.call; is_call = one.is_call; goes = one.goes; of_file = one.of_file }

  called_back : (m : Option MethodNo) (t : MethodNo) → IsCalled x S m b t → IsCalled x S m mixed t
  called_back m t one = record { call = one.call; is_call = one.is_call; goes = one.goes; of_file = one.of_file }

  -- of the call of the entry
  module _ (first : IsStartCall x a) (second : IsStartCall x b) where
    entries : first.entry ≡ second.entry
    entries = same_Some first.entry second.entry (sym first.stands ∙ second.stands)

    classes : first.is_class.class.name ≡ second.entry.class
    classes = first.is_class.named ∙ ap (λ (m : Method). m.class) entries

    of_second : AreThrownAt x.program [] (Some second.entry.class) a.throws
    of_second = subst (λ (m : Method). AreThrownAt x.program [] (Some m.class) a.throws) entries first.throws

    throws_on : (class : List ℕ) → ThrowsClass x S l mixed class → ThrowsClass x S l b class
    throws_on class (ThrowsClass.listed number there is) =
        let (name, named, thrown) = of_second.only number there in ThrowsClass.listed number (second.throws.all number name named thrown) is
    throws_on class (ThrowsClass.held z h s op slot holds fits e) = absurd (call_throws_nothing x b second z op)

    throws_back : (class : List ℕ) → ThrowsClass x S l b class → ThrowsClass x S l mixed class
    throws_back class (ThrowsClass.listed number there is) =
        let (name, named, thrown) = second.throws.only number there in ThrowsClass.listed number (of_second.all number name named thrown) is
    throws_back class (ThrowsClass.held z h s op slot holds fits e) = absurd (call_throws_nothing x b second z op)

    named_first : HasClassName x.program first.class second.entry.class
    named_first = record { class = first.is_class.class; stands = first.is_class.stands; named = classes }

    from_mixed : (ways : NodeWays) → AreWaysOf x S None l mixed ways → AreWaysOf x S None l b ways
    from_mixed ways are = record {
      raised = landings_as (ThrowsClass x S l mixed) (ThrowsClass x S l b) throws_on throws_back ways.raised.items are.raised;
      called = entered_as (IsCalled x S None mixed) (IsCalled x S None b) (called_on None) (called_back None) ways.called.items are.called;
      described = described_as None ways.described.items are.described;
      started = entered_as (StartsAt x.program mixed) (StartsAt x.program b)
          (λ i starts. starts_as x.program mixed b first.class second.class second.entry.class first.trigger second.trigger named_first second.is_class i starts)
          (λ i starts. starts_as x.program b mixed second.class first.class second.entry.class second.trigger first.trigger second.is_class named_first i starts)
          ways.started.items are.started;
    }

    ops : a.op ≡ b.op
    ops = first.op ∙ ap (λ (m : Method). entry_call (record { 0 = x.entry }) m.signature) entries ∙ sym second.op

    to_mixed : a ≡ mixed
    to_mixed = λ i. record {
      offset = (first.offset ∙ sym second.offset) i;
      op = ops i;
      successors = (first.successors ∙ sym second.successors) i;
      handlers = (first.handlers ∙ sym second.handlers) i;
      trigger = a.trigger;
      throws = a.throws;
    }

    pub calls_alike : (ways : NodeWays) → AreWaysOf x S None l a ways → AreWaysOf x S None l b ways
    calls_alike ways are = from_mixed ways (subst (λ (n : Node). AreWaysOf x S None l n ways) to_mixed are)

-- ---- the return

pub same_return : (a b : Node) → IsStartReturn a → IsStartReturn b → a ≡ b
same_return a b first second =
    (λ i. record {
      offset = (first.offset ∙ sym second.offset) i;
      op = (first.op ∙ sym second.op) i;
      successors = (first.successors ∙ sym second.successors) i;
      handlers = (first.handlers ∙ sym second.handlers) i;
      trigger = (first.trigger ∙ sym second.trigger) i;
      throws = (first.throws ∙ sym second.throws) i;
    })
