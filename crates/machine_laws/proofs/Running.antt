-- The machine goes on at a node, operation by operation.
use Rattle.std.proofs.Common.{◌≡◌, inl, inr, Option, ℕ, refl, sym, ap, ◌∙◌}
use Rattle.op_model.specs.declared.op.Op.{Op}
use Rattle.op_model.specs.declared.op.Op.TheVariants.{Assign, Load, Store, LoadElement, StoreElement, LoadStatic, StoreStatic, New, NewArray, Constant, Call, Return, Throw, Cast, Probe}
use Rattle.op_model.specs.Supplies.{Given}
use Rattle.jvm_model.specs.Table.{null_pointer}
use Rattle.machine_bytecode.specs.Machine.{exception_class}
use Rattle.machine_bytecode.specs.Objects.{Subject}
use Rattle.machine_bytecode.specs.States.{State, slot_at}
use Rattle.machine_nodes.specs.NodeSteps.{AtNode, advances, returns, resumes, ends, throws}
use Rattle.machine_laws.proofs.ProgressDecided.{DecidesSubtypes}
use Rattle.machine_laws.specs.NodeProgress.{GoesOn, CanAdvance, CanReturn, after_call, after_initialiser, of_start, CanThrow, MayRaise, IsReadyOp}
use Rattle.machine_laws.proofs.Calls.{calls, returns_to, resumes_it, ends_it}
use Rattle.machine_laws.proofs.Operations.{operations_go_on}
use Rattle.machine_laws.proofs.Thrown.{throws_object, raises_listed}

advances_it : (x : Subject) (given : Given) (s : State) (at : AtNode x given s) → CanAdvance x given s at → GoesOn x given s
advances_it x given s at can =
    let g = operations_go_on x given s at can.0 can.1.0 can.1.1 in
    record { next = g.1.next; step = advances at g.1.step }

leaves : (x : Subject) (given : Given) (s : State) (at : AtNode x given s) (value : Option ℕ) → at.now.node.op ≡ Return value → CanReturn x given at.frame at.below → GoesOn x given s
leaves x given s at value is (after_call caller rest below waits now call is_call next) =
    let r = returns_to x given s at value is caller rest below waits now call is_call next.0 next.1 in
    record { next = r.next; step = returns at r.step }
leaves x given s at value is (after_initialiser caller rest below resumed) =
    let r = resumes_it x given s at value is caller rest below resumed in
    record { next = r.0; step = resumes at r.1 }
leaves x given s at value is (of_start none) =
    let e = ends_it x given s at value is none in
    record { next = e.0; step = ends at e.1 }

throws_it : (x : Subject) (given : Given) (s : State) (at : AtNode x given s) (value : ℕ) → at.now.node.op ≡ Throw value → CanThrow x s.world at.now.node.throws (slot_at at.frame.slots value) → GoesOn x given s
throws_it x given s at value is (inl thrown) =
    let t = throws_object x given s at value is thrown in
    record { next = t.0; step = throws at t.1 }
throws_it x given s at value is (inr null) =
    let r = raises_listed x given s at null.1.number (exception_class null_pointer) null.1.listed null.1.is_class may in
    record { next = r.next; step = r.step }
  where
    may : MayRaise at.now.node.op at.frame.slots (exception_class null_pointer)
    may other is_other of =
        let same_throw : Throw value ≡ Throw other = sym is ∙ is_other in
        let same : value ≡ other = cc in
        ap (slot_at at.frame.slots) (sym same) ∙ null.0

goes_by : (x : Subject) → DecidesSubtypes x.program → (given : Given) (s : State) (at : AtNode x given s) (op : Op) → at.now.node.op ≡ op → IsReadyOp op x given s at → GoesOn x given s
goes_by x decides given s at (Assign moves) is ready = advances_it x given s at ready
goes_by x decides given s at (Load object field target) is ready = advances_it x given s at ready
goes_by x decides given s at (Store object field value) is ready = advances_it x given s at ready
goes_by x decides given s at (LoadElement array target) is ready = advances_it x given s at ready
goes_by x decides given s at (StoreElement array value) is ready = advances_it x given s at ready
goes_by x decides given s at (LoadStatic field target) is ready = advances_it x given s at ready
goes_by x decides given s at (StoreStatic field value) is ready = advances_it x given s at ready
goes_by x decides given s at (New site target) is ready = advances_it x given s at ready
goes_by x decides given s at (NewArray sites target) is ready = advances_it x given s at ready
goes_by x decides given s at (Constant site target) is ready = advances_it x given s at ready
goes_by x decides given s at (Call call) is ready = calls x decides given s at call is ready.0 ready.1
goes_by x decides given s at (Return value) is ready = leaves x given s at value is ready
goes_by x decides given s at (Throw value) is ready = throws_it x given s at value is ready
goes_by x decides given s at (Cast class slot) is ready = advances_it x given s at ready
goes_by x decides given s at (Probe slot) is ready = advances_it x given s at ready

pub running_goes_on : (x : Subject) → DecidesSubtypes x.program → (given : Given) (s : State) (at : AtNode x given s) → IsReadyOp at.now.node.op x given s at → GoesOn x given s
running_goes_on x decides given s at ready = goes_by x decides given s at at.now.node.op refl ready
