-- What a node does, and what is left, by its kind.
use Rattle.std.proofs.Common.{◌≡◌, ◌⊎◌, inl, inr, List, Option, sym, ◌∙◌, subst}
use Rattle.jvm_model.specs.declared.number.MethodNo.{MethodNo}
use Rattle.op_model.specs.declared.lowered.LoweredMethod.{LoweredMethod}
use Rattle.op_model.specs.declared.node.Node.{Node}
use Rattle.op_model.specs.declared.node.Spot.{Spot}
use Rattle.op_model.specs.declared.node.Spot.TheVariants as spots
use Rattle.op_model.specs.declared.op.Call.{Call as NodeCall}
use Rattle.op_model.specs.declared.op.Op.{Op}
use Rattle.op_model.specs.declared.op.Op.TheVariants.{Call, Return}
use Rattle.ground.specs.Added.{AreAdded, OfOne}
use Rattle.ground.proofs.Adding.{added_as, added_both, added_none}
use Rattle.stage_facts.specs.Facts.{SiteFact}
use Rattle.stage_transfer.specs.Calls.{by_call}
use Rattle.stage_transfer.specs.Stages.{Transfer}
use Rattle.node_ways.specs.declared.ways.NodeWays.{NodeWays}
use Rattle.edge_steps.specs.declared.conclusions.Conclusion.{Conclusion}
use Rattle.edge_steps.specs.declared.conclusions.EnteredWith.{EnteredWith}
use Rattle.edge_steps.specs.Parts.{BegunFrom, Calls, DescribedFrom, Done, IsReturn, LeavesCall, LeftOne, OneAt, OneAtEach}
use Rattle.edge_steps.specs.Parts as parts

one_call : (op : Op) (c d : NodeCall) → op ≡ Call c → op ≡ Call d → c ≡ d
one_call op c d first second = let e : Call c ≡ Call d = sym first ∙ second in cc

no_return : (op : Op) (c : NodeCall) → op ≡ Call c → IsReturn op → ⊥
no_return op c is back = let e : Call c ≡ Return back.value = sym is ∙ back.is_return in cc

module _ (t : Transfer) (l : LoweredMethod) (m : Option MethodNo) (n : Node) (ways : NodeWays) (f : SiteFact) where
  passed : ((call : NodeCall) → n.op ≡ Call call → ⊥) → (IsReturn n.op → ⊥) → (c : Conclusion) → Done t l m n ways f c → OneAtEach n.successors (t.next l n f) c
  passed no_call no_way c (parts.passes other which) = which
  passed no_call no_way c (parts.leaves is which) = absurd (no_way is)
  passed no_call no_way c (parts.answers call is which) = absurd (no_call call is)

  pub passed_added : ((call : NodeCall) → n.op ≡ Call call → ⊥) → (IsReturn n.op → ⊥) → (a b : List Conclusion) → AreAdded (OneAtEach n.successors (t.next l n f)) a b
      → AreAdded (Done t l m n ways f) a b
  passed_added no_call no_way a b added =
      added_as (OneAtEach n.successors (t.next l n f)) (Done t l m n ways f) a b (λ c which. parts.passes no_call which) (passed no_call no_way) added

  either_way : ((call : NodeCall) → n.op ≡ Call call → ⊥) → (c : Conclusion) → Done t l m n ways f c
      → OneAtEach n.successors (t.next l n f) c ⊎ OneAt spots.Returned (t.next l n f) c
  either_way no_call c (parts.passes other which) = inl which
  either_way no_call c (parts.leaves is which) = inr which
  either_way no_call c (parts.answers call is which) = absurd (no_call call is)

  pub returned_added : ((call : NodeCall) → n.op ≡ Call call → ⊥) → IsReturn n.op → (a b c : List Conclusion) → AreAdded (OneAtEach n.successors (t.next l n f)) a b
      → AreAdded (OneAt spots.Returned (t.next l n f)) b c → AreAdded (Done t l m n ways f) a c
  returned_added no_call is a b c first second =
      added_as (λ (x : Conclusion). OneAtEach n.successors (t.next l n f) x ⊎ OneAt spots.Returned (t.next l n f) x) (Done t l m n ways f) a c
      (λ x either. elim either [ inl which ↦ parts.passes no_call which | inr which ↦ parts.leaves is which ])
      (either_way no_call)
      (added_both (OneAtEach n.successors (t.next l n f)) (OneAt spots.Returned (t.next l n f)) a b c first second)

  answered : (call : NodeCall) → n.op ≡ Call call → (c : Conclusion) → Done t l m n ways f c → OfOne (DescribedFrom t l m n call ways.described.items) (t.event l n call f) c
  answered call is c (parts.passes other which) = absurd (other call is)
  answered call is c (parts.leaves back which) = absurd (no_return n.op call is back)
  answered call is c (parts.answers own is_own which) =
      subst (λ (z : NodeCall). OfOne (DescribedFrom t l m n z ways.described.items) (t.event l n z f) c) (one_call n.op own call is_own is) which

  pub answered_added : (call : NodeCall) → n.op ≡ Call call → (a b : List Conclusion) → AreAdded (OfOne (DescribedFrom t l m n call ways.described.items) (t.event l n call f)) a b
      → AreAdded (Done t l m n ways f) a b
  answered_added call is a b added =
      added_as (OfOne (DescribedFrom t l m n call ways.described.items) (t.event l n call f)) (Done t l m n ways f) a b (λ c which. parts.answers call is which) (answered call is) added

  called : (call : NodeCall) → n.op ≡ Call call → (b : EnteredWith) → Calls t l n ways f b → OfOne (BegunFrom t call ways.called.items) (t.event l n call f) b
  called call is b (parts.calls own is_own which) =
      subst (λ (z : NodeCall). OfOne (BegunFrom t z ways.called.items) (t.event l n z f) b) (one_call n.op own call is_own is) which

  pub called_added : (call : NodeCall) → n.op ≡ Call call → (a b : List EnteredWith) → AreAdded (OfOne (BegunFrom t call ways.called.items) (t.event l n call f)) a b
      → AreAdded (Calls t l n ways f) a b
  called_added call is a b added =
      added_as (OfOne (BegunFrom t call ways.called.items) (t.event l n call f)) (Calls t l n ways f) a b (λ e which. parts.calls call is which) (called call is) added

  none_called : ((call : NodeCall) → n.op ≡ Call call → ⊥) → (b : EnteredWith) → Calls t l n ways f b → ⊥
  none_called no_call b (parts.calls own is_own which) = no_call own is_own

  pub no_method_added : ((call : NodeCall) → n.op ≡ Call call → ⊥) → (a : List EnteredWith) → AreAdded (Calls t l n ways f) a a
  no_method_added no_call a = added_none (Calls t l n ways f) a (none_called no_call)

module _ (t : Transfer) (l : LoweredMethod) (n : Node) (ways : NodeWays) (f : SiteFact) (target : MethodNo) (entry : SiteFact) (spot : Spot) (out : SiteFact) where
  left : (call : NodeCall) → n.op ≡ Call call → (c : Conclusion) → LeavesCall t l n ways f target entry spot out c
      → OfOne (LeftOne t l n (by_call call) target entry spot out ways.called.items) (t.event l n call f) c
  left call is c (parts.ends own is_own which) =
      subst (λ (z : NodeCall). OfOne (LeftOne t l n (by_call z) target entry spot out ways.called.items) (t.event l n z f) c) (one_call n.op own call is_own is) which

  pub left_added : (call : NodeCall) → n.op ≡ Call call → (a b : List Conclusion)
      → AreAdded (OfOne (LeftOne t l n (by_call call) target entry spot out ways.called.items) (t.event l n call f)) a b → AreAdded (LeavesCall t l n ways f target entry spot out) a b
  left_added call is a b added =
      added_as (OfOne (LeftOne t l n (by_call call) target entry spot out ways.called.items) (t.event l n call f)) (LeavesCall t l n ways f target entry spot out) a b
      (λ c which. parts.ends call is which) (left call is) added

  none_left : ((call : NodeCall) → n.op ≡ Call call → ⊥) → (c : Conclusion) → LeavesCall t l n ways f target entry spot out c → ⊥
  none_left no_call c (parts.ends own is_own which) = no_call own is_own

  pub nothing_left : ((call : NodeCall) → n.op ≡ Call call → ⊥) → (a : List Conclusion) → AreAdded (LeavesCall t l n ways f target entry spot out) a a
  nothing_left no_call a = added_none (LeavesCall t l n ways f target entry spot out) a (none_left no_call)
