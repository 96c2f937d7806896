-- What a node adds, as the sum of what its parts add, of which one numbers the node's call.
use Rattle.std.proofs.Common.{◌≡◌, ◌↔◌, ℕ, ◌<◌, List, length, get_or, Some, Result, Ok, Err, refl, sym, ap, ◌∙◌, subst, inl, inr, ◌⊎◌}
use Rattle.std.specs.List.{slice_get}
use Rattle.std.specs.Result.{OnOk}
use Rattle.std.proofs.lemmas.List.Elements.{All-contains}
use Rattle.jvm_model.specs.declared.number.FieldNo.{FieldNo}
use Rattle.jvm_model.specs.Programs.{Program}
use Rattle.op_model.specs.declared.lowered.LoweredMethod.{LoweredMethod}
use Rattle.op_model.specs.declared.node.Node.{Node}
use Rattle.op_model.specs.declared.op.Call.{Call as NodeCall}
use Rattle.op_model.specs.declared.op.Op.{Op}
use Rattle.op_model.specs.declared.op.Op.TheVariants.{Assign, Load, Store, LoadElement, StoreElement, LoadStatic, StoreStatic, New, NewArray, Constant, Call, Return, Throw, Cast, Probe}
use Rattle.points_to_constraints.specs.Items.{Item as RuleItem}
use Rattle.points_to_rules.specs.WholeMethods.{IsWholeMethod, NamesNumbers}
use Rattle.points_to_constraints.specs.NodeItems.{FlowItem, EnterItem, HandleItem, OpItem, RaiseItem, TriggerItem, NodeItem, flows, enters, handles, operates, raises, triggers}
use Rattle.points_to_methods.specs.NodeCalls.{AddsNode}
use Rattle.points_to_methods.specs.Operations.{IsSimple}
use Rattle.points_to_methods.proofs.NamedSlots.{read_node}
use Rattle.points_to_numbers.specs.declared.item.Item.{Item}
use Rattle.points_to_numbers.specs.Numbered.{Numbered}
use Rattle.points_to_numbers.specs.Steps.{Makes}
use Rattle.points_to_numbers.proofs.Adding.{adds_both, adds_same}
use Rattle.points_to_numbers.proofs.Growing.{grows_on}
use Rattle.slot_names.proofs.ListPlaces.{contains_at}
use Rattle.points_to_methods.proofs.NumberedCalls.{no_call, call_after, call_before}

-- ---- parts

module _ (l : LoweredMethod) (n : Node) where
  -- a part that numbers no call
  pub node_made : (a b : Numbered) (P : RuleItem → Type 0) (xs ys : List Item) → Makes a b P xs ys → AddsNode l n a b P xs ys
  node_made a b P xs ys makes = record { grows = makes.grows; calls = no_call l n a.calls b.calls makes.calls; adds = makes.adds }

  pub node_after : (a b c : Numbered) (P Q : RuleItem → Type 0) (xs ys zs : List Item) → Makes a b P xs ys → AddsNode l n b c Q ys zs → AddsNode l n a c (λ x. P x ⊎ Q x) xs zs
  node_after a b c P Q xs ys zs first second = record {
    grows = grows_on a b c first.grows second.grows;
    calls = call_after l n a.calls b.calls c.calls first.calls second.calls;
    adds = adds_both b c P Q xs ys zs first.adds second.grows second.adds;
  }

  pub node_before : (a b c : Numbered) (P Q : RuleItem → Type 0) (xs ys zs : List Item) → AddsNode l n a b P xs ys → Makes b c Q ys zs → AddsNode l n a c (λ x. P x ⊎ Q x) xs zs
  node_before a b c P Q xs ys zs first second = record {
    grows = grows_on a b c first.grows second.grows;
    calls = call_before l n a.calls b.calls c.calls first.calls second.grows.calls second.calls;
    adds = adds_both b c P Q xs ys zs first.adds second.grows second.adds;
  }

  pub node_same : (a b : Numbered) (P Q : RuleItem → Type 0) (xs ys : List Item) → ((x : RuleItem) → P x ↔ Q x) → AddsNode l n a b P xs ys → AddsNode l n a b Q xs ys
  node_same a b P Q xs ys same added = record { grows = added.grows; calls = added.calls; adds = adds_same b P Q xs ys same added.adds }

-- ---- the operation

-- what an operation is that is no call and no load of a static field
pub simple_left : (o : Op) → ((call : NodeCall) → o ≡ Call call → ⊥) → ((field : FieldNo) (target : ℕ) → o ≡ LoadStatic field target → ⊥) → IsSimple o
simple_left (Assign changes) call load = tt
simple_left (Load object field target) call load = tt
simple_left (Store object field value) call load = tt
simple_left (LoadElement array target) call load = tt
simple_left (StoreElement array value) call load = tt
simple_left (LoadStatic field target) call load = load field target refl
simple_left (StoreStatic field value) call load = tt
simple_left (New site target) call load = tt
simple_left (NewArray sites target) call load = tt
simple_left (Constant site target) call load = tt
simple_left (Call c) call load = call c refl
simple_left (Return value) call load = tt
simple_left (Throw value) call load = tt
simple_left (Cast class slot) call load = tt
simple_left (Probe slot) call load = tt

-- the operation that is read at a place is that of the node that stands there
pub operation_read : (nodes list : List Node) (place : ℕ) (n m : Node) → list ≡ nodes → place < length nodes → m ≡ get_or list place m → slice_get nodes place ≡ Some n
    → (get_or list place m).op ≡ n.op
operation_read nodes list place n m same within is at = ap (λ (k : Node). k.op) (sym is ∙ read_node nodes list place n m same within is at)

-- the numbers of what a node names
pub node_numbers : (p : Program) (l : LoweredMethod) → IsWholeMethod p l.method.0 l → (node : ℕ) (n : Node) → slice_get l.nodes node ≡ Some n → NamesNumbers p n
node_numbers p l is_method node n at = All-contains (NamesNumbers p) l.nodes n is_method.numbers (contains_at l.nodes node n at)

module _ {T E : Type 0} (r : Result T E) (p : Program) (l : LoweredMethod) (n : Node) (a b : Numbered) (xs ys : List Item) where
  -- an operation that numbers no call
  pub simple_made : (o : Op) → o ≡ n.op → OnOk r (Makes a b (OpItem o p l.method l n) xs ys) → OnOk r (AddsNode l n a b (OpItem n.op p l.method l n) xs ys)
  simple_made o is made = node_of_made r (subst (λ (q : Op). OnOk r (Makes a b (OpItem q p l.method l n) xs ys)) is made)
    where
      node_of_made : (s : Result T E) → OnOk s (Makes a b (OpItem n.op p l.method l n) xs ys) → OnOk s (AddsNode l n a b (OpItem n.op p l.method l n) xs ys)
      node_of_made (Ok x) makes = node_made l n a b (OpItem n.op p l.method l n) xs ys makes
      node_of_made (Err e) makes = tt

  pub operation_is : (o : Op) → n.op ≡ o → OnOk r (AddsNode l n a b (OpItem o p l.method l n) xs ys) → OnOk r (AddsNode l n a b (OpItem n.op p l.method l n) xs ys)
  operation_is o is added = subst (λ (q : Op). OnOk r (AddsNode l n a b (OpItem q p l.method l n) xs ys)) (sym is) added

-- ---- the whole

-- the parts in the order in which they are added
abbrev pub PartItem : Program → LoweredMethod → Node → RuleItem → Type 0
PartItem p l n x =
    ((((FlowItem l n x ⊎ EnterItem l.method l n x) ⊎ HandleItem l n x) ⊎ OpItem n.op p l.method l n x) ⊎ RaiseItem p l.method l n x) ⊎ TriggerItem p l.method l n x

pub all_parts : (p : Program) (l : LoweredMethod) (n : Node) (x : RuleItem) → PartItem p l n x ↔ NodeItem p l.method l n x
all_parts p l n x = (λ h. joined h, λ h. parted h)
  where
    joined : PartItem p l n x → NodeItem p l.method l n x
    joined (inl (inl (inl (inl (inl h))))) = flows h
    joined (inl (inl (inl (inl (inr h))))) = enters h
    joined (inl (inl (inl (inr h)))) = handles h
    joined (inl (inl (inr h))) = operates h
    joined (inl (inr h)) = raises h
    joined (inr h) = triggers h

    parted : NodeItem p l.method l n x → PartItem p l n x
    parted (flows h) = inl (inl (inl (inl (inl h))))
    parted (enters h) = inl (inl (inl (inl (inr h))))
    parted (handles h) = inl (inl (inl (inr h)))
    parted (operates h) = inl (inl (inr h))
    parted (raises h) = inl (inr h)
    parted (triggers h) = inr h
