-- The methods that a folder's supplier gives as nodes throw plainly: athrow raises NullPointerException alone, and starts no initialisation
-- (JVMS 5.5, 6.5.athrow). And they make no arrays at a site of a class.
use Rattle.std.proofs.Common.{◌≡◌, ◌⊎◌, inl, inr, ℕ, ◌+◌, Bool, true, false, if◌then◌else◌, List, Option, Some, None, Ok, Contains, refl, sym, ap, ◌∙◌, subst, true≢false}
use Rattle.std.specs.Bool.{MatchBool, IsTrue}
use Rattle.std.specs.List.{list_all}
use Rattle.std.proofs.lemmas.Bool.{false≢true}
use Rattle.std.proofs.lemmas.Option.{none-some}
use Rattle.list_laws.proofs.Places.{placed}
use Rattle.jvm_model.specs.declared.code.Code.{Code}
use Rattle.jvm_model.specs.declared.number.ClassNo.{ClassNo}
use Rattle.jvm_model.specs.declared.number.FieldNo.{FieldNo}
use Rattle.jvm_model.specs.declared.site.Site.{Site}
use Rattle.jvm_model.specs.Instructions.{DecodedInstruction}
use Rattle.jvm_model.specs.Names.{IsClassName}
use Rattle.jvm_model.specs.Programs.{Program}
use Rattle.jvm_model.specs.Table.{Row, rows, row_of, Action, plain, load_constant, load_element, store_element, probe_element, probe_array, probe_object, get_static, put_static, get_field, put_field, invoke_virtual, invoke_special, invoke_static, invoke_interface, make_object, make_array, throw_object, cast, leave_method, refused, is_trigger, Raise, null_pointer, array_index, array_store, arithmetic, class_cast, negative_size}
use Rattle.flow_graph.specs.declared.steps.Graph.{Graph}
use Rattle.flow_graph.specs.declared.steps.GraphStep.{GraphStep}
use Rattle.flow_graph.specs.Effects.{with_row}
use Rattle.op_model.specs.declared.lowered.LoweredMethod.{LoweredMethod}
use Rattle.op_model.specs.declared.node.Node.{Node}
use Rattle.op_model.specs.declared.op.Op.{Op}
use Rattle.op_model.specs.declared.op.Op.TheVariants.{Assign, Load, Store, LoadStatic, StoreStatic, NewArray, Throw, Probe}
use Rattle.op_model.specs.Supplies.{IsCodedMethod}
use Rattle.machine_bytecode.specs.Machine.{exception_class}
use Rattle.machine_bytecode.specs.States.{is_reference_type}
use Rattle.machine_nodes.specs.Nodes.{IsThrownAt, raised, initialising}
use Rattle.lowering.specs.Refusals.{IsAccepted}
use Rattle.lowering_spec.specs.LoweredMethods.{HasTrigger, no_trigger, for_class, IsNodeOf}
use Rattle.lowering_spec.specs.Operations.{Placed, IsAssign, IsFieldOp, IsOp, IsStaticOp, field_no}
use Rattle.lowering_supply.specs.Supplied.{IsSupplied, IsSupplyOutcome, bad_code, bad_flow, not_lowered, lowered}
use Rattle.coverage.proofs.Throws.{class_is}
use Rattle.simulation.proofs.Pairs.{first_of}
use Rattle.simulation.proofs.Rows.{all_at, shaped}
use Rattle.simulation.proofs.Whole.{supplied_arrays}
use Rattle.stage_soundness.specs.Describing.{ThrowsPlainly, AreThrownPlainly}

-- ---- the table: what throws an object raises NullPointerException alone

abbrev is_null_pointer : Raise → Bool
is_null_pointer null_pointer = true
is_null_pointer array_index = false
is_null_pointer array_store = false
is_null_pointer arithmetic = false
is_null_pointer class_cast = false
is_null_pointer negative_size = false

null_pointer_is : (r : Raise) → is_null_pointer r ≡ true → r ≡ null_pointer
null_pointer_is null_pointer e = refl
null_pointer_is array_index e = absurd (false≢true e)
null_pointer_is array_store e = absurd (false≢true e)
null_pointer_is arithmetic e = absurd (false≢true e)
null_pointer_is class_cast e = absurd (false≢true e)
null_pointer_is negative_size e = absurd (false≢true e)

abbrev throws_object : Action → Bool
throws_object throw_object = true
throws_object _ = false

abbrev row_raises : Row → Bool
row_raises r = if throws_object r.action then list_all is_null_pointer r.raises else true

all_raise : list_all row_raises rows ≡ true
all_raise = refl

raises_null : (opcode : ℕ) (r : Row) → row_of opcode ≡ Some r → r.action ≡ throw_object → list_all is_null_pointer r.raises ≡ true
raises_null opcode r of act =
    subst (λ (a : Action). (if throws_object a then list_all is_null_pointer r.raises else true) ≡ true) act (all_at row_raises rows opcode r all_raise of)

-- of an instruction, whose row may have other units than the table's
raises_only : (opcode : ℕ) (of_opcode r : Row) → row_of opcode ≡ Some of_opcode → r.raises ≡ of_opcode.raises
    → (r.action ≡ of_opcode.action) ⊎ (r.action ≡ plain) → r.action ≡ throw_object → (raise : Raise)
    → Contains r.raises raise → raise ≡ null_pointer
raises_only opcode of_opcode r of same (inr moves) act raise there = absurd (false≢true (ap throws_object (sym moves ∙ act)))
raises_only opcode of_opcode r of same (inl acts) act raise there =
    let all : list_all is_null_pointer r.raises ≡ true = ap (list_all is_null_pointer) same ∙ raises_null opcode of_opcode of (sym acts ∙ act) in
    null_pointer_is raise (all_at is_null_pointer r.raises there.0 raise all (placed r.raises raise there))

-- ---- the action of a throw

abbrev is_throw : Op → Bool
is_throw (Throw value) = true
is_throw _ = false

not_throw : (op is : Op) (value : ℕ) → op ≡ Throw value → op ≡ is → is_throw is ≡ false → ⊥
not_throw op is value e other none = true≢false (sym (ap is_throw e) ∙ ap is_throw other ∙ none)

module _ (i : Placed) (op : Op) (value : ℕ) (e : op ≡ Throw value) where
  no_move : IsAssign i op → ⊥
  no_move a = not_throw op (Assign a.moves) value e a.is refl

  no_static : (of : FieldNo → Op) → ((f : FieldNo) → is_throw (of f) ≡ false) → IsStaticOp i of op → ⊥
  no_static of none s = by (is_reference_type s.names.field.signature.descriptor) s.is
    where
      by : (b : Bool) → MatchBool b (op ≡ of (field_no s.names.number)) (IsAssign i op) → ⊥
      by true is = not_throw op (of (field_no s.names.number)) value e is (none (field_no s.names.number))
      by false a = no_move a

  no_field : (of : FieldNo → Op) → ((f : FieldNo) → is_throw (of f) ≡ false) → IsFieldOp i of op → ⊥
  no_field of none f = by (is_reference_type f.names.field.signature.descriptor) f.is
    where
      by : (b : Bool) → op ≡ (if b then of (field_no f.names.number) else Probe i.base) → ⊥
      by true is = not_throw op (of (field_no f.names.number)) value e is (none (field_no f.names.number))
      by false is = not_throw op (Probe i.base) value e is refl

  action_is : (a : Action) → IsOp a i op → a ≡ throw_object
  action_is plain is = absurd (no_move is)
  action_is load_constant is = absurd (not_throw op _ value e is.2 refl)
  action_is load_element is = absurd (not_throw op _ value e is refl)
  action_is store_element is = absurd (not_throw op _ value e is refl)
  action_is probe_element is = absurd (not_throw op _ value e is refl)
  action_is probe_array is = absurd (not_throw op _ value e is refl)
  action_is probe_object is = absurd (not_throw op _ value e is refl)
  action_is get_static is = absurd (no_static (λ f. LoadStatic f i.base) (λ f. refl) is)
  action_is put_static is = absurd (no_static (λ f. StoreStatic f i.base) (λ f. refl) is)
  action_is get_field is = absurd (no_field (λ f. Load i.base f i.base) (λ f. refl) is)
  action_is put_field is = absurd (no_field (λ f. Store i.base f (i.base + 1)) (λ f. refl) is)
  action_is invoke_virtual is = absurd (not_throw op _ value e is.is refl)
  action_is invoke_special is = absurd (not_throw op _ value e is.is refl)
  action_is invoke_static is = absurd (not_throw op _ value e is.is refl)
  action_is invoke_interface is = absurd (not_throw op _ value e is.is refl)
  action_is make_object is = absurd (not_throw op _ value e is.1 refl)
  action_is make_array is = absurd (not_throw op _ value e is.2 refl)
  action_is throw_object is = refl
  action_is cast is = absurd (not_throw op _ value e is.1 refl)
  action_is leave_method is = absurd (not_throw op _ value e is refl)
  action_is refused is = absurd is

-- ---- a node

-- a throw starts no initialisation
record StartsNone (trigger : Option ClassNo) (class : Option (List ℕ)) : Type 0 where
  none : trigger ≡ None
  no_class : class ≡ None

starts_none : (i : Placed) (trigger : Option ClassNo) (class : Option (List ℕ)) → i.row.action ≡ throw_object → HasTrigger i trigger class
    → StartsNone trigger class
starts_none i trigger class act (no_trigger is none no_class) = record { none = none; no_class = no_class }
starts_none i trigger class act (for_class is name number concerned named some some_class) =
    absurd (false≢true (subst (λ (a : Action). IsTrue (is_trigger a)) act is))

thrown_is : (p : Program) (raises : List Raise) (trigger : Option (List ℕ)) (name : List ℕ) → ((raise : Raise) → Contains raises raise → raise ≡ null_pointer)
    → trigger ≡ None → IsThrownAt p raises trigger name
    → name ≡ exception_class null_pointer
thrown_is p raises trigger name only none (raised raise there is) = is ∙ ap exception_class (only raise there)
thrown_is p raises trigger name only none (initialising class starts has error) = absurd (none-some class (sym none ∙ starts))

module _ (p : Program) (number : ℕ) (code : Code) (graph : Graph) (l : LoweredMethod) (a : IsAccepted p number code graph l) where
  node_plain : (step : GraphStep) (n : Node) → IsNodeOf p number a.lowered.method a.own.file.pool code step n → ThrowsPlainly p n
  node_plain step n is = record {
    listed = λ value c class throws there named.
        let only = is.throws.only c there in
        class_is p c class only.0 named only.1
        ∙ thrown_is p is.instruction.row.raises is.trigger_class only.0 (raises (action value throws))
        (starts_none is.instruction n.trigger is.trigger_class (action value throws) is.trigger).no_class only.2;
    untriggered = λ value throws. (starts_none is.instruction n.trigger is.trigger_class (action value throws) is.trigger).none;
  }
    where
      action : (value : ℕ) → n.op ≡ Throw value → is.instruction.row.action ≡ throw_object
      action value throws = action_is is.instruction n.op value throws is.instruction.row.action is.op

      raises : is.instruction.row.action ≡ throw_object → (raise : Raise) → Contains is.instruction.row.raises raise → raise ≡ null_pointer
      raises act =
          let at = is.placed in
          let row : is.instruction.row ≡ at.row = ap (λ (i : Placed). i.row) at.is in
          let j : DecodedInstruction = with_row at.placed.instruction at.opcode_row in
          let keeps = (shaped a.own.file.pool j at.row at.of_opcode at.of_row).keeps in
          subst (λ (r : Row). (raise : Raise) → Contains r.raises raise → raise ≡ null_pointer) (sym row)
          (raises_only at.placed.instruction.opcode at.opcode_row at.row at.of_opcode keeps.raises keeps.action (ap (λ (r : Row). r.action) (sym row) ∙ act))

  accepted_plain : (n : Node) → Contains l.nodes n → ThrowsPlainly p n
  accepted_plain n there =
      let s = first_of (IsNodeOf p number a.lowered.method a.own.file.pool code) graph.steps l.nodes n a.lowered.nodes there in
      node_plain s.0 n s.2

-- ---- methods that are supplied

abbrev ArePlain : Program → LoweredMethod → Type 0
ArePlain p l = (n : Node) → Contains l.nodes n → ThrowsPlainly p n

plain_by : (p : Program) (number : ℕ) (coded : IsCodedMethod p number) (l : LoweredMethod)
    → IsSupplyOutcome p number coded.method coded.file coded.place (Ok l) → ArePlain p l
plain_by p number coded l (bad_code fault read r refusal e) = absurd cc
plain_by p number coded l (bad_flow code read offset reason fault r refusal e) = absurd cc
plain_by p number coded l (not_lowered code read graph graphed r refusal e) = absurd cc
plain_by p number coded l (lowered code read graph graphed k accepted ordered e) =
    let same : k ≡ l = cc in
    subst (λ (m : LoweredMethod). ArePlain p m) same (accepted_plain p number code graph k accepted)

pub supplied_throw_plainly : (p : Program) → AreThrownPlainly p (IsSupplied p)
supplied_throw_plainly p number l n given there = plain_by p number given.coded l given.outcome n there

-- a site of a class is none of an array that they make
pub supplied_make_no_arrays : (p : Program) (s : Site) → IsClassName s.class → (number : ℕ) (l : LoweredMethod) (n : Node) (sites : List Site) (target : ℕ)
    → IsSupplied p number (Ok l) → Contains l.nodes n
    → n.op ≡ NewArray sites target → Contains sites s → ⊥
supplied_make_no_arrays p s named number l n sites target given there makes among = supplied_arrays p number l given n sites target there makes s among named
