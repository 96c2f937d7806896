-- The node that is made of the parts of an instruction.
use Rattle.std.proofs.Common.{◌≡◌, ℕ, List, Option, Some, None, refl, sym, ap, ◌∙◌, subst}
use Rattle.std.specs.List.{AllZip, Contains, slice_get}
use Rattle.std.proofs.lemmas.Option.{none-some, same_Some}
use Rattle.jvm_model.specs.declared.code.Handler.{Handler}
use Rattle.jvm_model.specs.declared.number.ClassNo.{ClassNo}
use Rattle.jvm_model.specs.declared.pool.PoolEntry.{PoolEntry}
use Rattle.jvm_model.specs.declared.pool.PoolEntry.TheVariants.{Integer, Float, Str, Class, MethodHandle, MethodType}
use Rattle.jvm_model.specs.Instructions.{DecodedInstruction, RowBy, array_row, constant_row}
use Rattle.jvm_model.specs.Lookups.{entry_at}
use Rattle.jvm_model.specs.Programs.{Method, Program}
use Rattle.jvm_model.specs.RowViews.{row_view}
use Rattle.jvm_model.specs.Table.{Row, Operands, pool_2_and_dimensions, is_trigger, Action, plain, load_constant, load_element, store_element, probe_element, probe_array, probe_object, get_static, put_static, get_field, put_field, invoke_virtual, invoke_special, invoke_static, invoke_interface, make_object, make_array, throw_object, cast, leave_method, refused}
use Rattle.std.specs.Option.{option_and_then}
use Rattle.program_model.specs.Numbers.{name_at}
use Rattle.flow_graph.specs.declared.steps.GraphStep.{GraphStep}
use Rattle.flow_graph.specs.Effects.{with_row}
use Rattle.lowering_spec.specs.LoweredMethods.{HasTrigger, no_trigger, for_class, IsHandlerAt}
use Rattle.lowering_spec.specs.Operations.{Placed}
use Rattle.machine_nodes.specs.Nodes.{AreThrownAt}
use Rattle.lowering_handlers.specs.Exceptions.{IsTriggerOf, IsThrownList, no_class, a_class as of_class}
use Rattle.op_model.specs.declared.node.NodeHandler.{NodeHandler}
use Rattle.op_model.specs.declared.op.Op.{Op}
use Rattle.lowering.specs.Bodies.{HasStepOperation, HasStepOrder, IsJudgedStep, IsMethodCode, IsNodeAt, IsOrderedAt, TriggersAt, nothing, a_class}
use Rattle.lowering.specs.declared.body.JudgedStep.{JudgedStep}
use Rattle.lowering.specs.declared.body.MethodCode.{MethodCode}

-- ---- the row of an instruction raises what that of its opcode does, and starts initialisers where that does

record Keeps (old new : Row) : Type 0 where
  pub raises : new.raises ≡ old.raises
  pub trigger : is_trigger new.action ≡ is_trigger old.action

kept : (old new made : Row) → new ≡ made → made.raises ≡ old.raises → is_trigger made.action ≡ is_trigger old.action → Keeps old new
kept old new made e raises trigger = record { raises = ap (λ (r : Row). r.raises) e ∙ raises; trigger = ap (λ (r : Row). is_trigger r.action) e ∙ trigger }

keeps_constant : (old new : Row) (entry : PoolEntry) → old.action ≡ load_constant → constant_row old entry ≡ Some new → Keeps old new
keeps_constant old new (Integer bits) a e = kept old new _ (sym (same_Some _ new e)) refl (sym (ap is_trigger a))
keeps_constant old new (Float bits) a e = kept old new _ (sym (same_Some _ new e)) refl (sym (ap is_trigger a))
keeps_constant old new (Str text) a e = kept old new _ (sym (same_Some _ new e)) refl refl
keeps_constant old new (Class name) a e = kept old new _ (sym (same_Some _ new e)) refl refl
keeps_constant old new (MethodHandle kind member) a e = kept old new _ (sym (same_Some _ new e)) refl refl
keeps_constant old new (MethodType descriptor) a e = kept old new _ (sym (same_Some _ new e)) refl refl
keeps_constant old new _ a e = absurd (none-some new e)

keeps_loaded : (old new : Row) (entry : Option PoolEntry) → old.action ≡ load_constant → option_and_then (constant_row old) entry ≡ Some new → Keeps old new
keeps_loaded old new None a e = absurd (none-some new e)
keeps_loaded old new (Some entry) a e = keeps_constant old new entry a e

keeps_array : (i : DecodedInstruction) (new : Row) (o : Operands) → new ≡ array_row o i → Keeps i.row new
keeps_array i new pool_2_and_dimensions e = kept i.row new _ e refl refl
keeps_array i new _ e = kept i.row new i.row e refl refl

keeps : (a : Action) (pool : List PoolEntry) (i : DecodedInstruction) (new : Row) → i.row.action ≡ a → RowBy a pool i new → Keeps i.row new
keeps plain pool i new a is = kept i.row new i.row is refl refl
keeps load_constant pool i new a is = keeps_loaded i.row new (entry_at pool i.operand) a is
keeps load_element pool i new a is = kept i.row new i.row is refl refl
keeps store_element pool i new a is = kept i.row new i.row is refl refl
keeps probe_element pool i new a is = kept i.row new i.row is refl refl
keeps probe_array pool i new a is = kept i.row new i.row is refl refl
keeps probe_object pool i new a is = kept i.row new i.row is refl refl
keeps get_static pool i new a is = kept i.row new _ is.row_is refl refl
keeps put_static pool i new a is = kept i.row new _ is.row_is refl refl
keeps get_field pool i new a is = kept i.row new _ is.row_is refl refl
keeps put_field pool i new a is = kept i.row new _ is.row_is refl refl
keeps invoke_virtual pool i new a is = kept i.row new _ is.row_is refl refl
keeps invoke_special pool i new a is = kept i.row new _ is.row_is refl refl
keeps invoke_static pool i new a is = kept i.row new _ is.row_is refl refl
keeps invoke_interface pool i new a is = kept i.row new _ is.row_is refl refl
keeps make_object pool i new a is = kept i.row new i.row is refl refl
keeps make_array pool i new a is = keeps_array i new i.row.operands is
keeps throw_object pool i new a is = kept i.row new i.row is refl refl
keeps cast pool i new a is = kept i.row new i.row is refl refl
keeps leave_method pool i new a is = kept i.row new i.row is refl refl
keeps refused pool i new a is = kept i.row new i.row is refl refl

-- ---- the parts of the node

module _ (b : MethodCode) (known : IsMethodCode b) (step : GraphStep) (j : JudgedStep) (is : IsJudgedStep b step j) (op : Op) (has : HasStepOperation b step j op) where
  abbrev placed : Placed
  placed = record {
    program = b.program.now;
    method = b.method.0;
    current = name_at b.program.now b.current.0;
    pool = b.class.now.pool;
    instruction = with_row j.placed.now.instruction (row_view j.row.now);
    offset = step.offset;
    row = has.row;
    base = has.base;
  }

  row : Keeps (row_view j.row.now) has.row
  row = keeps (row_view j.row.now).action b.class.now.pool (with_row j.placed.now.instruction (row_view j.row.now)) has.row refl has.of_row

  record IsTriggered (trigger : Option ClassNo) : Type 0 where
    pub class : Option (List ℕ)
    pub triggers : HasTrigger placed trigger class
    pub of : IsTriggerOf b.program.now trigger class

  triggered : (trigger : Option ClassNo) → TriggersAt b j trigger → IsTriggered trigger
  triggered trigger (nothing none e) = record { class = None; triggers = no_trigger (row.trigger ∙ none) e refl; of = no_class e refl }
  triggered trigger (a_class some name number concerns number_of e) =
      record { class = Some name; triggers = for_class (row.trigger ∙ some) name number concerns number_of e refl; of = of_class number name number_of e refl }

  abbrev the_node : (successors : List ℕ) (handlers : List NodeHandler) (trigger : Option ClassNo) (throws : List ClassNo) → successors ≡ step.successors
      → AllZip (IsHandlerAt b.program.now b.class.now.pool b.code.now.handlers) step.handlers handlers → TriggersAt b j trigger
      → ((name : Option (List ℕ)) → IsTriggerOf b.program.now trigger name → AreThrownAt b.program.now (row_view j.row.now).raises name throws)
      → IsNodeAt b step (record { offset = step.offset; op = op; successors = successors; handlers = handlers; trigger = trigger; throws = throws })
  the_node successors handlers trigger throws same handled triggers thrown = λ m stands. record {
    instruction = placed;
    placed = record {
      placed = j.placed.now;
      stands = is.stands;
      offset = is.offset;
      opcode_row = row_view j.row.now;
      of_opcode = is.of_opcode;
      row = has.row;
      of_row = has.of_row;
      base = has.base;
      lowest = has.lowest;
      is = ap in_class (class m stands);
    };
    offset = refl;
    op = has.is;
    successors = λ next. (subst (λ (all : List ℕ). Contains all next) same, subst (λ (all : List ℕ). Contains all next) (sym same));
    handlers = handled;
    trigger_class = (triggered trigger triggers).class;
    trigger = (triggered trigger triggers).triggers;
    throws = raises (triggered trigger triggers).class (thrown (triggered trigger triggers).class (triggered trigger triggers).of);
  }
    where
      class : (m : Method) → slice_get b.program.now.methods b.method.0 ≡ Some m → name_at b.program.now b.current.0 ≡ m.class
      class m stands = known.of_class ∙ ap (λ (n : Method). n.class) (same_Some known.method m (sym known.stands ∙ stands))

      in_class : List ℕ → Placed
      in_class class = record {
        program = b.program.now;
        method = b.method.0;
        current = class;
        pool = b.class.now.pool;
        instruction = with_row j.placed.now.instruction (row_view j.row.now);
        offset = step.offset;
        row = has.row;
        base = has.base;
      }

      raises : (name : Option (List ℕ)) → AreThrownAt b.program.now (row_view j.row.now).raises name throws → AreThrownAt b.program.now has.row.raises name throws
      raises name h = subst (λ (all : _). AreThrownAt b.program.now all name throws) (sym row.raises) h

  -- and it is in order
  pub ordered_node : (successors : List ℕ) (handlers : List NodeHandler) (trigger : Option ClassNo) (throws : List ClassNo) → (same : successors ≡ step.successors)
      → (handled : AllZip (IsHandlerAt b.program.now b.class.now.pool b.code.now.handlers) step.handlers handlers) → (triggers : TriggersAt b j trigger)
      → (thrown : (name : Option (List ℕ)) → IsTriggerOf b.program.now trigger name → AreThrownAt b.program.now (row_view j.row.now).raises name throws)
      → HasStepOrder b step j op → ((name : Option (List ℕ)) → IsTriggerOf b.program.now trigger name → IsThrownList b.program.now (row_view j.row.now).raises name throws)
      → IsOrderedAt b step (record { offset = step.offset; op = op; successors = successors; handlers = handlers; trigger = trigger; throws = throws })
  ordered_node successors handlers trigger throws same handled triggers thrown order listed = λ m stands. record {
    node = the_node successors handlers trigger throws same handled triggers thrown m stands;
    op = order.for_row has.row has.of_row has.base has.lowest;
    successors = same;
    throws = subst (λ (all : _). IsThrownList b.program.now all (triggered trigger triggers).class throws) (sym row.raises) (listed (triggered trigger triggers).class (triggered trigger triggers).of);
  }

-- ---- the handlers of the node

pub same_handlers : (p : Program) (pool given_pool : List PoolEntry) (handlers given_handlers : List Handler) (places given_places : List ℕ) (items made : List NodeHandler) → given_pool ≡ pool → given_handlers ≡ handlers
    → given_places ≡ places → made ≡ items → AllZip (IsHandlerAt p given_pool given_handlers) given_places items → AllZip (IsHandlerAt p pool handlers) places made
same_handlers p pool given_pool handlers given_handlers places given_places items made pool_is handlers_are places_are made_is h =
    subst (λ (all : List NodeHandler). AllZip (IsHandlerAt p pool handlers) places all) (sym made_is)
    (subst (λ (all : List ℕ). AllZip (IsHandlerAt p pool handlers) all items) places_are
    (subst (λ (all : List Handler). AllZip (IsHandlerAt p pool all) given_places items) handlers_are
    (subst (λ (all : List PoolEntry). AllZip (IsHandlerAt p all given_handlers) given_places items) pool_is h)))
