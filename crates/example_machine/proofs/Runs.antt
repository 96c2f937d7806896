-- Executions up to a state, and steps from it: the first state of a program, the call of its entry, and steps of instructions.
use Rattle.std.proofs.Common.{◌≡◌, ℕ, zero, suc, ◌+◌, ◌-◌, Bool, true, false, ◌&&◌, cond, nat_lt, List, [], ◌∷◌, ◌++◌, length, map, take, drop, All, Contains, Option, Some, None, Result, Ok, Err, slice_get, refl, sym, ap, subst, append_assoc, true≢false, take-append-drop, ltb-true, arith, option_and_then}
use Rattle.std.specs.List.{list_all, AllZip}
use Rattle.std.specs.Option.{option_map_or}
use Rattle.std.proofs.lemmas.Bool.{and_parts}
use Rattle.std.proofs.lemmas.List.Elements.{All-nil, All-weaker}
use Rattle.std.proofs.lemmas.List.Sums.{AllPass-from_list_all}
use Rattle.std.proofs.lemmas.Option.{same_Some, none-some}
use Rattle.jvm_model.specs.declared.class_file.ClassFile.{ClassFile}
use Rattle.jvm_model.specs.declared.class_file.Attribute.{Attribute}
use Rattle.jvm_model.specs.declared.code.Handler.{Handler}
use Rattle.jvm_model.specs.declared.pool.PoolEntry.{PoolEntry}
use Rattle.jvm_model.specs.declared.reason.Reason.{Reason}
use Rattle.jvm_model.specs.Code.{CodeBody, HandlerFits, IsCode, spell_code}
use Rattle.jvm_model.specs.Instructions.{DecodedInstruction, instruction_at, IsRowAt, RowBy}
use Rattle.jvm_model.specs.Programs.{Program, Method, Field, in_file}
use Rattle.jvm_model.specs.Soundness.{is_code}
use Rattle.jvm_model.specs.Spelling.{AttributeFits}
use Rattle.jvm_model.specs.Table.{Row, UnitKind, any_kind, primitive, reference, Flow, onward, Action, plain, Raise}
use Rattle.machine_bytecode.specs.Executions.{IsExecution}
use Rattle.machine_bytecode.specs.Machine.{MethodCode, AtInstruction, At, AtStart, Makes, Goes, HasKind, HasOperands, effect, IsOpen, exception_class, entered, Step, advances, enters_entry}
use Rattle.machine_bytecode.specs.Objects.{Subject}
use Rattle.machine_bytecode.specs.Start.{arguments_of, AreArgumentObjects, BeginsAs, no_field, holding, by_default, held_place, start_frame, boot_object, boot_classes}
use Rattle.machine_bytecode.specs.States.{Value, primitive_value, null_value, reference_to, Object, Frame, World, State, runs_on, throws_on, waiting, site_at, new_object, with_object, default_value}
use Rattle.jvm_model.specs.declared.site.SiteKind.TheVariants.{Thrown}
use Rattle.machine_bytecode.proofs.GoingOn.{goes_on}
use Rattle.example_machine.specs.Building.{method}
use Rattle.example_machine.specs.Taking.{Takes, Advancing, Raising}

-- ---- executions up to a state

pub record Arrives (x : Subject) (s : State) : Type 0 where
  pub states : List State
  pub run : IsExecution x (states ++ s ∷ [])

pub goes : (x : Subject) (s t : State) → Arrives x s → Step x s t → Arrives x t
goes x s t a step = record {
  states = a.states ++ s ∷ [];
  run = subst (IsExecution x) (sym (append_assoc a.states (s ∷ []) (t ∷ []))) (goes_on x a.states s t a.run step);
}

pub takes : (x : Subject) (Kind : State → State → Type 0) (s t : State) → Arrives x s → Step x s t → Kind s t → Takes x Kind
takes x Kind s t a step is = record { states = a.states; before = s; after = t; run = goes_on x a.states s t a.run step; is = is }

-- ---- first states

-- a static field begins with what it holds, or with the default of its type
abbrev pub begins_with : Program → ℕ → Option Field → Value
begins_with p number None = primitive_value
begins_with p number (Some f) = option_map_or (λ (class : List ℕ). reference_to (held_place p number)) f.holds (default_value f.signature.descriptor)

abbrev pub statics_of : Program → ℕ → Value
statics_of p number = begins_with p number (slice_get p.fields number)

pub begins_so : (p : Program) (number : ℕ) (o : Option Field) → slice_get p.fields number ≡ o → BeginsAs p number (begins_with p number o)
begins_so p number None e = no_field e refl
begins_so p number (Some f) e = by f.holds refl where
  by : (h : Option (List ℕ)) → f.holds ≡ h → BeginsAs p number (option_map_or (λ (class : List ℕ). reference_to (held_place p number)) h (default_value f.signature.descriptor))
  by None g = by_default f e g refl
  by (Some class) g = holding f class e g refl

pub begins_all : (p : Program) (number : ℕ) → BeginsAs p number (statics_of p number)
begins_all p number = begins_so p number (slice_get p.fields number) refl

abbrev pub world_with : Subject → List Object → (ℕ → Value) → World
world_with x objects statics = record { heap = map (boot_object x) (boot_classes x.program) ++ objects; statics = statics; kept = []; started = [] }

abbrev pub first_world : Subject → List Object → World
first_world x objects = world_with x objects (statics_of x.program)

abbrev pub started_in : World → State
started_in w = runs_on (start_frame ∷ []) w

pub starts_with : (x : Subject) (code : MethodCode x.program x.entry) (objects : List Object) → AreArgumentObjects x code.method objects → (statics : ℕ → Value) → ((number : ℕ) → BeginsAs x.program number (statics number))
    → Arrives x (started_in (world_with x objects statics))
starts_with x code objects arguments statics begin = record {
  states = [];
  run = record {
    first = _;
    others = [];
    begins = refl;
    is_first = record {
      entry = code.method;
      stands = code.stands;
      objects = objects;
      arguments = arguments;
      statics = statics;
      begins = begin;
      is = refl;
    };
    steps = tt;
  };
}

pub starts_at : (x : Subject) (code : MethodCode x.program x.entry) (objects : List Object) → AreArgumentObjects x code.method objects → Arrives x (started_in (first_world x objects))
starts_at x code objects arguments = starts_with x code objects arguments (statics_of x.program) (begins_all x.program)

-- the start calls the entry
abbrev pub entered_in : (x : Subject) → MethodCode x.program x.entry → World → State
entered_in x code w = runs_on (entered x.entry code.body (arguments_of x.program code.method) ∷ waiting start_frame [] ∷ []) w

pub enters_at : (x : Subject) (code : MethodCode x.program x.entry) (w : World) → Arrives x (started_in w) → Arrives x (entered_in x code w)
enters_at x code w a =
    let at : AtStart (started_in w) 0 = record { frame = start_frame; below = []; runs = refl; frames = refl; no_method = refl; stands = refl } in
    goes x _ _ a (enters_entry at (record { code = code; enters = record { code = code; after = refl } }))

-- ---- methods with code

abbrev pub handler_fits : Handler → Bool
handler_fits h = nat_lt h.start 65536 && (nat_lt h.finish 65536 && (nat_lt h.target 65536 && nat_lt h.catch_type 65536))

abbrev pub no_attribute : List Attribute → Bool
no_attribute [] = true
no_attribute (a ∷ xs) = false

-- the numbers of a code fit their fields
abbrev pub body_fits : CodeBody → Bool
body_fits k =
    nat_lt k.max_stack 65536 && (nat_lt k.max_locals 65536 && (nat_lt (length k.bytes) 4294967296 && (nat_lt (length k.handlers) 65536 && (list_all handler_fits k.handlers && no_attribute k.attributes))))

handler_is : (h : Handler) → handler_fits h ≡ true → HandlerFits h
handler_is h e =
    let a = and_parts _ _ e in
    let b = and_parts _ _ a.1 in
    let c = and_parts _ _ b.1 in
    record { start = ltb-true _ _ a.0; finish = ltb-true _ _ b.0; target = ltb-true _ _ c.0; catch_type = ltb-true _ _ c.1 }

no_attributes : (xs : List Attribute) → no_attribute xs ≡ true → xs ≡ []
no_attributes [] e = refl
no_attributes (a ∷ xs) e = absurd (true≢false (sym e))

pub code_is : (k : CodeBody) → body_fits k ≡ true → IsCode (spell_code k) k
code_is k e =
    let a = and_parts _ _ e in
    let b = and_parts _ _ a.1 in
    let c = and_parts _ _ b.1 in
    let d = and_parts _ _ c.1 in
    let f = and_parts _ _ d.1 in
    let none = no_attributes k.attributes f.1 in
    record {
      max_stack = ltb-true _ _ a.0;
      max_locals = ltb-true _ _ b.0;
      code_length = ltb-true _ _ c.0;
      handler_count = ltb-true _ _ d.0;
      handlers = All-weaker (λ (h : Handler). handler_fits h ≡ true) HandlerFits handler_is k.handlers (AllPass-from_list_all handler_fits k.handlers f.0);
      attribute_count = let zero_long = ap length none in omega (arith, zero_long);
      attributes = subst (All AttributeFits) (sym none) (All-nil _);
      spelled = refl;
    }

-- a method of a program that is one of a class file, and was built with a code
abbrev pub built : (p : Program) (number : ℕ) (m : Method) (c : ClassFile) (place flags name descriptor : ℕ) (k : CodeBody)
    → slice_get p.methods number ≡ Some m → m.body ≡ in_file c place (method flags name descriptor k)
    → is_code c.pool (record { name = 1; body = spell_code k }) ≡ true → body_fits k ≡ true → MethodCode p number
built p number m c place flags name descriptor k stands of_file named fits = record {
  method = m;
  stands = stands;
  file = c;
  place = place;
  member = method flags name descriptor k;
  of_file = of_file;
  body = k;
  has = record {
    code = record { name = 1; body = spell_code k };
    only = ap (λ (b : Bool). cond b (record { name = 1; body = spell_code k } ∷ []) []) named;
    body = code_is k fits;
  };
}

-- ---- operands

abbrev pub kind_test : UnitKind → Value → Bool
kind_test any_kind v = true
kind_test primitive primitive_value = true
kind_test primitive null_value = false
kind_test primitive (reference_to place) = false
kind_test reference primitive_value = false
kind_test reference null_value = true
kind_test reference (reference_to place) = true

abbrev pub kinds_test : List UnitKind → List Value → Bool
kinds_test [] [] = true
kinds_test [] (v ∷ values) = false
kinds_test (k ∷ kinds) [] = false
kinds_test (k ∷ kinds) (v ∷ values) = kind_test k v && kinds_test kinds values

has_kind : (k : UnitKind) (v : Value) → kind_test k v ≡ true → HasKind k v
has_kind any_kind v e = tt
has_kind primitive primitive_value e = tt
has_kind primitive null_value e = absurd cc
has_kind primitive (reference_to place) e = absurd cc
has_kind reference primitive_value e = absurd cc
has_kind reference null_value e = tt
has_kind reference (reference_to place) e = tt

have_kinds : (kinds : List UnitKind) (values : List Value) → kinds_test kinds values ≡ true → AllZip HasKind kinds values
have_kinds [] [] e = tt
have_kinds [] (v ∷ values) e = absurd cc
have_kinds (k ∷ kinds) [] e = absurd cc
have_kinds (k ∷ kinds) (v ∷ values) e =
    let both = and_parts (kind_test k v) (kinds_test kinds values) e in
    (has_kind k v both.0, have_kinds kinds values both.1)

-- the slots that a row leaves, and the units that it pops
abbrev pub kept_of : Row → List Value → List Value
kept_of r slots = take (length slots - length r.pops) slots

abbrev pub units_of : Row → List Value → List Value
units_of r slots = drop (length slots - length r.pops) slots

abbrev pub operands_fit : Row → List Value → Bool
operands_fit r slots = kinds_test r.pops (units_of r slots)

pub has_operands : (r : Row) (slots : List Value) → operands_fit r slots ≡ true → HasOperands r slots (kept_of r slots) (units_of r slots)
has_operands r slots e = record { parts = sym (take-append-drop (length slots - length r.pops) slots); kinds = have_kinds r.pops (units_of r slots) e }

-- ---- where a frame stands

abbrev pub frame_at : ℕ → ℕ → List Value → Frame
frame_at number offset slots = record { method = Some number; offset = offset; slots = slots; waits = false }

abbrev pub stands_at : (p : Program) (number : ℕ) (c : MethodCode p number) (offset : ℕ) (slots : List Value) (waits : Bool) (i : DecodedInstruction) → instruction_at c.body.bytes offset ≡ Ok i
    → (r : Row) → IsRowAt c.file.pool i r → AtInstruction p (record { method = Some number; offset = offset; slots = slots; waits = waits })
stands_at p number c offset slots waits i is r of_row = record { here = record { number = number; of_frame = refl; code = c }; instruction = i; is = is; row = r; of_row = of_row }

abbrev pub runs_at : (p : Program) (f : Frame) (below : List Frame) (w : World) → AtInstruction p f → At p (runs_on (f ∷ below) w)
runs_at p f below w now = record { frame = f; below = below; runs = refl; frames = refl; now = now }

-- ---- plain instructions

abbrev pub is_plain : Action → Bool
is_plain plain = true
is_plain _ = false

abbrev pub is_onward : Flow → Bool
is_onward onward = true
is_onward _ = false

-- the instruction is plain, goes on at the next one, and its operands are there
abbrev pub plain_there : DecodedInstruction → List Value → Bool
plain_there i slots = is_plain i.row.action && (is_onward i.row.flow && operands_fit i.row slots)

abbrev pub plain_effect : DecodedInstruction → List Value → List Value
plain_effect i slots = effect i.row i.operand primitive_value (kept_of i.row slots) (units_of i.row slots)

pub plain_row : (a : Action) (pool : List PoolEntry) (i : DecodedInstruction) → is_plain a ≡ true → RowBy a pool i i.row
plain_row plain pool i e = refl
plain_row _ pool i e = absurd cc

pub plain_makes : (a : Action) (x : Subject) (f : Frame) (pool : List PoolEntry) (i : DecodedInstruction) (units : List Value) (w : World) → is_plain a ≡ true → Makes a x f pool i units w primitive_value w
plain_makes plain x f pool i units w e = (refl, refl)
plain_makes _ x f pool i units w e = absurd cc

pub onward_goes : (f : Flow) (w : World) (after : ℕ) (targets : List (Option ℕ)) (units : List Value) → is_onward f ≡ true → Goes f w after targets units after
onward_goes onward w after targets units e = refl
onward_goes _ w after targets units e = absurd cc

-- where so many plain instructions lead to, and the slots after them
abbrev pub next_by : ℕ → List Value → Result DecodedInstruction Reason → Option (ℕ × List Value)
next_by offset slots (Err r) = None
next_by offset slots (Ok i) = cond (plain_there i slots) (Some (offset + i.size, plain_effect i slots)) None

abbrev pub plain_next : ℕ → List ℕ → ℕ → List Value → Option (ℕ × List Value)
plain_next zero bytes offset slots = Some (offset, slots)
plain_next (suc count) bytes offset slots = option_and_then (λ (n : ℕ × List Value). plain_next count bytes n.0 n.1) (next_by offset slots (instruction_at bytes offset))

module _ (x : Subject) (number : ℕ) (c : MethodCode x.program number) (below : List Frame) where
  abbrev pub on : ℕ → List Value → World → State
  on offset slots w = runs_on (frame_at number offset slots ∷ below) w

  -- an instruction goes on
  pub advance : (offset : ℕ) (slots : List Value) (w : World) (i : DecodedInstruction) → instruction_at c.body.bytes offset ≡ Ok i
      → (r : Row) → IsRowAt c.file.pool i r → operands_fit r slots ≡ true → (made : Value) (after : World) (next : ℕ)
      → Makes r.action x (frame_at number offset slots) c.file.pool i (units_of r slots) w made after
      → Goes r.flow w (offset + i.size) i.targets (units_of r slots) next
      → Advancing x r.mnemonic (on offset slots w) (on next (effect r i.operand made (kept_of r slots) (units_of r slots)) after)
  advance offset slots w i is r of_row fits made after next makes goes_there = record {
    at = runs_at x.program (frame_at number offset slots) below w (stands_at x.program number c offset slots false i is r of_row);
    named = refl;
    step = record {
      kept = kept_of r slots;
      units = units_of r slots;
      made = made;
      world = after;
      next = next;
      operands = has_operands r slots fits;
      makes = makes;
      goes = goes_there;
      after = refl;
    };
  }

  plain_step : (offset : ℕ) (slots : List Value) (w : World) (i : DecodedInstruction) → instruction_at c.body.bytes offset ≡ Ok i → plain_there i slots ≡ true
      → Advancing x i.row.mnemonic (on offset slots w) (on (offset + i.size) (plain_effect i slots) w)
  plain_step offset slots w i is there =
      let a = and_parts (is_plain i.row.action) _ there in
      let b = and_parts (is_onward i.row.flow) _ a.1 in
      advance offset slots w i is i.row (plain_row i.row.action c.file.pool i a.0) b.1 primitive_value w (offset + i.size)
      (plain_makes i.row.action x (frame_at number offset slots) c.file.pool i _ w a.0) (onward_goes i.row.flow w _ i.targets _ b.0)

  -- a step alone, and a step on the way
  pub advanced : (s t : State) (mnemonic : List ℕ) → Arrives x s → Advancing x mnemonic s t → Arrives x t
  advanced s t mnemonic a step = goes x s t a (advances step.at step.step)

  -- an instruction raises
  pub raise : (offset : ℕ) (slots : List Value) (w : World) (i : DecodedInstruction) → instruction_at c.body.bytes offset ≡ Ok i
      → (r : Row) → IsRowAt c.file.pool i r → operands_fit r slots ≡ true → (raised : Raise) → Contains r.raises raised
      → IsOpen raised x r.action c.file.pool i.operand w (units_of r slots)
      → Raising x r.mnemonic (exception_class raised) (on offset slots w)
      (throws_on (frame_at number offset slots ∷ below) (with_object w (new_object x.program (site_at Thrown (frame_at number offset slots) (exception_class raised)) x.property.initial)) (length w.heap))
  raise offset slots w i is r of_row fits raised listed open_ = record {
    at = runs_at x.program (frame_at number offset slots) below w (stands_at x.program number c offset slots false i is r of_row);
    named = refl;
    step = record {
      raise = raised;
      listed = listed;
      kept = kept_of r slots;
      units = units_of r slots;
      operands = has_operands r slots fits;
      open_ = open_;
      throws = record { thrown = length w.heap; world = _; makes = record { made_is = refl; after_is = refl }; after = refl };
    };
    raised = refl;
  }

  -- plain instructions, so many
  one_of : (offset : ℕ) (slots : List Value) (w : World) (r : Result DecodedInstruction Reason) → instruction_at c.body.bytes offset ≡ r
      → (n : ℕ × List Value) → next_by offset slots r ≡ Some n → Step x (on offset slots w) (on n.0 n.1 w)
  one_of offset slots w (Err r) is n e = absurd (none-some n e)
  one_of offset slots w (Ok i) is n e = by (plain_there i slots) refl e where
    by : (b : Bool) → plain_there i slots ≡ b → cond b (Some (offset + i.size, plain_effect i slots)) None ≡ Some n → Step x (on offset slots w) (on n.0 n.1 w)
    by false there f = absurd (none-some n f)
    by true there f =
        let step = plain_step offset slots w i is there in
        subst (λ (m : ℕ × List Value). Step x (on offset slots w) (on m.0 m.1 w)) (same_Some _ n f) (advances step.at step.step)

  pub plainly : (count offset : ℕ) (slots : List Value) (w : World) (n : ℕ × List Value) → plain_next count c.body.bytes offset slots ≡ Some n → Arrives x (on offset slots w) → Arrives x (on n.0 n.1 w)
  plainly zero offset slots w n e a = subst (λ (m : ℕ × List Value). Arrives x (on m.0 m.1 w)) (same_Some _ n e) a
  plainly (suc count) offset slots w n e a =
      by (λ m. plainly count m.0 m.1 w n) (next_by offset slots (instruction_at c.body.bytes offset)) refl e
    where
      by : ((m : ℕ × List Value) → plain_next count c.body.bytes m.0 m.1 ≡ Some n → Arrives x (on m.0 m.1 w) → Arrives x (on n.0 n.1 w))
          → (o : Option (ℕ × List Value)) → next_by offset slots (instruction_at c.body.bytes offset) ≡ o
          → option_and_then (λ (m : ℕ × List Value). plain_next count c.body.bytes m.0 m.1) o ≡ Some n → Arrives x (on n.0 n.1 w)
      by more None f g = absurd (none-some n g)
      by more (Some m) f g = more m g (goes x _ _ a (one_of offset slots w (instruction_at c.body.bytes offset) refl m f))
