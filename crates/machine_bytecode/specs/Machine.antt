-- Public contracts rest on this module.
-- The machine (JVMS 2.6, 2.10, 5.5, 6.5): its steps, one instruction each. Every choice that the model leaves open has a step
-- of its own. Errors of the virtual machine itself (JVMS 6.3) and of linking are left out. In these places the machine has no step,
-- but for the start of an initialiser and what it throws:
-- * after the end; and where no instruction stands, as past the end of the code;
-- * at jsr, jsr_w, ret and invokedynamic, and at ldc of a method handle or a method type;
-- * at an operand that is missing, or of another kind than the instruction wants; and at a result of another kind than the method's;
-- * at a branch to before the code;
-- * at an index of the constant pool that leads to an entry of another kind;
-- * at a field or a method that the program lacks, and at one that is static where it may not be, or is not where it has to be;
-- * at a field of a reference type of an object that is an array;
-- * at an element, or the length, of an object that is no array; and at an element of an array of the other kind, of references or
--   of primitives;
-- * at a receiver that does not fit the class that declares the named method, and at a thrown object that is no Throwable;
-- * at a call that goes to no method, or to one that is abstract, or native without a description; and at an entry without code;
-- * at a call of a described method that lists neither a result nor an exception, or `kept` results alone when nothing that fits is
--   kept;
-- * at a handler of a frame whose local variables were popped.
use Rattle.std.specs.Prelude.{codes, ◌≡◌, ◌⊎◌, ℕ, zero, suc, ◌+◌, ◌-◌, Bool, true, false, ◌&&◌, nat_eq, nat_le, nat_lt, List, [], ◌∷◌, ◌++◌, length, map, replicate, drop, Option, Some, None, slice_get, slice_set, slice_index_or, Contains, MatchBool, IsTrue, Ok, if◌then◌else◌}
use Rattle.std.specs.List.{AllZip}
use Rattle.jvm_model.specs.declared.access.AccessFlag.TheVariants.{Static}
use Rattle.jvm_model.specs.declared.class_file.ClassFile.{ClassFile}
use Rattle.jvm_model.specs.declared.class_file.Member.{Member}
use Rattle.jvm_model.specs.declared.code.Handler.{Handler}
use Rattle.jvm_model.specs.declared.pool.PoolEntry.{PoolEntry}
use Rattle.jvm_model.specs.declared.pool.PoolEntry.TheVariants.{Class, Str}
use Rattle.jvm_model.specs.declared.site.SiteKind.TheVariants.{New, Thrown}
use Rattle.jvm_model.specs.Access.{has_flag}
use Rattle.jvm_model.specs.Code.{CodeBody, HasCode}
use Rattle.jvm_model.specs.Instructions.{DecodedInstruction, instruction_at, IsRowAt, member_at, HasDescriptorUnits}
use Rattle.jvm_model.specs.Lookups.{MemberReference, Signature, entry_at, class_name_at}
use Rattle.jvm_model.specs.Programs.{Program, Method, Field, in_file, is_static, object_name}
use Rattle.jvm_model.specs.Resolution.{Resolves, FindsField}
use Rattle.jvm_model.specs.Selection.{IsInstance, Selects, SelectsSpecial}
use Rattle.jvm_model.specs.Soundness.{plain_descriptor, is_array}
use Rattle.jvm_model.specs.Subtypes.{IsSubtype, Fits, array_of}
use Rattle.jvm_model.specs.Table.{Row, UnitKind, any_kind, primitive, reference, UnitSource, popped, the_local, a_null, a_primitive, the_made, Operands, type_code, pool_2, any_class, pool_2_and_dimensions, Flow, onward, jump, branch, branch_if_null, branch_if_object, branch_if_same, branch_if_other, leave, subroutine, Action, plain, load_constant, load_element, store_element, probe_element, probe_array, probe_object, get_static, put_static, get_field, put_field, invoke_virtual, invoke_special, invoke_static, invoke_interface, make_object, make_array, throw_object, cast, leave_method, refused, is_selecting, is_trigger, Raise, null_pointer, array_index, array_store, arithmetic, class_cast, negative_size}
use Rattle.machine_bytecode.specs.Described.{GivesResult, ThrowsListed}
use Rattle.machine_bytecode.specs.Events.{HasEvents}
use Rattle.machine_bytecode.specs.Objects.{Subject, Refers, IsOf, ReadsField, WritesField, IsArray, IsArrayOf, ReadsElement, WritesElement, MakesObject, MakesArrays, string_name, IsConstant, Passes, FailsCast}
use Rattle.machine_bytecode.specs.Start.{arguments_of}
use Rattle.machine_bytecode.specs.States.{Value, primitive_value, null_value, reference_to, elements, Object, Frame, running, throwing, World, State, with_kept, with_started, with_static, runs_on, throws_on, ends_with, moved_to, waiting, waiting_no_more, site_at, slot_at, is_reference_type, default_element}

-- ---- where a frame stands

-- The method of a number has code in a class file.
pub record MethodCode (p : Program) (number : ℕ) : Type 0 where
  pub method : Method
  pub stands : slice_get p.methods number ≡ Some method
  pub file : ClassFile
  pub place : ℕ
  pub member : Member
  pub of_file : method.body ≡ in_file file place member
  pub body : CodeBody
  pub has : HasCode file member body

-- The frame's method has code.
pub record InCode (p : Program) (f : Frame) : Type 0 where
  pub number : ℕ
  pub of_frame : f.method ≡ Some number
  pub code : MethodCode p number

-- The frame stands at an instruction.
pub record AtInstruction (p : Program) (f : Frame) : Type 0 where
  pub here : InCode p f
  pub instruction : DecodedInstruction
  pub is : instruction_at here.code.body.bytes f.offset ≡ Ok instruction
  pub row : Row
  pub of_row : IsRowAt here.code.file.pool instruction row

-- The newest frame runs, at an instruction.
pub record At (p : Program) (s : State) : Type 0 where
  pub frame : Frame
  pub below : List Frame
  pub runs : s.mode ≡ running
  pub frames : s.frames ≡ frame ∷ below
  pub now : AtInstruction p frame

-- The frame from which the program is started runs, before it has called the entry, or after that: at 0 or at 1.
pub record AtStart (s : State) (offset : ℕ) : Type 0 where
  pub frame : Frame
  pub below : List Frame
  pub runs : s.mode ≡ running
  pub frames : s.frames ≡ frame ∷ below
  pub no_method : frame.method ≡ None
  pub stands : frame.offset ≡ offset

-- ---- what an instruction names

-- The field, which its class or a supertype declares (JVMS 5.4.3.2).
pub record NamesField (p : Program) (pool : List PoolEntry) (operand : ℕ) (wants_static : Bool) : Type 0 where
  pub named : MemberReference
  pub is_named : member_at pool operand ≡ Some named
  pub number : ℕ
  pub found : FindsField p named.signature named.class (Some number)
  pub field : Field
  pub stands : slice_get p.fields number ≡ Some field
  pub kind : has_flag field.flags Static ≡ wants_static

-- The method, which resolves (JVMS 5.4.3.3, 5.4.3.4).
pub record NamesMethod (p : Program) (pool : List PoolEntry) (operand : ℕ) : Type 0 where
  pub called : MemberReference
  pub named : member_at pool operand ≡ Some called
  pub resolved : ℕ
  pub resolves : Resolves p called resolved
  pub method : Method
  pub stands : slice_get p.methods resolved ≡ Some method

-- The class, the interface or the array.
pub record NamesClass (pool : List PoolEntry) (operand : ℕ) : Type 0 where
  pub class : List ℕ
  pub named : class_name_at pool operand ≡ Some class

-- The array whose elements are of the primitive type of a code, from 4 on (JVMS 6.5.newarray).
abbrev pub primitive_array : ℕ → List ℕ
primitive_array code =
    slice_index_or (codes "[Z" ∷ codes "[C" ∷ codes "[F" ∷ codes "[D" ∷ codes "[B" ∷ codes "[S" ∷ codes "[I" ∷ codes "[J" ∷ []) (code - 4) []

-- An array, its elements, their elements and so on: so many.
abbrev pub nested_arrays : ℕ → List ℕ → List (List ℕ)
nested_arrays zero array = []
nested_arrays (suc count) array = array ∷ nested_arrays count (drop 1 array)

-- The arrays that an instruction makes, each of which holds the next (JVMS 6.5.newarray, 6.5.anewarray, 6.5.multianewarray).
pub data NamesArrays (pool : List PoolEntry) (i : DecodedInstruction) (arrays : List (List ℕ)) : Type 0 where
  of_primitives : i.row.operands ≡ type_code → arrays ≡ primitive_array i.operand ∷ [] → NamesArrays pool i arrays
  of_references : i.row.operands ≡ pool_2 any_class → (n : NamesClass pool i.operand) → arrays ≡ array_of n.class ∷ [] → NamesArrays pool i arrays
  nested : i.row.operands ≡ pool_2_and_dimensions → (n : NamesClass pool i.operand) → arrays ≡ nested_arrays i.dimensions n.class → NamesArrays pool i arrays

-- ---- operands and effects

abbrev pub HasKind : UnitKind → Value → Type 0
HasKind any_kind v = Unit {0}
HasKind primitive primitive_value = Unit {0}
HasKind primitive null_value = ⊥
HasKind primitive (reference_to place) = ⊥
HasKind reference primitive_value = ⊥
HasKind reference null_value = Unit {0}
HasKind reference (reference_to place) = Unit {0}

-- The slots are those that are kept, and then the popped units, which are of the kinds that the row asks for.
pub record HasOperands (r : Row) (slots kept units : List Value) : Type 0 where
  pub parts : slots ≡ kept ++ units
  pub kinds : AllZip HasKind r.pops units

-- The value of a unit that is written.
abbrev pub value_of : Value → Value → List Value → UnitSource → Value
value_of made local units (popped unit) = slot_at units unit
value_of made local units the_local = local
value_of made local units a_null = null_value
value_of made local units a_primitive = primitive_value
value_of made local units the_made = made

-- These values, written from a slot on.
abbrev pub written : List Value → ℕ → List Value → List Value
written slots z [] = slots
written slots z (v ∷ values) = written (slice_set slots z v) (z + 1) values

-- The slots after an instruction: what it stores, and then what it pushes.
abbrev pub effect : Row → ℕ → Value → List Value → List Value → List Value
effect r operand made kept units =
    let value = value_of made (slot_at (kept ++ units) operand) units in
    written kept operand (map value r.stores) ++ map value r.pushes

-- ---- where an instruction goes on

abbrev pub is_null : Value → Bool
is_null primitive_value = false
is_null null_value = true
is_null (reference_to place) = false

-- The object at a place was made by an instruction.
abbrev pub IsMade : World → ℕ → Type 0
IsMade w place = (o : Object) × (slice_get w.heap place ≡ Some o) × (o.site.kind ≡ New)

-- What a test of two references may find: whether they are the same. It is exact where one of them is null, and where one of the
-- objects was made by an instruction. Of other objects, which are constants, what is there from the start, results of the library
-- and exceptions, a JVM may have one where the machine has two, and two where it has one; so either may be found.
abbrev pub Compares : World → Value → Value → Bool → Type 0
Compares w primitive_value other same = same ≡ false
Compares w null_value other same = same ≡ is_null other
Compares w (reference_to place) primitive_value same = same ≡ false
Compares w (reference_to place) null_value same = same ≡ false
Compares w (reference_to place) (reference_to other) same = IsMade w place ⊎ IsMade w other → same ≡ nat_eq place other

-- Where an instruction goes on, in a world. A test for null is exact, one of two references is as they compare, and any other
-- test may go either way. What leaves the method is a step of its own.
abbrev pub Goes : Flow → World → ℕ → List (Option ℕ) → List Value → ℕ → Type 0
Goes onward w after targets units next = next ≡ after
Goes jump w after targets units next = Contains targets (Some next)
Goes branch w after targets units next = (next ≡ after) ⊎ Contains targets (Some next)
Goes branch_if_null w after targets units next = MatchBool (is_null (slot_at units 0)) (Contains targets (Some next)) (next ≡ after)
Goes branch_if_object w after targets units next = MatchBool (is_null (slot_at units 0)) (next ≡ after) (Contains targets (Some next))
Goes branch_if_same w after targets units next =
    (same : Bool) × Compares w (slot_at units 0) (slot_at units 1) same × MatchBool same (Contains targets (Some next)) (next ≡ after)
Goes branch_if_other w after targets units next =
    (same : Bool) × Compares w (slot_at units 0) (slot_at units 1) same × MatchBool same (next ≡ after) (Contains targets (Some next))
Goes leave w after targets units next = ⊥
Goes subroutine w after targets units next = ⊥

-- ---- what an action makes

-- The world stays as it is, and nothing is made.
abbrev pub MakesNothing : World → Value → World → Type 0
MakesNothing before made after = (made ≡ primitive_value) × (after ≡ before)

-- ldc and ldc_w of a string and of a class (JVMS 6.5.ldc).
pub data LoadsConstant (pool : List PoolEntry) (operand : ℕ) (made : Value) : Type 0 where
  of_string : (text : ℕ) → entry_at pool operand ≡ Some (Str text) → IsConstant string_name made → LoadsConstant pool operand made
  of_class : (name : ℕ) → entry_at pool operand ≡ Some (Class name) → IsConstant (codes "java/lang/Class") made → LoadsConstant pool operand made

-- A field of a reference type is read or written; one of a primitive type is not, but its object must be there.
abbrev pub ReadsStatic : Field → ℕ → World → Value → World → Type 0
ReadsStatic f number before made after = (made ≡ (if is_reference_type f.signature.descriptor then before.statics number else primitive_value)) × (after ≡ before)

abbrev pub WritesStatic : Field → ℕ → World → Value → World → Type 0
WritesStatic f number before v after = after ≡ (if is_reference_type f.signature.descriptor then with_static before number v else before)

abbrev pub ReadsFieldOf : Field → ℕ → World → Value → Value → World → Type 0
ReadsFieldOf f number before object made after =
    MatchBool (is_reference_type f.signature.descriptor) (ReadsField before object number made) (Refers before object × (made ≡ primitive_value)) × (after ≡ before)

abbrev pub WritesFieldOf : Field → ℕ → World → Value → Value → World → Type 0
WritesFieldOf f number before object v after =
    MatchBool (is_reference_type f.signature.descriptor) (WritesField before object number v after) (Refers before object × (after ≡ before))

-- Arrays of some names are made, at the instruction of a frame.
abbrev pub MakesArraysOf : Subject → Frame → List PoolEntry → DecodedInstruction → World → Value → World → Type 0
MakesArraysOf x f pool i before made after =
    (arrays : List (List ℕ)) × NamesArrays pool i arrays × MakesArrays x (map (site_at New f) arrays) before made after

-- What an action makes of the popped units, and what the world is after it. Calls, throws and returns are steps of their own.
abbrev pub Makes : Action → Subject → Frame → List PoolEntry → DecodedInstruction → List Value → World → Value → World → Type 0
Makes plain x f pool i units before made after = MakesNothing before made after
Makes load_constant x f pool i units before made after = LoadsConstant pool i.operand made × (after ≡ before)
Makes load_element x f pool i units before made after = ReadsElement before (slot_at units 0) made × (after ≡ before)
Makes store_element x f pool i units before made after = WritesElement x.program before (slot_at units 0) (slot_at units 2) after × (made ≡ primitive_value)
Makes probe_element x f pool i units before made after = IsArrayOf primitive_value before (slot_at units 0) × MakesNothing before made after
Makes probe_array x f pool i units before made after = IsArray before (slot_at units 0) × MakesNothing before made after
Makes probe_object x f pool i units before made after = Refers before (slot_at units 0) × MakesNothing before made after
Makes get_static x f pool i units before made after = (n : NamesField x.program pool i.operand true) × ReadsStatic n.field n.number before made after
Makes put_static x f pool i units before made after = (n : NamesField x.program pool i.operand true) × WritesStatic n.field n.number before (slot_at units 0) after × (made ≡ primitive_value)
Makes get_field x f pool i units before made after = (n : NamesField x.program pool i.operand false) × ReadsFieldOf n.field n.number before (slot_at units 0) made after
Makes put_field x f pool i units before made after =
    (n : NamesField x.program pool i.operand false) × WritesFieldOf n.field n.number before (slot_at units 0) (slot_at units 1) after × (made ≡ primitive_value)
Makes invoke_virtual x f pool i units before made after = ⊥
Makes invoke_special x f pool i units before made after = ⊥
Makes invoke_static x f pool i units before made after = ⊥
Makes invoke_interface x f pool i units before made after = ⊥
Makes make_object x f pool i units before made after = (n : NamesClass pool i.operand) × MakesObject x (site_at New f n.class) before made after
Makes make_array x f pool i units before made after = MakesArraysOf x f pool i before made after
Makes throw_object x f pool i units before made after = ⊥
Makes cast x f pool i units before made after = (n : NamesClass pool i.operand) × Passes x.program n.class before (slot_at units 0) × MakesNothing before made after
Makes leave_method x f pool i units before made after = ⊥
Makes refused x f pool i units before made after = ⊥

-- An instruction pops, acts, writes and goes on.
pub record Advances (x : Subject) (s t : State) (at : At x.program s) : Type 0 where
  pub kept : List Value
  pub units : List Value
  pub made : Value
  pub world : World
  pub next : ℕ
  pub operands : HasOperands at.now.row at.frame.slots kept units
  pub makes : Makes at.now.row.action x at.frame at.now.here.code.file.pool at.now.instruction units s.world made world
  pub goes : Goes at.now.row.flow s.world (at.frame.offset + at.now.instruction.size) at.now.instruction.targets units next
  pub after : t ≡ runs_on (moved_to at.frame next (effect at.now.row at.now.instruction.operand made kept units) ∷ at.below) world

-- ---- calls (JVMS 6.5.invokevirtual, 6.5.invokespecial, 6.5.invokestatic, 6.5.invokeinterface)

-- The class from which the method is selected that a call on an object of a class goes to: an array has those of
-- java/lang/Object.
abbrev pub selecting_class : List ℕ → List ℕ
selecting_class class = if is_array class then object_name else class

-- The object of a call fits the class that declares the resolved method, and selects the target.
pub record SelectsByObject (p : Program) (by_interface : Bool) (m : Method) (resolved : ℕ) (w : World) (units : List Value) (target : ℕ) : Type 0 where
  pub instance : IsInstance m
  pub receiver : IsOf p m.class w (slot_at units 0)
  pub selects : Selects p by_interface (selecting_class receiver.to.object.class) resolved target

-- The method that a call goes to, by its action: by the object's class; for a constructor, a private method or one of a
-- superclass, by the class of the code and the class that is named; or the resolved static method.
abbrev pub IsTarget : Action → (p : Program) (current : List ℕ) (pool : List PoolEntry) (operand : ℕ) → NamesMethod p pool operand → World → List Value → ℕ → Type 0
IsTarget plain p current pool operand n w units target = ⊥
IsTarget load_constant p current pool operand n w units target = ⊥
IsTarget load_element p current pool operand n w units target = ⊥
IsTarget store_element p current pool operand n w units target = ⊥
IsTarget probe_element p current pool operand n w units target = ⊥
IsTarget probe_array p current pool operand n w units target = ⊥
IsTarget probe_object p current pool operand n w units target = ⊥
IsTarget get_static p current pool operand n w units target = ⊥
IsTarget put_static p current pool operand n w units target = ⊥
IsTarget get_field p current pool operand n w units target = ⊥
IsTarget put_field p current pool operand n w units target = ⊥
IsTarget invoke_virtual p current pool operand n w units target = SelectsByObject p false n.method n.resolved w units target
IsTarget invoke_special p current pool operand n w units target = IsOf p n.method.class w (slot_at units 0) × SelectsSpecial p current n.called target
IsTarget invoke_static p current pool operand n w units target = IsTrue (is_static n.method) × (target ≡ n.resolved)
IsTarget invoke_interface p current pool operand n w units target = SelectsByObject p true n.method n.resolved w units target
IsTarget make_object p current pool operand n w units target = ⊥
IsTarget make_array p current pool operand n w units target = ⊥
IsTarget throw_object p current pool operand n w units target = ⊥
IsTarget cast p current pool operand n w units target = ⊥
IsTarget leave_method p current pool operand n w units target = ⊥
IsTarget refused p current pool operand n w units target = ⊥

-- A call: its target, and the world after its events.
pub record Calls (x : Subject) (s : State) (at : At x.program s) : Type 0 where
  pub names : NamesMethod x.program at.now.here.code.file.pool at.now.instruction.operand
  pub kept : List Value
  pub units : List Value
  pub operands : HasOperands at.now.row at.frame.slots kept units
  pub target : ℕ
  pub is_target : IsTarget at.now.row.action x.program at.now.here.code.method.class at.now.here.code.file.pool at.now.instruction.operand names s.world units target
  pub world : World
  pub events : HasEvents x (is_selecting at.now.row.action) names.called.signature units s.world world

-- The new frame of a method: the arguments are its first local variables (JVMS 2.6.1).
abbrev pub entered : ℕ → CodeBody → List Value → Frame
entered number code arguments =
    record { method = Some number; offset = 0; slots = arguments ++ replicate (code.max_locals - length arguments) primitive_value; waits = false }

-- The method has code, and gets a frame, for which the caller waits.
pub record Enters (x : Subject) (number : ℕ) (arguments kept : List Value) (caller : Frame) (below : List Frame) (w : World) (t : State) : Type 0 where
  pub code : MethodCode x.program number
  pub after : t ≡ runs_on (entered number code.body arguments ∷ waiting caller kept ∷ below) w

-- A call goes to a method with code.
pub record EntersTarget (x : Subject) (s t : State) (at : At x.program s) : Type 0 where
  pub call : Calls x s at
  pub enters : Enters x call.target call.units call.kept at.frame at.below call.world t

-- A call goes to a described method, which gives a result.
pub record GetsResult (x : Subject) (s t : State) (at : At x.program s) : Type 0 where
  pub call : Calls x s at
  pub made : Value
  pub world : World
  pub gives : GivesResult x call.target at.frame call.units call.world made world
  pub after : t ≡ runs_on (moved_to at.frame (at.frame.offset + at.now.instruction.size) (effect at.now.row at.now.instruction.operand made call.kept call.units) ∷ at.below) world

-- A call goes to a described method, which throws: the caller throws, at the call.
pub record GetsException (x : Subject) (s t : State) (at : At x.program s) : Type 0 where
  pub call : Calls x s at
  pub thrown : ℕ
  pub world : World
  pub throws : ThrowsListed x call.target at.frame call.units call.world thrown world
  pub after : t ≡ throws_on (at.frame ∷ at.below) world thrown

-- The start calls the entry.
pub record EntersEntry (x : Subject) (s t : State) (at : AtStart s 0) : Type 0 where
  pub code : MethodCode x.program x.entry
  pub enters : Enters x x.entry (arguments_of x.program code.method) at.frame.slots at.frame at.below s.world t

-- ---- returns

-- Where a frame goes on after the call for which it waits.
pub data IsAfterCall (p : Program) (f : Frame) (next : ℕ) : Type 0 where
  of_start : f.method ≡ None → next ≡ f.offset + 1 → IsAfterCall p f next
  of_code : (at : AtInstruction p f) → next ≡ f.offset + at.instruction.size → IsAfterCall p f next

-- A return: the popped units are those that the method's descriptor names as its result, by primitive or
-- reference (JVMS 6.5.return, 6.5.areturn).
pub record Leaves (p : Program) (f : Frame) (now : AtInstruction p f) : Type 0 where
  pub action : now.row.action ≡ leave_method
  pub kept : List Value
  pub units : List Value
  pub operands : HasOperands now.row f.slots kept units
  pub parameters : List UnitKind
  pub results : HasDescriptorUnits now.here.code.method.signature.descriptor parameters now.row.pops

-- The caller goes on after its call, with the result.
pub record Returns (x : Subject) (s t : State) (at : At x.program s) : Type 0 where
  pub leaves : Leaves x.program at.frame at.now
  pub caller : Frame
  pub rest : List Frame
  pub below : at.below ≡ caller ∷ rest
  pub called : caller.waits ≡ true
  pub next : ℕ
  pub goes : IsAfterCall x.program caller next
  pub after : t ≡ runs_on (moved_to caller next (caller.slots ++ leaves.units) ∷ rest) s.world

-- An initialiser returns, and the frame that triggered it runs on at the same instruction.
pub record Resumes (x : Subject) (s t : State) (at : At x.program s) : Type 0 where
  pub leaves : Leaves x.program at.frame at.now
  pub caller : Frame
  pub rest : List Frame
  pub below : at.below ≡ caller ∷ rest
  pub triggered : caller.waits ≡ false
  pub after : t ≡ runs_on (caller ∷ rest) s.world

-- The start returns, and the machine has ended.
pub record Ends (s t : State) (at : AtStart s 1) : Type 0 where
  pub after : t ≡ ends_with s.world

-- ---- exceptions (JVMS 2.10, 6.5)

-- The class of an exception that an instruction raises.
abbrev pub exception_class : Raise → List ℕ
exception_class null_pointer = codes "java/lang/NullPointerException"
exception_class array_index = codes "java/lang/ArrayIndexOutOfBoundsException"
exception_class array_store = codes "java/lang/ArrayStoreException"
exception_class arithmetic = codes "java/lang/ArithmeticException"
exception_class class_cast = codes "java/lang/ClassCastException"
exception_class negative_size = codes "java/lang/NegativeArraySizeException"

-- The value that the elements of an array have by default, at an instruction on an element.
abbrev pub element_of : Action → Option Value
element_of plain = None
element_of load_constant = None
element_of load_element = Some null_value
element_of store_element = Some null_value
element_of probe_element = Some primitive_value
element_of probe_array = None
element_of probe_object = None
element_of get_static = None
element_of put_static = None
element_of get_field = None
element_of put_field = None
element_of invoke_virtual = None
element_of invoke_special = None
element_of invoke_static = None
element_of invoke_interface = None
element_of make_object = None
element_of make_array = None
element_of throw_object = None
element_of cast = None
element_of leave_method = None
element_of refused = None

-- The array is one of the kind that the instruction works on.
pub record IsArrayFor (action : Action) (w : World) (v : Value) : Type 0 where
  pub default : Value
  pub of_action : element_of action ≡ Some default
  pub array : IsArrayOf default w v

-- An instruction may raise an exception of the kind that its row lists: at null; at an array, whose length and index are left
-- open, and so is whether a value may be stored; at an object that does not fit; and a division and a size are left open.
abbrev pub IsOpen : Raise → Subject → Action → List PoolEntry → ℕ → World → List Value → Type 0
IsOpen null_pointer x action pool operand w units = slot_at units 0 ≡ null_value
IsOpen array_index x action pool operand w units = IsArrayFor action w (slot_at units 0)
IsOpen array_store x action pool operand w units = IsArrayFor action w (slot_at units 0)
IsOpen arithmetic x action pool operand w units = Unit {0}
IsOpen class_cast x action pool operand w units = (n : NamesClass pool operand) × FailsCast x.program n.class w (slot_at units 0)
IsOpen negative_size x action pool operand w units = Unit {0}

-- A frame throws a new object of a class, at its instruction.
pub record ThrowsNew (x : Subject) (w : World) (f : Frame) (below : List Frame) (class : List ℕ) (t : State) : Type 0 where
  pub thrown : ℕ
  pub world : World
  pub makes : MakesObject x (site_at Thrown f class) w (reference_to thrown) world
  pub after : t ≡ throws_on (f ∷ below) world thrown

pub record Raises (x : Subject) (s t : State) (at : At x.program s) : Type 0 where
  pub raise : Raise
  pub listed : Contains at.now.row.raises raise
  pub kept : List Value
  pub units : List Value
  pub operands : HasOperands at.now.row at.frame.slots kept units
  pub open_ : IsOpen raise x at.now.row.action at.now.here.code.file.pool at.now.instruction.operand s.world units
  pub throws : ThrowsNew x s.world at.frame at.below (exception_class raise) t

-- athrow throws the popped object (JVMS 6.5.athrow).
pub record Throws (x : Subject) (s t : State) (at : At x.program s) : Type 0 where
  pub action : at.now.row.action ≡ throw_object
  pub kept : List Value
  pub units : List Value
  pub operands : HasOperands at.now.row at.frame.slots kept units
  pub thrown : IsOf x.program (codes "java/lang/Throwable") s.world (slot_at units 0)
  pub after : t ≡ throws_on (at.frame ∷ at.below) s.world thrown.to.place

-- The machine throws an object, in the newest frame.
pub record Throwing (s : State) : Type 0 where
  pub frame : Frame
  pub below : List Frame
  pub place : ℕ
  pub object : Object
  pub throws : s.mode ≡ throwing place
  pub frames : s.frames ≡ frame ∷ below
  pub held : slice_get s.world.heap place ≡ Some object

-- A handler covers an offset from its start to before its end, and takes an object of a class if it has no type, or one that
-- the object fits.
abbrev pub TakesClass : Program → List PoolEntry → ℕ → List ℕ → Type 0
TakesClass p pool catch_type class =
    (catch_type ≡ 0) ⊎ ((name : List ℕ) × (class_name_at pool catch_type ≡ Some name) × Fits p name class)

pub record Handles (p : Program) (pool : List PoolEntry) (offset : ℕ) (class : List ℕ) (h : Handler) : Type 0 where
  pub covers : IsTrue (nat_le h.start offset && nat_lt offset h.finish)
  pub takes : TakesClass p pool h.catch_type class

-- The first such handler in the order of the table (JVMS 2.10).
abbrev pub IsFirstHandler : Program → List PoolEntry → ℕ → List ℕ → List Handler → Handler → Type 0
IsFirstHandler p pool offset class [] h = ⊥
IsFirstHandler p pool offset class (g ∷ handlers) h =
    (Handles p pool offset class g × (h ≡ g)) ⊎ ((Handles p pool offset class g → ⊥) × IsFirstHandler p pool offset class handlers h)

-- The handler gets the local variables, and the thrown object as the only operand.
pub record Catches (x : Subject) (s t : State) (at : Throwing s) : Type 0 where
  pub here : InCode x.program at.frame
  pub handler : Handler
  pub first : IsFirstHandler x.program here.code.file.pool at.frame.offset at.object.class here.code.body.handlers handler
  pub locals : List Value
  pub operands : List Value
  pub parts : at.frame.slots ≡ locals ++ operands
  pub long : length locals ≡ here.code.body.max_locals
  pub after : t ≡ runs_on (moved_to at.frame handler.target (locals ++ reference_to at.place ∷ []) ∷ at.below) s.world

-- No handler of the frame's method takes the object.
pub data IsUncaught (p : Program) (f : Frame) (class : List ℕ) : Type 0 where
  of_start : f.method ≡ None → IsUncaught p f class
  of_code : (here : InCode p f) → ((h : Handler) → Contains here.code.body.handlers h → Handles p here.code.file.pool f.offset class h → ⊥) → IsUncaught p f class

-- What is left when the newest frame goes: the caller throws at its call, and waits no more.
abbrev pub unwound : List Frame → World → ℕ → State
unwound [] w place = ends_with w
unwound (f ∷ below) w place = throws_on (waiting_no_more f ∷ below) w place

pub record Unwinds (x : Subject) (s t : State) (at : Throwing s) : Type 0 where
  pub uncaught : IsUncaught x.program at.frame at.object.class
  pub after : t ≡ unwound at.below s.world at.place

-- ---- initialisation (JVMS 5.5)

-- The class whose initialisation an instruction may start: the one that it names, or the one that declares the field or the
-- method that it names.
pub data Concerns (p : Program) (pool : List PoolEntry) (operand : ℕ) (class : List ℕ) : Type 0 where
  of_class : (n : NamesClass pool operand) → n.class ≡ class → Concerns p pool operand class
  of_field : (n : NamesField p pool operand true) → n.field.class ≡ class → Concerns p pool operand class
  of_method : (n : NamesMethod p pool operand) → n.method.class ≡ class → Concerns p pool operand class

-- The newest frame runs, at a trigger for a class: an instruction, or the call of the entry.
pub data IsTriggered (x : Subject) (s : State) (f : Frame) (below : List Frame) (class : List ℕ) : Type 0 where
  by_instruction : (at : At x.program s) → f ≡ at.frame → below ≡ at.below
      → IsTrue (is_trigger at.now.row.action) → Concerns x.program at.now.here.code.file.pool at.now.instruction.operand class → IsTriggered x s f below class
  by_start : (at : AtStart s 0) → f ≡ at.frame → below ≡ at.below
      → (entry : Method) → slice_get x.program.methods x.entry ≡ Some entry → entry.class ≡ class → IsTriggered x s f below class

-- The initialiser of a class or of one of its supertypes: the method <clinit> of no parameters (JVMS 2.9).
pub record IsInitialiser (p : Program) (class : List ℕ) (number : ℕ) : Type 0 where
  pub code : MethodCode p number
  pub named : code.method.signature ≡ record { name = codes "<clinit>"; descriptor = plain_descriptor }
  pub above : IsSubtype p code.method.class class

-- At a trigger an initialiser that was not started may be started. The frame waits at the same instruction.
pub record Starts (x : Subject) (s t : State) : Type 0 where
  pub frame : Frame
  pub below : List Frame
  pub class : List ℕ
  pub triggered : IsTriggered x s frame below class
  pub number : ℕ
  pub initialiser : IsInitialiser x.program class number
  pub fresh : Contains s.world.started number → ⊥
  pub after : t ≡ runs_on (entered number initialiser.code.body [] ∷ frame ∷ below) (with_started s.world number)

-- At a trigger with an initialiser that was started, a new NoClassDefFoundError may be thrown.
pub record Denies (x : Subject) (s t : State) : Type 0 where
  pub frame : Frame
  pub below : List Frame
  pub class : List ℕ
  pub triggered : IsTriggered x s frame below class
  pub number : ℕ
  pub initialiser : IsInitialiser x.program class number
  pub started : Contains s.world.started number
  pub throws : ThrowsNew x s.world frame below (codes "java/lang/NoClassDefFoundError") t

-- What leaves an initialiser may be kept, and become a new ExceptionInInitializerError.
pub record Wraps (x : Subject) (s t : State) (at : Throwing s) : Type 0 where
  pub uncaught : IsUncaught x.program at.frame at.object.class
  pub caller : Frame
  pub rest : List Frame
  pub below : at.below ≡ caller ∷ rest
  pub triggered : caller.waits ≡ false
  pub throws : ThrowsNew x (with_kept s.world (at.place ∷ [])) caller rest (codes "java/lang/ExceptionInInitializerError") t

-- ---- the step

pub data Step (x : Subject) (s t : State) : Type 0 where
  advances : (at : At x.program s) → Advances x s t at → Step x s t
  enters : (at : At x.program s) → EntersTarget x s t at → Step x s t
  gets_result : (at : At x.program s) → GetsResult x s t at → Step x s t
  gets_exception : (at : At x.program s) → GetsException x s t at → Step x s t
  enters_entry : (at : AtStart s 0) → EntersEntry x s t at → Step x s t
  returns : (at : At x.program s) → Returns x s t at → Step x s t
  resumes : (at : At x.program s) → Resumes x s t at → Step x s t
  ends : (at : AtStart s 1) → Ends s t at → Step x s t
  raises : (at : At x.program s) → Raises x s t at → Step x s t
  throws : (at : At x.program s) → Throws x s t at → Step x s t
  catches : (at : Throwing s) → Catches x s t at → Step x s t
  unwinds : (at : Throwing s) → Unwinds x s t at → Step x s t
  starts : Starts x s t → Step x s t
  denies : Denies x s t → Step x s t
  wraps : (at : Throwing s) → Wraps x s t at → Step x s t
