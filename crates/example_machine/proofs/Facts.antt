-- Facts that each example needs, from equations that hold by computing: what a state shows, what a reference leads to, which row
-- an instruction has, and what it names.
use Rattle.std.proofs.Common.{◌≡◌, ℕ, Bool, false, List, [], ◌∷◌, ◌++◌, length, map, Some, slice_get, refl, arith}
use Rattle.jvm_model.specs.declared.access.AccessFlag.TheVariants.{Static}
use Rattle.jvm_model.specs.declared.pool.PoolEntry.{PoolEntry}
use Rattle.jvm_model.specs.declared.site.Site.{Site}
use Rattle.jvm_model.specs.declared.stub.StubMethod.{StubMethod}
use Rattle.jvm_model.specs.Access.{has_flag}
use Rattle.jvm_model.specs.Descriptors.{IsFieldDescriptor, IsMethodDescriptor}
use Rattle.jvm_model.specs.Instructions.{DecodedInstruction, HasDescriptorUnits, IsCallRow, IsFieldRow, kinds_of, made_for, member_at, with_units}
use Rattle.jvm_model.specs.Lookups.{MemberReference}
use Rattle.jvm_model.specs.Programs.{Program, Field, Method, described}
use Rattle.jvm_model.specs.Resolution.{itself}
use Rattle.jvm_model.specs.Table.{UnitKind, UnitSource}
use Rattle.machine_bytecode.specs.Described.{DescribedMethod}
use Rattle.machine_bytecode.specs.Machine.{NamesField}
use Rattle.machine_bytecode.specs.Objects.{Subject, Refers, IsArrayOf, MakesArrays}
use Rattle.machine_bytecode.specs.States.{Value, reference_to, elements, Object, Frame, World, State, runs_on, with_heap, default_element, arrays_from}
use Rattle.example_machine.specs.Taking.{Shows, RunsIn, HasObject, HasArray, InState}

-- ---- what a state shows

pub shows : (f : Frame) (below : List Frame) (w : World) → Shows f.offset f.slots (runs_on (f ∷ below) w)
shows f below w = record { frame = f; below = below; frames = refl; there = refl; slots_are = refl }

pub runs_in : (x : Subject) (s : State) (f : Frame) (below : List Frame) (number : ℕ) (m : Method) → s.frames ≡ f ∷ below → f.method ≡ Some number → slice_get x.program.methods number ≡ Some m → RunsIn x m.class m.signature.name s
runs_in x s f below number m frames of_frame stands =
    record { frame = f; below = below; frames = frames; number = number; of_frame = of_frame; method = m; stands = stands; of_class = refl; of_name = refl }

pub has_object : (place : ℕ) (s : State) (o : Object) → slice_get s.world.heap place ≡ Some o → HasObject place o.site.kind o.class s
has_object place s o held = record { object = o; held = held; made = refl; of_class = refl }

pub has_array : (place : ℕ) (s : State) (o : Object) (values : List Value) → slice_get s.world.heap place ≡ Some o → o.contents ≡ elements values → HasArray place o.class values s
has_array place s o values held holds = record { object = o; held = held; of_class = refl; holds = holds }

pub in_state : (place : ℕ) (s : State) (o : Object) → slice_get s.world.heap place ≡ Some o → InState place o.automaton s
in_state place s o held = record { object = o; held = held; is = refl }

-- ---- references and arrays

abbrev pub refers_to : (w : World) (place : ℕ) (o : Object) → slice_get w.heap place ≡ Some o → Refers w (reference_to place)
refers_to w place o held = record { place = place; is = refl; object = o; held = held }

abbrev pub is_array : (w : World) (place : ℕ) (o : Object) (values : List Value) → slice_get w.heap place ≡ Some o → o.contents ≡ elements values → IsArrayOf (default_element o.class) w (reference_to place)
is_array w place o values held holds = record { array = record { to = refers_to w place o held; values = values; holds = holds }; kind = refl }

-- one array, so long
pub makes_array : (x : Subject) (site : Site) (long : ℕ) (w : World)
    → MakesArrays x (site ∷ []) w (reference_to (length w.heap)) (with_heap w (w.heap ++ arrays_from x.property.initial (length w.heap) 1 ((record { site = site; long = long }) ∷ [])))
makes_array x site long w = record { dimensions = (record { site = site; long = long }) ∷ []; of_sites = refl; some = omega arith; made_is = refl; after_is = refl }

-- ---- rows

pub field_row : (pool : List PoolEntry) (i : DecodedInstruction) (pops : List UnitKind → List UnitKind) (pushes : List UnitKind → List UnitSource) (field : MemberReference) → member_at pool i.operand ≡ Some field
    → IsFieldDescriptor field.signature.descriptor → IsFieldRow pool i pops pushes (with_units i.row (pops (kinds_of field.signature.descriptor)) (pushes (kinds_of field.signature.descriptor)))
field_row pool i pops pushes field named is = record { field = field; named = named; is = is; row_is = refl }

pub call_row : (pool : List PoolEntry) (i : DecodedInstruction) (receiver : List UnitKind) (method : MemberReference) (parameters results : List UnitKind) → member_at pool i.operand ≡ Some method
    → HasDescriptorUnits method.signature.descriptor parameters results → IsCallRow pool i receiver (with_units i.row (receiver ++ parameters) (map made_for results))
call_row pool i receiver method parameters results named units = record { method = method; named = named; parameters = parameters; results = results; units = units; row_is = refl }

-- ---- what is named

-- a field that the named class declares
abbrev pub declared_field : (p : Program) (pool : List PoolEntry) (operand : ℕ) (wants_static : Bool) (number : ℕ) (named : MemberReference) (f : Field) → member_at pool operand ≡ Some named
    → slice_get p.fields number ≡ Some f → f.class ≡ named.class → f.signature ≡ named.signature → has_flag f.flags Static ≡ wants_static → NamesField p pool operand wants_static
declared_field p pool operand wants_static number named f is_named stands of_class same_call kind = record {
  named = named;
  is_named = is_named;
  number = number;
  found = itself named.class number (record { field = f; stands = stands; of_class = of_class; is = same_call });
  field = f;
  stands = stands;
  kind = kind;
}

-- a described method
abbrev pub described_at : (x : Subject) (number : ℕ) (m : Method) (d : StubMethod) → slice_get x.program.methods number ≡ Some m → m.body ≡ described d → d.is_abstract ≡ false → IsMethodDescriptor d.descriptor
    → DescribedMethod x number
described_at x number m d stands is concrete descriptor = record { method = m; stands = stands; stub = d; is_described = is; concrete = concrete; descriptor = descriptor }
