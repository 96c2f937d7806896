-- Public contracts rest on this module.
-- The states of the machine (JVMS 2.5, 2.6): values, objects, frames, and what is common to all frames.
use Rattle.std.specs.Prelude.{◌≡◌, ℕ, ◌-◌, ◌*◌, ◌+◌, zero, suc, Bool, true, false, ◌==◌, List, [], ◌∷◌, ◌++◌, map, replicate, drop, Option, Some, None, option_map, slice_get, slice_set, slice_index_or, if◌then◌else◌}
use Rattle.std.specs.Option.{option_map_or}
use Rattle.jvm_model.specs.declared.site.Site.{Site}
use Rattle.jvm_model.specs.declared.site.SiteKind.{SiteKind}
use Rattle.jvm_model.specs.Instructions.{kinds_of}
use Rattle.jvm_model.specs.Programs.{Program, Field}
use Rattle.jvm_model.specs.Table.{UnitKind, any_kind, primitive, reference}

-- One unit: of a primitive, whose value is left open; null; or a reference to the object at a place of the heap.
pub data Value : Type 0 where
  primitive_value : Value
  null_value : Value
  reference_to : (place : ℕ) → Value

-- What an object holds: a value for each number of a field; or the elements of an array.
pub data Contents : Type 0 where
  fields : (ℕ → Value) → Contents
  elements : List Value → Contents

-- An object: where it was allocated, its class, what it holds, and the state of the property's automaton.
pub record Object : Type 0 where
  pub site : Site
  pub class : List ℕ
  pub contents : Contents
  pub automaton : ℕ

-- A frame: a method at an offset of its code, or none for the frame from which the program is started; the local
-- variables and then the units of the operand stack; and whether it waits for a call to return.
pub record Frame : Type 0 where
  pub method : Option ℕ
  pub offset : ℕ
  pub slots : List Value
  pub waits : Bool

-- The machine runs, throws the object at a place, or has ended.
pub data Mode : Type 0 where
  running : Mode
  throwing : (place : ℕ) → Mode
  ended : Mode

-- What is common to all frames: the heap, which only grows, so that an object keeps its place; a value for each
-- number of a static field; the places of the objects that the library keeps, in the order of keeping; and the
-- initialisers that were started.
pub record World : Type 0 where
  pub heap : List Object
  pub statics : ℕ → Value
  pub kept : List ℕ
  pub started : List ℕ

-- The newest frame stands first.
pub record State : Type 0 where
  pub frames : List Frame
  pub world : World
  pub mode : Mode

-- ---- values

-- A slot outside a frame's list counts as that of a primitive.
abbrev pub slot_at : List Value → ℕ → Value
slot_at slots z = slice_index_or slots z primitive_value

-- The type of a descriptor is one of references: a class or an array (JVMS 4.3.2).
abbrev pub is_reference_kind : List UnitKind → Bool
is_reference_kind [] = false
is_reference_kind (any_kind ∷ rest) = false
is_reference_kind (primitive ∷ rest) = false
is_reference_kind (reference ∷ rest) = true

abbrev pub is_reference_type : List ℕ → Bool
is_reference_type descriptor = is_reference_kind (kinds_of descriptor)

-- The value with which a variable of a type begins (JVMS 2.3, 2.4): null for a reference.
abbrev pub default_value : List ℕ → Value
default_value descriptor = if is_reference_type descriptor then null_value else primitive_value

-- One for each field, by its descriptor.
abbrev pub default_fields : Program → ℕ → Value
default_fields p number = option_map_or (λ (f : Field). default_value f.signature.descriptor) (slice_get p.fields number) primitive_value

-- The value of each element of a new array, by the array's descriptor: its elements have that without its first [.
abbrev pub default_element : List ℕ → Value
default_element array = default_value (drop 1 array)

-- The values, with another one at a number.
abbrev pub updated : (ℕ → Value) → ℕ → Value → ℕ → Value
updated values number v other = if other == number then v else values other

-- ---- worlds

abbrev pub with_heap : World → List Object → World
with_heap w heap = record { heap = heap; statics = w.statics; kept = w.kept; started = w.started }

-- The world with one more object, whose place is the length of the heap before.
abbrev pub with_object : World → Object → World
with_object w o = with_heap w (w.heap ++ o ∷ [])

-- The object at a place has another automaton state.
abbrev pub with_automaton : World → ℕ → Object → ℕ → World
with_automaton w place o state = with_heap w (slice_set w.heap place (record { site = o.site; class = o.class; contents = o.contents; automaton = state }))

-- It holds something else.
abbrev pub with_contents : World → ℕ → Object → Contents → World
with_contents w place o contents = with_heap w (slice_set w.heap place (record { site = o.site; class = o.class; contents = contents; automaton = o.automaton }))

-- A static field has another value.
abbrev pub with_static : World → ℕ → Value → World
with_static w number v = record { heap = w.heap; statics = updated w.statics number v; kept = w.kept; started = w.started }

-- More objects are kept.
abbrev pub with_kept : World → List ℕ → World
with_kept w places = record { heap = w.heap; statics = w.statics; kept = w.kept ++ places; started = w.started }

-- One more initialiser was started.
abbrev pub with_started : World → ℕ → World
with_started w number = record { heap = w.heap; statics = w.statics; kept = w.kept; started = number ∷ w.started }

-- ---- states

abbrev pub runs_on : List Frame → World → State
runs_on frames w = record { frames = frames; world = w; mode = running }

abbrev pub throws_on : List Frame → World → ℕ → State
throws_on frames w place = record { frames = frames; world = w; mode = throwing place }

abbrev pub ends_with : World → State
ends_with w = record { frames = []; world = w; mode = ended }

-- The frame at another offset, with other slots; it runs.
abbrev pub moved_to : Frame → ℕ → List Value → Frame
moved_to f offset slots = record { method = f.method; offset = offset; slots = slots; waits = false }

-- The frame waits for a call to return, and its operands are taken.
abbrev pub waiting : Frame → List Value → Frame
waiting f slots = record { method = f.method; offset = f.offset; slots = slots; waits = true }

-- The frame waits no more.
abbrev pub waiting_no_more : Frame → Frame
waiting_no_more f = moved_to f f.offset f.slots

-- ---- new objects

-- What a frame allocates of a class.
abbrev pub site_at : SiteKind → Frame → List ℕ → Site
site_at kind f class = record { kind = kind; method = option_map (λ number. record { 0 = number }) f.method; offset = f.offset; class = class }

-- A new object of the site's class, in a state of the automaton.
abbrev pub new_object : Program → Site → ℕ → Object
new_object p site state = record { site = site; class = site.class; contents = fields (default_fields p); automaton = state }

-- A new array of the site's class, with these elements.
abbrev pub new_array : Site → List Value → ℕ → Object
new_array site values state = record { site = site; class = site.class; contents = elements values; automaton = state }

-- ---- new arrays of arrays

-- A dimension of a new array: where its arrays are allocated, and how long each of them is.
pub record Dimension : Type 0 where
  pub site : Site
  pub long : ℕ

-- So many references, to places from the first one on.
abbrev pub references_from : ℕ → ℕ → List Value
references_from first zero = []
references_from first (suc count) = reference_to first ∷ references_from (first + 1) count

-- So many arrays of a length, whose elements are references to places from the first one on.
abbrev pub arrays_of_arrays : Dimension → ℕ → ℕ → ℕ → List Object
arrays_of_arrays d state first zero = []
arrays_of_arrays d state first (suc count) = new_array d.site (references_from first d.long) state ∷ arrays_of_arrays d state (first + d.long) count

-- So many arrays of each dimension, from a place on: the arrays of a dimension stand together, and after them those that
-- are their elements. In the last dimension the elements have their default value.
abbrev pub arrays_from : ℕ → ℕ → ℕ → List Dimension → List Object
arrays_from state place count [] = []
arrays_from state place count (d ∷ []) = replicate count (new_array d.site (replicate d.long (default_element d.site.class)) state)
arrays_from state place count (d ∷ e ∷ deeper) =
    arrays_of_arrays d state (place + count) count ++ arrays_from state (place + count) (count * d.long) (e ∷ deeper)
