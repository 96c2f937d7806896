-- Public contracts rest on this module.
-- What access paths refer to in a state, as seen from a frame; and the cells that may hold an object there.
use Rattle.std.specs.Prelude.{ℕ, List, [], ◌∷◌, Option, Some, None, slice_get, slice_index_or}
use Rattle.std.specs.Option.{option_map_or}
use Rattle.jvm_model.specs.declared.number.FieldNo.{FieldNo}
use Rattle.machine_bytecode.specs.States.{Value, primitive_value, null_value, reference_to, Contents, fields, elements, Object, World, slot_at}
use Rattle.access_paths.specs.declared.root.Root.{Root}
use Rattle.access_paths.specs.declared.root.Root.TheVariants.{Slot, Static, Returned, Thrown}
use Rattle.access_paths.specs.Paths.{Path}

-- What is seen from a frame besides the world: its slots, the value that it returns, and what it throws. A primitive stands where there is none.
pub record View : Type 0 where
  pub slots : List Value
  pub returned : Value
  pub thrown : Value

-- A frame that runs, or that waits.
abbrev pub of_slots : List Value → View
of_slots slots = record { slots = slots; returned = primitive_value; thrown = primitive_value }

-- A frame that returns a value, or throws the object at a place, once its slots are gone.
abbrev pub of_return : Value → View
of_return v = record { slots = []; returned = v; thrown = primitive_value }

abbrev pub of_throw : (place : ℕ) → View
of_throw place = record { slots = []; returned = primitive_value; thrown = reference_to place }

-- A frame that waited, to which a value is returned, or into which an object is thrown.
abbrev pub of_result : List Value → Value → View
of_result slots v = record { slots = slots; returned = v; thrown = primitive_value }

abbrev pub of_exception : List Value → (place : ℕ) → View
of_exception slots place = record { slots = slots; returned = primitive_value; thrown = reference_to place }

abbrev pub root_value : World → View → Root → Value
root_value w view (Slot z) = slot_at view.slots z
root_value w view (Static f) = w.statics f.0
root_value w view Returned = view.returned
root_value w view Thrown = view.thrown

-- ---- the value of a path

-- A primitive counts as null here: neither refers to an object.
abbrev pub without_primitive : Value → Value
without_primitive primitive_value = null_value
without_primitive null_value = null_value
without_primitive (reference_to place) = reference_to place

-- What a field of these contents refers to. An array has no fields.
abbrev pub field_in : FieldNo → Contents → Value
field_in f (fields values) = without_primitive (values f.0)
field_in f (elements values) = null_value

-- What an element of these contents refers to. What is no array has none.
abbrev pub element_in : ℕ → Contents → Value
element_in index (fields values) = null_value
element_in index (elements values) = without_primitive (slice_index_or values index null_value)

-- A part of the object at a place; null where there is no object.
abbrev pub part_at : (Contents → Value) → List Object → ℕ → Value
part_at part heap place = option_map_or (λ (o : Object). part o.contents) (slice_get heap place) null_value

-- What a field of a value holds: null where the value refers to no object.
abbrev pub behind : List Object → FieldNo → Value → Value
behind heap f primitive_value = null_value
behind heap f null_value = null_value
behind heap f (reference_to place) = part_at (field_in f) heap place

-- The fields are followed one after another.
abbrev pub followed : List Object → Value → List FieldNo → Value
followed heap v [] = v
followed heap v (f ∷ rest) = followed heap (behind heap f v) rest

abbrev pub path_value : World → View → Path → Value
path_value w view x = followed w.heap (root_value w view x.root) x.fields

-- ---- cells

-- What may hold an object: a root; a field of an object, or an element of an array; or what the library keeps, by its place in the list of that.
pub data Cell : Type 0 where
  in_root : Root → Cell
  in_field : (place : ℕ) → FieldNo → Cell
  in_element : (place index : ℕ) → Cell
  in_kept : (number : ℕ) → Cell

abbrev pub cell_value : World → View → Cell → Value
cell_value w view (in_root r) = root_value w view r
cell_value w view (in_field place f) = part_at (field_in f) w.heap place
cell_value w view (in_element place index) = part_at (element_in index) w.heap place
cell_value w view (in_kept number) = option_map_or reference_to (slice_get w.kept number) null_value

-- The field's cell, if the value refers to an object.
abbrev pub field_cell : Value → FieldNo → Option Cell
field_cell primitive_value f = None
field_cell null_value f = None
field_cell (reference_to place) f = Some (in_field place f)

abbrev pub last_field_cell : List Object → Value → FieldNo → List FieldNo → Option Cell
last_field_cell heap v f [] = field_cell v f
last_field_cell heap v f (g ∷ rest) = last_field_cell heap (behind heap f v) g rest

-- The last cell of a path: that of its last field, or its root.
abbrev pub last_cell_from : World → View → Root → List FieldNo → Option Cell
last_cell_from w view r [] = Some (in_root r)
last_cell_from w view r (f ∷ rest) = last_field_cell w.heap (root_value w view r) f rest

abbrev pub last_cell : World → View → Path → Option Cell
last_cell w view x = last_cell_from w view x.root x.fields
