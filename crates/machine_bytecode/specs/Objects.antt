-- Public contracts rest on this module.
-- What instructions read, write and make of objects, arrays and constants (JVMS 2.4, 5.1, 6.5). The values of primitives are
-- left open, so that a field or an element of a primitive type holds nothing.
use Rattle.std.specs.Prelude.{codes, ◌≡◌, ℕ, ◌<◌, ◌≤◌, List, [], ◌∷◌, ◌++◌, length, map, Some, slice_get, slice_set, Contains}
use Rattle.jvm_model.specs.declared.automaton.Automaton.{Automaton}
use Rattle.jvm_model.specs.declared.site.Site.{Site}
use Rattle.jvm_model.specs.Programs.{Program}
use Rattle.jvm_model.specs.Subtypes.{Fits, array_of}
use Rattle.machine_bytecode.specs.States.{Value, null_value, reference_to, fields, elements, Object, World, default_element, updated, with_heap, with_object, with_contents, new_object, Dimension, arrays_from}

-- What is run: a program, the automaton of a property, and the number of the entry method.
pub record Subject : Type 0 where
  pub program : Program
  pub property : Automaton
  pub entry : ℕ

-- The value is a reference to an object.
pub record Refers (w : World) (v : Value) : Type 0 where
  pub place : ℕ
  pub is : v ≡ reference_to place
  pub object : Object
  pub held : slice_get w.heap place ≡ Some object

-- The object fits a class: it is of the class or of a subtype of it, or is an array that may be cast to it.
pub record IsOf (p : Program) (class : List ℕ) (w : World) (v : Value) : Type 0 where
  pub to : Refers w v
  pub fits : Fits p class to.object.class

-- ---- fields (JVMS 6.5.getfield, 6.5.putfield)

-- The value is that of a field of an object.
pub record ReadsField (w : World) (object : Value) (number : ℕ) (v : Value) : Type 0 where
  pub to : Refers w object
  pub values : ℕ → Value
  pub holds : to.object.contents ≡ fields values
  pub is : v ≡ values number

-- After it the field has the value.
pub record WritesField (before : World) (object : Value) (number : ℕ) (v : Value) (after : World) : Type 0 where
  pub to : Refers before object
  pub values : ℕ → Value
  pub holds : to.object.contents ≡ fields values
  pub is : after ≡ with_contents before to.place to.object (fields (updated values number v))

-- ---- arrays (JVMS 6.5.aaload, 6.5.aastore)

-- The value is an array.
pub record IsArray (w : World) (v : Value) : Type 0 where
  pub to : Refers w v
  pub values : List Value
  pub holds : to.object.contents ≡ elements values

-- It is an array of references, or of primitives: its elements have this value by default.
pub record IsArrayOf (default : Value) (w : World) (v : Value) : Type 0 where
  pub array : IsArray w v
  pub kind : default_element array.to.object.class ≡ default

-- The value is that of some element of an array of references: the index is left open.
pub record ReadsElement (w : World) (array v : Value) : Type 0 where
  pub of : IsArrayOf null_value w array
  pub among : Contains of.array.values v

-- A value may be an element of an array: null, or an object that fits the type of the elements.
pub data MayStand (p : Program) (w : World) (array : List ℕ) (v : Value) : Type 0 where
  no_object : v ≡ null_value → MayStand p w array v
  fitting : (element : List ℕ) → array ≡ array_of element → IsOf p element w v → MayStand p w array v

-- After it some element of an array of references has the value: the index is left open.
pub record WritesElement (p : Program) (before : World) (array v : Value) (after : World) : Type 0 where
  pub of : IsArrayOf null_value before array
  pub suits : MayStand p before of.array.to.object.class v
  pub index : ℕ
  pub inside : index < length of.array.values
  pub is : after ≡ with_contents before of.array.to.place of.array.to.object (elements (slice_set of.array.values index v))

-- ---- new objects (JVMS 6.5.new, 6.5.newarray, 6.5.anewarray, 6.5.multianewarray)

-- A new object of the site's class, in the initial state.
pub record MakesObject (x : Subject) (site : Site) (before : World) (made : Value) (after : World) : Type 0 where
  pub made_is : made ≡ reference_to (length before.heap)
  pub after_is : after ≡ with_object before (new_object x.program site x.property.initial)

-- New arrays, of which each holds those of the next site: the arrays of a site have one length, which is left open.
pub record MakesArrays (x : Subject) (sites : List Site) (before : World) (made : Value) (after : World) : Type 0 where
  pub dimensions : List Dimension
  pub of_sites : map (λ (d : Dimension). d.site) dimensions ≡ sites
  pub some : 1 ≤ length dimensions
  pub made_is : made ≡ reference_to (length before.heap)
  pub after_is : after ≡ with_heap before (before.heap ++ arrays_from x.property.initial (length before.heap) 1 dimensions)

-- ---- constants

abbrev pub string_name : List ℕ
string_name = codes "java/lang/String"

-- The classes whose constants ldc loads. One object stands for all strings, and one for all classes: the first objects of
-- the heap, in this order.
abbrev pub constant_classes : List (List ℕ)
constant_classes = string_name ∷ codes "java/lang/Class" ∷ []

-- The value is the object that stands for the constants of a class.
pub record IsConstant (class : List ℕ) (v : Value) : Type 0 where
  pub place : ℕ
  pub stands : slice_get constant_classes place ≡ Some class
  pub is : v ≡ reference_to place

-- ---- casts (JVMS 6.5.checkcast)

-- A value passes a cast to a class: null, or an object that fits it.
pub data Passes (p : Program) (class : List ℕ) (w : World) (v : Value) : Type 0 where
  no_object : v ≡ null_value → Passes p class w v
  fitting : IsOf p class w v → Passes p class w v

-- It does not: it is an object that does not fit.
pub record FailsCast (p : Program) (class : List ℕ) (w : World) (v : Value) : Type 0 where
  pub to : Refers w v
  pub misfit : Fits p class to.object.class → ⊥
