-- Public contracts rest on this module.
-- The first states (JVMS 5.2, 5.5): the frame from which the entry is called, the objects that are there from the start, and
-- the static fields. What the model leaves open may be any of several, so that there are several first states.
use Rattle.std.specs.Prelude.{codes, ◌≡◌, ◌⊎◌, ℕ, ◌+◌, false, List, [], ◌∷◌, ◌++◌, length, map, take, Option, Some, None, slice_get, All, IsTrue, MatchBool, if◌then◌else◌}
use Rattle.std.specs.List.{flat_map}
use Rattle.std.specs.Option.{option_to_list}
use Rattle.std.specs.Str.{bytes_eq}
use Rattle.jvm_model.specs.declared.site.Site.{Site}
use Rattle.jvm_model.specs.declared.site.SiteKind.TheVariants.{Boot}
use Rattle.jvm_model.specs.Programs.{Program, Method, Field, Class}
use Rattle.jvm_model.specs.Soundness.{plain_descriptor}
use Rattle.jvm_model.specs.Subtypes.{class_named, array_of, reference_descriptor}
use Rattle.machine_bytecode.specs.Objects.{Subject, string_name, constant_classes, IsConstant}
use Rattle.machine_bytecode.specs.States.{Value, primitive_value, null_value, reference_to, Object, Frame, State, runs_on, new_object, new_array, default_value}

-- ---- the objects

-- What is there from the start has a site of a kind of its own.
abbrev pub boot_site : List ℕ → Site
boot_site class = record { kind = Boot; method = None; offset = 0; class = class }

abbrev pub boot_object : Subject → List ℕ → Object
boot_object x class = new_object x.program (boot_site class) x.property.initial

-- The classes of the objects that static fields hold, field by field.
abbrev pub held_classes : List Field → List (List ℕ)
held_classes fields = flat_map (λ (f : Field). option_to_list f.holds) fields

-- Those of the objects that stand for the constants, and of those that fields hold.
abbrev pub boot_classes : Program → List (List ℕ)
boot_classes p = constant_classes ++ held_classes p.fields

-- Where the object is that the field of a number holds.
abbrev pub held_place : Program → ℕ → ℕ
held_place p number = length (constant_classes ++ held_classes (take number p.fields))

-- ---- the arguments of the entry

-- The entry has a parameter, an array of strings, unless its descriptor is ()V. The array is there after the other objects.
abbrev pub arguments_of : Program → Method → List Value
arguments_of p entry = if bytes_eq entry.signature.descriptor plain_descriptor then [] else reference_to (length (boot_classes p)) ∷ []

-- A string, or null.
abbrev pub MayBeArgument : Value → Type 0
MayBeArgument v = (v ≡ null_value) ⊎ IsConstant string_name v

-- An array of any length of such values.
pub record IsArgumentArray (x : Subject) (objects : List Object) : Type 0 where
  pub values : List Value
  pub each : All MayBeArgument values
  pub is : objects ≡ new_array (boot_site (array_of string_name)) values x.property.initial ∷ []

abbrev pub AreArgumentObjects : Subject → Method → List Object → Type 0
AreArgumentObjects x entry objects = MatchBool (bytes_eq entry.signature.descriptor plain_descriptor) (objects ≡ []) (IsArgumentArray x objects)

-- ---- static fields

-- The value with which the field of a number begins: the object that it holds, or else the default value of its type. One of
-- type String in a class of the folder may be any string constant too, since it may have a constant value (JVMS 4.7.2).
pub data BeginsAs (p : Program) (number : ℕ) (v : Value) : Type 0 where
  no_field : slice_get p.fields number ≡ None → v ≡ primitive_value → BeginsAs p number v
  holding : (f : Field) (class : List ℕ) → slice_get p.fields number ≡ Some f → f.holds ≡ Some class
      → v ≡ reference_to (held_place p number) → BeginsAs p number v
  by_default : (f : Field) → slice_get p.fields number ≡ Some f → f.holds ≡ None
      → v ≡ default_value f.signature.descriptor → BeginsAs p number v
  constant : (f : Field) (c : Class) → slice_get p.fields number ≡ Some f → f.holds ≡ None
      → f.signature.descriptor ≡ reference_descriptor string_name → class_named p f.class ≡ Some c → IsTrue c.is_folder
      → IsConstant string_name v → BeginsAs p number v

-- ---- the first state

-- The frame from which the program is started: its instruction 0 calls the entry, and its instruction 1 returns.
abbrev pub start_frame : Frame
start_frame = record { method = None; offset = 0; slots = []; waits = false }

pub record IsFirst (x : Subject) (s : State) : Type 0 where
  pub entry : Method
  pub stands : slice_get x.program.methods x.entry ≡ Some entry
  pub objects : List Object
  pub arguments : AreArgumentObjects x entry objects
  pub statics : ℕ → Value
  pub begins : (number : ℕ) → BeginsAs x.program number (statics number)
  pub is : s ≡ runs_on (start_frame ∷ []) (record { heap = map (boot_object x) (boot_classes x.program) ++ objects; statics = statics; kept = []; started = [] })
