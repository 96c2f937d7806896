-- The programs that run within a method, up to the first instruction of `main`; and the fields that it names.
use Rattle.std.proofs.Common.{codes, ◌≡◌, inr, ℕ, true, false, List, [], ◌∷◌, refl}
use Rattle.std.proofs.lemmas.List.Elements.{All-nil, All-cons}
use Rattle.jvm_model.specs.Subtypes.{array_of}
use Rattle.jvm_model.specs.Code.{CodeBody}
use Rattle.jvm_model.specs.Descriptors.{IsFieldDescriptor}
use Rattle.machine_bytecode.specs.Machine.{MethodCode, NamesField}
use Rattle.machine_bytecode.specs.Objects.{string_name}
use Rattle.machine_bytecode.specs.States.{Value, reference_to, Object, Frame, World, State, waiting, new_array}
use Rattle.machine_bytecode.specs.Start.{start_frame, boot_site, MayBeArgument}
use Rattle.example_machine.specs.Within.{main_class, main_pool, program_with, runs, runs_with_arguments, argument}
use Rattle.example_machine.proofs.Facts.{declared_field}
use Rattle.example_machine.proofs.Runs.{Arrives, built, body_fits, starts_at, enters_at, entered_in, first_world, on}
use Rattle.example_machine.proofs.Types.{base_type, class_type}

abbrev pub outside : List Frame
outside = waiting start_frame [] ∷ []

-- ---- programs whose entry has no parameter

module _ (k : CodeBody) (fits : body_fits k ≡ true) where
  abbrev pub main_of : MethodCode (program_with 7 k) 0
  main_of = built (program_with 7 k) 0 _ (main_class 7 k) 0 9 6 7 k refl refl refl fits

  abbrev pub world : World
  world = first_world (runs k) []

  abbrev pub main_at : ℕ → List Value → World → State
  main_at offset slots w = on (runs k) 0 main_of outside offset slots w

  pub begun : Arrives (runs k) (entered_in (runs k) main_of world)
  begun = enters_at (runs k) main_of world (starts_at (runs k) main_of [] refl)

-- ---- the fields that are named

module _ (k : CodeBody) where
  abbrev pub names_it : NamesField (program_with 7 k) main_pool 14 true
  names_it = declared_field _ _ _ _ 1 _ _ refl refl refl refl refl

  abbrev pub names_last : NamesField (program_with 7 k) main_pool 24 true
  names_last = declared_field _ _ _ _ 0 _ _ refl refl refl refl refl

  abbrev pub names_next : NamesField (program_with 7 k) main_pool 17 false
  names_next = declared_field _ _ _ _ 2 _ _ refl refl refl refl refl

  abbrev pub names_count : NamesField (program_with 7 k) main_pool 21 false
  names_count = declared_field _ _ _ _ 3 _ _ refl refl refl refl refl

pub box_type : IsFieldDescriptor (codes "Llib/Box;")
box_type = class_type (codes "lib") (codes "Box" ∷ []) refl

pub int_type : IsFieldDescriptor (codes "I")
int_type = base_type 73 refl

-- ---- the program whose entry has a parameter

abbrev pub argument_array : List Object
argument_array = new_array (boot_site (array_of string_name)) (reference_to 0 ∷ []) 0 ∷ []

abbrev pub main_with_argument : MethodCode (program_with 8 argument) 0
main_with_argument = built (program_with 8 argument) 0 _ (main_class 8 argument) 0 9 6 8 argument refl refl refl refl

pub begun_with_argument : Arrives (runs_with_arguments argument) (on (runs_with_arguments argument) 0 main_with_argument outside 0 (reference_to 3 ∷ []) (first_world (runs_with_arguments argument) argument_array))
begun_with_argument =
    enters_at (runs_with_arguments argument) main_with_argument (first_world (runs_with_arguments argument) argument_array)
    (starts_at (runs_with_arguments argument) main_with_argument argument_array
    (record { values = reference_to 0 ∷ []; each = All-cons MayBeArgument (reference_to 0) [] (inr (record { place = 0; stands = refl; is = refl })) (All-nil MayBeArgument); is = refl }))
