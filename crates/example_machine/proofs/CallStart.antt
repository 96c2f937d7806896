-- The programs with calls, up to the first instruction of `main`: their methods, and what their instructions name.
use Rattle.std.proofs.Common.{codes, ◌≡◌, inl, inr, ℕ, true, List, [], ◌∷◌, Some, slice_get, refl, ap, arith}
use Rattle.jvm_model.specs.Code.{CodeBody}
use Rattle.jvm_model.specs.Descriptors.{IsFieldDescriptor}
use Rattle.jvm_model.specs.Instructions.{HasDescriptorUnits, member_at}
use Rattle.jvm_model.specs.Lookups.{MemberReference}
use Rattle.jvm_model.specs.Programs.{Method, object_name}
use Rattle.jvm_model.specs.Resolution.{itself, Resolves, declared_there}
use Rattle.jvm_model.specs.Resolution.ResolvesFrom.{itself as resolved_there}
use Rattle.jvm_model.specs.Selection.{SelectsSpecial, upward, at_super}
use Rattle.jvm_model.specs.Soundness.{plain_descriptor}
use Rattle.jvm_model.specs.Subtypes.{class_named, IsSubtype, same, below, by_class}
use Rattle.jvm_model.specs.Table.{primitive, reference}
use Rattle.machine_bytecode.specs.Machine.{MethodCode, NamesField, NamesMethod}
use Rattle.machine_bytecode.specs.Objects.{IsOf}
use Rattle.machine_bytecode.specs.Start.{start_frame, boot_site}
use Rattle.machine_bytecode.specs.States.{Value, reference_to, Object, Frame, World, State, waiting, new_object}
use Rattle.example_machine.specs.Calling.{door_class, gate_class, gate_close, gate_pool, main_class, main_pool, only_returns, same_number, closing_class, program_with, runs}
use Rattle.example_machine.proofs.Facts.{declared_field}
use Rattle.example_machine.proofs.Runs.{Arrives, built, body_fits, starts_at, enters_at, entered_in, first_world, on}
use Rattle.example_machine.proofs.Types.{no_types, one_type, base_type, class_type, units_by}
use Rattle.example_machine.proofs.Searches.{chain_up, differ}

-- ---- units

pub door_type : IsFieldDescriptor (codes "LDoor;")
door_type = class_type (codes "Door") [] refl

pub plain_units : HasDescriptorUnits plain_descriptor [] []
plain_units = units_by [] (codes "V") no_types refl (inl refl)

pub int_units : HasDescriptorUnits (codes "()I") [] (primitive ∷ [])
int_units = units_by [] (codes "I") no_types refl (inr (base_type 73 refl))

pub int_to_int_units : HasDescriptorUnits (codes "(I)I") (primitive ∷ []) (primitive ∷ [])
int_to_int_units = units_by (codes "I" ∷ []) (codes "I") (one_type _ (base_type 73 refl)) refl (inr (base_type 73 refl))

pub door_units : HasDescriptorUnits (codes "()LDoor;") [] (reference ∷ [])
door_units = units_by [] (codes "LDoor;") no_types refl (inr door_type)

pub from_door_units : HasDescriptorUnits (codes "(LDoor;)V") (reference ∷ []) []
from_door_units = units_by (codes "LDoor;" ∷ []) (codes "V") (one_type _ door_type) refl (inl refl)

pub door_to_door_units : HasDescriptorUnits (codes "(LDoor;)LDoor;") (reference ∷ []) (reference ∷ [])
door_to_door_units = units_by (codes "LDoor;" ∷ []) (codes "LDoor;") (one_type _ door_type) refl (inr door_type)

abbrev pub outside : List Frame
outside = waiting start_frame [] ∷ []

module _ (k : CodeBody) where
  -- ---- methods: their numbers are 0 and 1 in Closing, 2 in Door, 3 in Gate, 4 and 5 in Main, 6 and 7 in java/lang/Object, and from 8 on in the house

  abbrev pub shut_of : MethodCode (program_with k) 1
  shut_of = built (program_with k) 1 _ closing_class 1 1 8 7 only_returns refl refl refl refl

  abbrev pub door_close_of : MethodCode (program_with k) 2
  door_close_of = built (program_with k) 2 _ door_class 0 1 6 7 only_returns refl refl refl refl

  abbrev pub gate_close_of : MethodCode (program_with k) 3
  gate_close_of = built (program_with k) 3 _ gate_class 0 1 6 7 gate_close refl refl refl refl

  abbrev pub same_of : MethodCode (program_with k) 5
  same_of = built (program_with k) 5 _ (main_class k) 1 9 8 9 same_number refl refl refl refl

  abbrev pub names_gate : NamesField (program_with k) main_pool 32 true
  names_gate = declared_field _ _ _ _ 1 _ _ refl refl refl refl refl

  -- a static method of the house is named
  abbrev pub house_named : (operand number : ℕ) (called : MemberReference) (m : Method) → member_at main_pool operand ≡ Some called → called.class ≡ codes "lib/House"
      → slice_get (program_with k).methods number ≡ Some m → m.class ≡ codes "lib/House" → m.signature ≡ called.signature → NamesMethod (program_with k) main_pool operand
  house_named operand number called m named of_house stands of_class same_call = record {
    called = called;
    named = named;
    resolved = number;
    resolves = record {
      class = _;
      named = ap (class_named (program_with k)) of_house;
      search = resolved_there (record {
        chain = chain_up (program_with k) 3 (Some (codes "lib/House"));
        of_start = (refl, (refl, tt));
        first = inl (record { method = m; stands = stands; of_class = of_class; is = same_call });
      });
    };
    method = m;
    stands = stands;
  }

  -- close of Door, and close and shut of Closing
  abbrev pub door_closes : Resolves (program_with k) (record { class = codes "Door"; signature = record { name = codes "close"; descriptor = plain_descriptor } }) 2
  door_closes = record {
    class = _;
    named = refl;
    search = resolved_there (record { chain = chain_up (program_with k) 3 (Some (codes "Door")); of_start = (refl, (refl, tt)); first = inl (record { method = _; stands = refl; of_class = refl; is = refl }) });
  }

  abbrev pub names_close : NamesMethod (program_with k) main_pool 16
  names_close = record { called = _; named = refl; resolved = 2; resolves = door_closes; method = _; stands = refl }

  abbrev pub names_super : NamesMethod (program_with k) gate_pool 9
  names_super = record { called = _; named = refl; resolved = 2; resolves = door_closes; method = _; stands = refl }

  -- the call of close of Door by that of Gate selects it
  pub super_selected : SelectsSpecial (program_with k) (codes "Gate") names_super.called 2
  super_selected = record {
    start = codes "Door";
    begins = at_super _ (record {
      no_constructor = differ _ _ refl;
      other = differ _ _ refl;
      chain = chain_up (program_with k) 4 (Some (codes "Gate"));
      upward = (refl, (refl, (refl, tt)));
      above = _;
      stands = (1, omega arith, refl);
      named = refl;
    }) refl refl;
    class = _;
    named = refl;
    chosen = upward (record { chain = chain_up (program_with k) 3 (Some (codes "Door")); of_start = (refl, (refl, tt)); first = inl (record { method = _; stands = refl; of_class = refl; is = (refl, refl) }) });
  }

  abbrev pub names_interface_close : NamesMethod (program_with k) main_pool 19
  names_interface_close = record {
    called = _;
    named = refl;
    resolved = 0;
    resolves = record { class = _; named = refl; search = resolved_there (declared_there (record { method = _; stands = refl; of_class = refl; is = refl })) };
    method = _;
    stands = refl;
  }

  abbrev pub names_shut : NamesMethod (program_with k) main_pool 22
  names_shut = record {
    called = _;
    named = refl;
    resolved = 1;
    resolves = record { class = _; named = refl; search = resolved_there (declared_there (record { method = _; stands = refl; of_class = refl; is = refl })) };
    method = _;
    stands = refl;
  }

  abbrev pub names_hash : NamesMethod (program_with k) main_pool 26
  names_hash = record {
    called = _;
    named = refl;
    resolved = 6;
    resolves = record {
      class = _;
      named = refl;
      search = resolved_there (record { chain = chain_up (program_with k) 3 (Some object_name); of_start = (refl, tt); first = inl (record { method = _; stands = refl; of_class = refl; is = refl }) });
    };
    method = _;
    stands = refl;
  }

  -- a gate is a door, and a door is a closing
  pub gate_below_door : IsSubtype (program_with k) (codes "Door") (codes "Gate")
  gate_below_door = below _ _ _ refl (inl refl) (same _ refl)

  pub gate_below_closing : IsSubtype (program_with k) (codes "Closing") (codes "Gate")
  gate_below_closing = below _ _ _ refl (inl refl) (below _ _ _ refl (inr (0, omega arith, refl)) (same _ refl))

  -- a gate at the place 2
  abbrev pub gate_in : ℕ → Object
  gate_in state = new_object (program_with k) (boot_site (codes "Gate")) state

  abbrev pub is_door : (w : World) (state : ℕ) → slice_get w.heap 2 ≡ Some (gate_in state) → IsOf (program_with k) (codes "Door") w (reference_to 2)
  is_door w state held = record { to = record { place = 2; is = refl; object = gate_in state; held = held }; fits = by_class _ _ _ refl gate_below_door }

  abbrev pub is_closing : (w : World) (state : ℕ) → slice_get w.heap 2 ≡ Some (gate_in state) → IsOf (program_with k) (codes "Closing") w (reference_to 2)
  is_closing w state held = record { to = record { place = 2; is = refl; object = gate_in state; held = held }; fits = by_class _ _ _ refl gate_below_closing }

module _ (k : CodeBody) (fits : body_fits k ≡ true) where
  abbrev pub main_of : MethodCode (program_with k) 4
  main_of = built (program_with k) 4 _ (main_class k) 0 9 6 7 k refl refl refl fits

  abbrev pub world : World
  world = first_world (runs k) []

  abbrev pub main_at : ℕ → List Value → World → State
  main_at offset slots w = on (runs k) 4 main_of outside offset slots w

  pub begun : Arrives (runs k) (entered_in (runs k) main_of world)
  begun = enters_at (runs k) main_of world (starts_at (runs k) main_of [] refl)
