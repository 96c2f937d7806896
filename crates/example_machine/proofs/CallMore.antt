-- More calls: of a constructor, of a method of java/lang/Object through an interface, of a method that a class inherits from an
-- interface, and of described methods of an object.
use Rattle.std.proofs.Common.{codes, ◌≡◌, ◌⊎◌, inl, inr, ℕ, true, false, List, [], ◌∷◌, Some, slice_get, refl, sym, ap, ◌∙◌, arith}
use Rattle.std.proofs.lemmas.List.Elements.{All-cons}
use Rattle.std.proofs.lemmas.Option.{same_Some}
use Rattle.jvm_model.specs.declared.site.SiteKind.TheVariants.{New, Result}
use Rattle.jvm_model.specs.Code.{CodeBody}
use Rattle.jvm_model.specs.Descriptors.{IsFieldDescriptor}
use Rattle.jvm_model.specs.Instructions.{HasDescriptorUnits}
use Rattle.jvm_model.specs.Lookups.{Signature}
use Rattle.jvm_model.specs.Programs.{Method, object_name}
use Rattle.jvm_model.specs.Resolution.{Declares, HasSignature, IsInstanceWith, IsOnlyDefault, of_object}
use Rattle.jvm_model.specs.Resolution.ResolvesFrom.{itself as resolved_there, by_default as resolved_by_default}
use Rattle.jvm_model.specs.Selection.{IsSelectable, Overrides, upward, by_default, at_named}
use Rattle.jvm_model.specs.Subtypes.{by_class, below, same}
use Rattle.jvm_model.specs.Table.{primitive, reference}
use Rattle.machine_bytecode.specs.Machine.{NamesMethod, advances, enters, gets_result}
use Rattle.machine_bytecode.specs.States.{primitive_value, reference_to, World, with_object, new_object, site_at}
use Rattle.example_machine.specs.Calling.{main_pool, program_with, runs, creates, hashes_gate, shuts_door, picks, gets_me}
use Rattle.example_machine.specs.Taking.{Takes, Shows, Entering, GettingResult}
use Rattle.example_machine.proofs.Facts.{call_row, described_at, field_row, refers_to, shows}
use Rattle.example_machine.proofs.Runs.{body_fits, goes, takes, frame_at, advance, plainly}
use Rattle.example_machine.proofs.Types.{among, no_types, one_type, base_type, class_type, units_by}
use Rattle.example_machine.proofs.Searches.{chain_up, differ, none_declared, none_found, only_default}
use Rattle.example_machine.proofs.CallSteps.{enter, get, not_selecting, not_named}
use Rattle.example_machine.proofs.CallStart.{outside, main_of, shut_of, world, begun, int_units, plain_units, door_type, names_gate, house_named, gate_below_closing, is_closing}
use Rattle.example_machine.proofs.CallRuns.{shut_signature}

-- ---- a constructor

abbrev created : World
created = with_object (world creates refl) (new_object (program_with creates) (site_at New (frame_at 4 0 []) object_name) 0)

abbrev names_constructor : NamesMethod (program_with creates) main_pool 63
names_constructor = record {
  called = _;
  named = refl;
  resolved = 7;
  resolves = record {
    class = _;
    named = refl;
    search = resolved_there (record { chain = chain_up (program_with creates) 2 (Some object_name); of_start = (refl, tt); first = inl (record { method = _; stands = refl; of_class = refl; is = refl }) });
  };
  method = _;
  stands = refl;
}

pub a_constructor_is_called : Takes (runs creates)
    (λ s t. GettingResult (runs creates) (codes "invokespecial") (codes "java/lang/Object") (codes "<init>") s t × Shows 7 (reference_to 3 ∷ []) t)
a_constructor_is_called =
    let first = advance (runs creates) 4 (main_of creates refl) outside 0 [] (world creates refl) _ refl _
    refl refl (reference_to 3) created _ (record { class = _; named = refl }, record { made_is = refl; after_is = refl }) refl in
    let copied = plainly (runs creates) 4 (main_of creates refl) outside 1 3 (reference_to 3 ∷ []) created _ refl (goes _ _ _ (begun creates refl) (advances first.at first.step)) in
    let step = get (runs creates) 4 (main_of creates refl) outside 4 (reference_to 3 ∷ reference_to 3 ∷ []) created _ refl _ (call_row _ _ _ _ _ _ refl plain_units) _
    (record {
      is_there = refl;
      names = names_constructor;
      target = 7;
      is_target = (
        record { to = refers_to _ 3 _ refl; fits = by_class _ _ _ refl (same _ refl) },
        record {
          start = object_name;
          begins = at_named (λ above. above.no_constructor refl) refl;
          class = _;
          named = refl;
          chosen = upward (record { chain = chain_up (program_with creates) 2 (Some object_name); of_start = (refl, tt); first = inl (record { method = _; stands = refl; of_class = refl; is = (refl, refl) }) });
        },
      );
      events = not_selecting _ _ _ _ _ refl;
    })
    (described_at _ _ _ _ refl refl refl plain_units.is) 0 _ refl primitive_value _ (refl, refl) in
    takes _ _ _ _ copied (gets_result step.at step.step) (step, shows _ _ _)

-- ---- a method of java/lang/Object, through an interface

abbrev hash_signature : Signature
hash_signature = record { name = codes "hashCode"; descriptor = codes "()I" }

abbrev names_interface_hash : NamesMethod (program_with hashes_gate) main_pool 64
names_interface_hash = record {
  called = _;
  named = refl;
  resolved = 6;
  resolves = record {
    class = _;
    named = refl;
    search = resolved_there (of_object (none_declared (program_with hashes_gate) (codes "Closing" ∷ []) hash_signature (HasSignature hash_signature) (λ n m stands is. is) refl (codes "Closing") refl)
        (record { method = _; stands = refl; of_class = refl; is = (refl, refl, refl) }));
  };
  method = _;
  stands = refl;
}

-- neither Gate nor Door declares it
hash_undeclared : (class : List ℕ) → among (codes "Gate" ∷ codes "Door" ∷ []) class ≡ true → (other : ℕ) → Declares (program_with hashes_gate) (IsInstanceWith hash_signature) class other → ⊥
hash_undeclared = none_declared (program_with hashes_gate) (codes "Gate" ∷ codes "Door" ∷ []) hash_signature (IsInstanceWith hash_signature) (λ n m stands is. is.0) refl

pub a_method_of_object_is_called_through_an_interface : Takes (runs hashes_gate)
    (λ s t. GettingResult (runs hashes_gate) (codes "invokeinterface") (codes "java/lang/Object") (codes "hashCode") s t × Shows 8 (primitive_value ∷ []) t)
a_method_of_object_is_called_through_an_interface =
    let first = advance (runs hashes_gate) 4 (main_of hashes_gate refl) outside 0 [] (world hashes_gate refl) _ refl _
    (field_row _ _ _ _ _ refl door_type) refl (reference_to 2) _ _ (names_gate hashes_gate, (refl, refl)) refl in
    let step = get (runs hashes_gate) 4 (main_of hashes_gate refl) outside 3 (reference_to 2 ∷ []) (world hashes_gate refl) _ refl _ (call_row _ _ _ _ _ _ refl int_units) _
    (record {
      is_there = refl;
      names = names_interface_hash;
      target = 6;
      is_target = record {
        instance = refl;
        receiver = record { to = refers_to _ 2 _ refl; fits = by_class _ _ _ refl (below _ _ _ refl (inl refl) (below _ _ _ refl (inl refl) (same _ refl))) };
        selects = record {
          method = _;
          stands = refl;
          chosen = upward (record {
            chain = chain_up (program_with hashes_gate) 4 (Some (codes "Gate"));
            of_start = (refl, (refl, (refl, tt)));
            first = inr (hash_undeclared (codes "Gate") refl, inr (hash_undeclared (codes "Door") refl, inl (record { method = _; stands = refl; of_class = refl; is = (refl, refl) })));
          });
        };
      };
      events = not_named _ _ _ _ _ refl;
    })
    (described_at _ _ _ _ refl refl refl int_units.is) 0 _ refl primitive_value _ (refl, refl) in
    takes _ _ _ _ (goes _ _ _ (begun hashes_gate refl) (advances first.at first.step)) (gets_result step.at step.step) (step, shows _ _ _)

-- ---- a method that a class inherits from an interface

shut_of_door : IsOnlyDefault (program_with shuts_door) (codes "Door") shut_signature 1
shut_of_door =
    only_default (program_with shuts_door) (codes "Door") shut_signature 1
    (record { method = _; stands = refl; above = record { interface = _; named = refl; kind = refl; below = (below _ _ _ refl (inr (0, omega arith, refl)) (same _ refl), differ _ _ refl) }; same_call = refl; visible = refl; instance = refl })
    refl refl

shut_of_gate : IsOnlyDefault (program_with shuts_door) (codes "Gate") shut_signature 1
shut_of_gate =
    only_default (program_with shuts_door) (codes "Gate") shut_signature 1
    (record { method = _; stands = refl; above = record { interface = _; named = refl; kind = refl; below = (gate_below_closing shuts_door, differ _ _ refl) }; same_call = refl; visible = refl; instance = refl })
    refl refl

abbrev names_door_shut : NamesMethod (program_with shuts_door) main_pool 65
names_door_shut = record {
  called = _;
  named = refl;
  resolved = 1;
  resolves = record {
    class = _;
    named = refl;
    search = resolved_by_default (none_found (program_with shuts_door) (codes "Door" ∷ object_name ∷ []) shut_signature (HasSignature shut_signature) (λ n m stands is. is) refl refl (codes "Door") refl) shut_of_door;
  };
  method = _;
  stands = refl;
}

-- what may be selected has the name and the descriptor
selectable_is_shut : (n : ℕ) (m : Method) → slice_get (program_with shuts_door).methods n ≡ Some m → IsSelectable (program_with shuts_door) false 1 (shut_of shuts_door).method n m → m.signature ≡ shut_signature
selectable_is_shut n m stands (instance, is) = by is where
  by : (n ≡ 1) ⊎ Overrides (program_with shuts_door) m (shut_of shuts_door).method → m.signature ≡ shut_signature
  by (inl e) = ap (λ (k : Method). k.signature) (same_Some m (shut_of shuts_door).method (sym stands ∙ ap (slice_get (program_with shuts_door).methods) e))
  by (inr o) = o.same_call

pub a_default_is_called_on_a_class : Takes (runs shuts_door)
    (λ s t. Entering (runs shuts_door) (codes "invokevirtual") (codes "Closing") (codes "shut") s t × Shows 0 (reference_to 2 ∷ []) t)
a_default_is_called_on_a_class =
    let first = advance (runs shuts_door) 4 (main_of shuts_door refl) outside 0 [] (world shuts_door refl) _ refl _
    (field_row _ _ _ _ _ refl door_type) refl (reference_to 2) _ _ (names_gate shuts_door, (refl, refl)) refl in
    let step = enter (runs shuts_door) 4 (main_of shuts_door refl) outside 3 (reference_to 2 ∷ []) (world shuts_door refl) _ refl _ (call_row _ _ _ _ _ _ refl plain_units) _
    (record {
      is_there = refl;
      names = names_door_shut;
      target = 1;
      is_target = record {
        instance = refl;
        receiver = is_closing shuts_door (world shuts_door refl) 0 refl;
        selects = record {
          method = _;
          stands = refl;
          chosen = by_default (none_found (program_with shuts_door) (codes "Gate" ∷ codes "Door" ∷ object_name ∷ []) shut_signature (IsSelectable (program_with shuts_door) false 1 (shut_of shuts_door).method) selectable_is_shut refl refl (codes "Gate") refl) shut_of_gate;
        };
      };
      events = not_named _ _ _ _ _ refl;
    })
    (shut_of shuts_door) in
    takes _ _ _ _ (goes _ _ _ (begun shuts_door refl) (advances first.at first.step)) (enters step.at step.step) (step, shows _ _ _)

-- ---- described methods of an object

house_type : IsFieldDescriptor (codes "Llib/House;")
house_type = class_type (codes "lib") (codes "House" ∷ []) refl

abbrev house_units : HasDescriptorUnits (codes "()Llib/House;") [] (reference ∷ [])
house_units = units_by [] (codes "Llib/House;") no_types refl (inr house_type)

abbrev pick_units : HasDescriptorUnits (codes "(JLDoor;)LDoor;") (primitive ∷ primitive ∷ reference ∷ []) (reference ∷ [])
pick_units = units_by (codes "J" ∷ codes "LDoor;" ∷ []) (codes "LDoor;") (All-cons IsFieldDescriptor (codes "J") (codes "LDoor;" ∷ []) (base_type 74 refl) (one_type (codes "LDoor;") door_type)) refl (inr door_type)

module _ (k : CodeBody) (fits : body_fits k ≡ true) where
  -- a house was made, at the first instruction
  abbrev with_house : World
  with_house = with_object (world k fits) (new_object (program_with k) (site_at Result (frame_at 4 0 []) (codes "lib/House")) 0)

pub an_argument_after_a_long_is_given_back : Takes (runs picks)
    (λ s t. GettingResult (runs picks) (codes "invokevirtual") (codes "lib/House") (codes "pick") s t × Shows 10 (reference_to 2 ∷ []) t)
an_argument_after_a_long_is_given_back =
    let first = get (runs picks) 4 (main_of picks refl) outside 0 [] (world picks refl) _ refl _ (call_row _ _ _ _ _ _ refl house_units) _
    (record { is_there = refl; names = house_named picks 69 16 _ _ refl refl refl refl refl; target = 16; is_target = (refl, refl); events = not_selecting _ _ _ _ _ refl })
    (described_at _ _ _ _ refl refl refl house_units.is) 0 _ refl (reference_to 3) (with_house picks refl) (record { made_is = refl; after_is = refl }) in
    let pushed = plainly (runs picks) 4 (main_of picks refl) outside 1 3 (reference_to 3 ∷ []) (with_house picks refl) _ refl (goes _ _ _ (begun picks refl) (gets_result first.at first.step)) in
    let third = advance (runs picks) 4 (main_of picks refl) outside 4 (reference_to 3 ∷ primitive_value ∷ primitive_value ∷ []) (with_house picks refl) _ refl _
    (field_row _ _ _ _ _ refl door_type) refl (reference_to 2) _ _ (names_gate picks, (refl, refl)) refl in
    let step = get (runs picks) 4 (main_of picks refl) outside 7 (reference_to 3 ∷ primitive_value ∷ primitive_value ∷ reference_to 2 ∷ []) (with_house picks refl) _ refl _
    (call_row _ _ _ _ _ _ refl pick_units) _
    (record {
      is_there = refl;
      names = house_named picks 73 17 _ _ refl refl refl refl refl;
      target = 17;
      is_target = record {
        instance = refl;
        receiver = record { to = refers_to _ 3 _ refl; fits = by_class _ _ _ refl (same _ refl) };
        selects = record {
          method = _;
          stands = refl;
          chosen = upward (record { chain = chain_up (program_with picks) 3 (Some (codes "lib/House")); of_start = (refl, (refl, tt)); first = inl (record { method = _; stands = refl; of_class = refl; is = (refl, inl refl) }) });
        };
      };
      events = not_named _ _ _ _ _ refl;
    })
    (described_at _ _ _ _ refl refl refl pick_units.is) 0 _ refl (reference_to 2) _ (refl, refl) in
    takes _ _ _ _ (goes _ _ _ pushed (advances third.at third.step)) (gets_result step.at step.step) (step, shows _ _ _)

pub a_receiver_is_given_back : Takes (runs gets_me) (λ s t. GettingResult (runs gets_me) (codes "invokevirtual") (codes "lib/House") (codes "me") s t × Shows 6 (reference_to 3 ∷ []) t)
a_receiver_is_given_back =
    let first = get (runs gets_me) 4 (main_of gets_me refl) outside 0 [] (world gets_me refl) _ refl _ (call_row _ _ _ _ _ _ refl house_units) _
    (record { is_there = refl; names = house_named gets_me 69 16 _ _ refl refl refl refl refl; target = 16; is_target = (refl, refl); events = not_selecting _ _ _ _ _ refl })
    (described_at _ _ _ _ refl refl refl house_units.is) 0 _ refl (reference_to 3) (with_house gets_me refl) (record { made_is = refl; after_is = refl }) in
    let step = get (runs gets_me) 4 (main_of gets_me refl) outside 3 (reference_to 3 ∷ []) (with_house gets_me refl) _ refl _ (call_row _ _ _ _ _ _ refl house_units) _
    (record {
      is_there = refl;
      names = house_named gets_me 76 18 _ _ refl refl refl refl refl;
      target = 18;
      is_target = record {
        instance = refl;
        receiver = record { to = refers_to _ 3 _ refl; fits = by_class _ _ _ refl (same _ refl) };
        selects = record {
          method = _;
          stands = refl;
          chosen = upward (record { chain = chain_up (program_with gets_me) 3 (Some (codes "lib/House")); of_start = (refl, (refl, tt)); first = inl (record { method = _; stands = refl; of_class = refl; is = (refl, inl refl) }) });
        };
      };
      events = not_named _ _ _ _ _ refl;
    })
    (described_at _ _ _ _ refl refl refl house_units.is) 0 _ refl (reference_to 3) _ (refl, refl) in
    takes _ _ _ _ (goes _ _ _ (begun gets_me refl) (gets_result first.at first.step)) (gets_result step.at step.step) (step, shows _ _ _)
