-- The executions of the examples, step by step: up to the first instruction of `main`, a new object, a call on it, an object of `make`, and the last steps.
use Rattle.std.proofs.Common.{codes, ◌≡◌, ℕ, ◌+◌, true, false, List, [], ◌∷◌, length, drop, None, Some, slice_get, slice_index, inl, refl, ap, subst, arith, Ok}
use Rattle.std.proofs.lemmas.Bool.{le-ltb}
use Rattle.std.proofs.lemmas.List.{append-nil}
use Rattle.jvm_model.specs.declared.automaton.Event.{Event}
use Rattle.jvm_model.specs.declared.stub.StubMethod.{StubMethod}
use Rattle.jvm_model.specs.declared.stub.StubResult.TheVariants.{Void}
use Rattle.jvm_model.specs.Code.{CodeBody}
use Rattle.jvm_model.specs.Instructions.{DecodedInstruction, instruction, instruction_at, member_at, needs, with_units}
use Rattle.jvm_model.specs.Lookups.{MemberReference}
use Rattle.jvm_model.specs.Programs.{Class, Method, is_static, method_of, object_name}
use Rattle.jvm_model.specs.Resolution.ResolvesFrom.{itself as resolved_there}
use Rattle.jvm_model.specs.Selection.{at_named, upward}
use Rattle.jvm_model.specs.Soundness.{plain_descriptor}
use Rattle.jvm_model.specs.Stubs.{method_of_stub}
use Rattle.jvm_model.specs.Subtypes.{class_named, same, below, by_class}
use Rattle.jvm_model.specs.Table.{Row, row, nothing, implied, pool_2, any_method, class_method, no_array, any_kind, reference, popped, the_local, the_made, onward, leave, plain, make_object, invoke_special, invoke_static, invoke_virtual, leave_method, null_pointer}
use Rattle.machine_bytecode.specs.Events.{event_for, moved}
use Rattle.machine_bytecode.specs.Machine.{MethodCode, NamesMethod, advances, enters, gets_result, returns, ends}
use Rattle.machine_bytecode.specs.Objects.{Subject, Refers, IsOf}
use Rattle.machine_bytecode.specs.States.{Value, primitive_value, reference_to, Frame, World, State, Object, ends_with, with_automaton, with_kept, with_object, new_object}
use Rattle.stub_file.specs.BaseRows.{method}
use Rattle.example_machine.proofs.CallStart.{outside, plain_units}
use Rattle.example_machine.proofs.CallSteps.{Found, enter, get, give_back, give_to_start, not_selecting, waiting_at}
use Rattle.example_machine.proofs.Facts.{call_row, described_at}
use Rattle.example_machine.proofs.Runs.{Arrives, goes, advance, plainly, body_fits, code_is, enters_at, entered_in, first_world, on, starts_at}
use Rattle.example_machine.proofs.Searches.{chain_up}
use Rattle.example_runs.specs.Examples.{class_with_main, constructor_code, empty_code, example_pool, made_in, make_code, making, method_with}
use Rattle.example_runs.proofs.ClassChecks.{making_units}
use Rattle.example_runs.proofs.Linked.{program}
use Rattle.example_runs.proofs.Properties.{with_reads}

-- ---- instructions

-- two bytes that stand there are not cut off
two_there : (a b : ℕ) (rest : List ℕ) (i : DecodedInstruction) → needs 2 (a ∷ b ∷ rest) i ≡ Ok i
two_there a b rest i = rw (le-ltb (length (a ∷ b ∷ rest)) 2 (omega arith)) refl

abbrev new_of : ℕ → DecodedInstruction
new_of index = instruction 187 (row (codes "new") (pool_2 no_array) [] (the_made ∷ []) [] onward make_object []) index 0 [] 3

abbrev pub load_this : DecodedInstruction
load_this = instruction 42 (row (codes "aload_0") (implied 0) [] (the_local ∷ []) [] onward plain []) 0 0 [] 1

abbrev special_row : Row
special_row = row (codes "invokespecial") (pool_2 any_method) [] [] [] onward invoke_special (null_pointer ∷ [])

abbrev special_call : ℕ → DecodedInstruction
special_call index = instruction 183 special_row index 0 [] 3

abbrev virtual_row : Row
virtual_row = row (codes "invokevirtual") (pool_2 class_method) [] [] [] onward invoke_virtual (null_pointer ∷ [])

abbrev pub virtual_call : ℕ → DecodedInstruction
virtual_call index = instruction 182 virtual_row index 0 [] 3

abbrev the_object_return : DecodedInstruction
the_object_return = instruction 176 (row (codes "areturn") nothing (reference ∷ []) [] [] leave leave_method []) 0 0 [] 1

abbrev pub the_return : DecodedInstruction
the_return = instruction 177 (row (codes "return") nothing [] [] [] leave leave_method []) 0 0 [] 1

abbrev pub store_this : DecodedInstruction
store_this = instruction 75 (row (codes "astore_0") (implied 0) (any_kind ∷ []) [] (popped 0 ∷ []) onward plain []) 0 0 [] 1

abbrev static_row : Row
static_row = row (codes "invokestatic") (pool_2 any_method) [] [] [] onward invoke_static []

abbrev pub static_call : ℕ → DecodedInstruction
static_call index = instruction 184 static_row index 0 [] 3

-- a method without parameters and result
abbrev pub plain_method : List ℕ → List ℕ → MemberReference
plain_method class name = record { class = class; signature = record { name = name; descriptor = plain_descriptor } }

-- java/lang/Object, and its constructor, which gives nothing
abbrev object_class : Class
object_class = record { name = object_name; super_class = None; interfaces = []; is_interface = false; is_folder = false; file = codes "-" }

abbrev object_initialiser : StubMethod
object_initialiser = method (codes "<init>") plain_descriptor (Void ∷ []) [] []

abbrev object_constructor : Method
object_constructor = method_of_stub object_name object_initialiser

-- where no object is kept the world stays as it was
keeping_none : (w : World) → with_kept w [] ≡ w
keeping_none w = ap (λ (kept : List ℕ). record { heap = w.heap; statics = w.statics; kept = kept; started = w.started }) (append-nil w.kept)

module _ (main : CodeBody) (nexts : List ℕ) (fits : body_fits main ≡ true) where
  abbrev pub x : Subject
  x = record { program = program main; property = with_reads nexts; entry = 0 }

  -- ---- methods: their numbers are 0 to 4 in the class, and 94 is that of the constructor of java/lang/Object

  abbrev declared : (number flags name descriptor : ℕ) → CodeBody → Method
  declared number flags name descriptor k = method_of (class_with_main main) (number, method_with flags name descriptor k)

  abbrev method_code : (number flags name descriptor : ℕ) (k : CodeBody) → body_fits k ≡ true → slice_get (program main).methods number ≡ Some (declared number flags name descriptor k)
      → MethodCode (program main) number
  method_code number flags name descriptor k fit stands = record {
    method = declared number flags name descriptor k;
    stands = stands;
    file = class_with_main main;
    place = number;
    member = method_with flags name descriptor k;
    of_file = refl;
    body = k;
    has = record { code = _; only = refl; body = code_is k fit };
  }

  abbrev pub main_of : MethodCode (program main) 0
  main_of = method_code 0 9 8 6 main fits refl

  abbrev constructor_of : MethodCode (program main) 1
  constructor_of = method_code 1 1 5 6 constructor_code refl refl

  abbrev make_of : MethodCode (program main) 4
  make_of = method_code 4 9 18 19 make_code refl refl

  -- a method of the class F, found by its name
  abbrev named_here : (number : ℕ) (called : MemberReference) (index : ℕ) → member_at example_pool index ≡ Some called → called.class ≡ codes "F"
      → (m : Method) → slice_get (program main).methods number ≡ Some m → m.class ≡ codes "F" → m.signature ≡ called.signature → NamesMethod (program main) example_pool index
  named_here number called index named home m stands of_class same_name = record {
    called = called;
    named = named;
    resolved = number;
    resolves = record {
      class = _;
      named = ap (class_named (program main)) home;
      search = resolved_there (record { chain = chain_up (program main) 3 (Some (codes "F")); of_start = (refl, (refl, tt)); first = inl (record { method = m; stands = stands; of_class = of_class; is = same_name }) });
    };
    method = m;
    stands = stands;
  }

  -- ---- objects, by the method that makes them

  abbrev pub object_of : (number state : ℕ) → Object
  object_of number state = new_object (program main) (made_in number) state

  abbrev pub world_of : List Object → World
  world_of objects = first_world x objects

  module _ (w : World) (place number state : ℕ) (held : slice_get w.heap place ≡ Some (object_of number state)) where
    abbrev refers : Refers w (reference_to place)
    refers = record { place = place; is = refl; object = object_of number state; held = held }

    -- it is one of its class, and of java/lang/Object
    abbrev pub of_home : IsOf (program main) (codes "F") w (reference_to place)
    of_home = record { to = refers; fits = by_class _ _ _ refl (same _ refl) }

    abbrev of_object : IsOf (program main) object_name w (reference_to place)
    of_object = record { to = refers; fits = by_class _ _ _ refl (below _ _ _ refl (inl refl) (same _ refl)) }

  abbrev pub main_at : ℕ → List Value → World → State
  main_at offset slots w = on x 0 main_of outside offset slots w

  -- ---- up to the first instruction of main

  pub begun : Arrives x (entered_in x main_of (world_of []))
  begun = enters_at x main_of (world_of []) (starts_at x main_of [] refl)

  -- ---- a new object: a method begins with its allocation

  abbrev names_constructor : NamesMethod (program main) example_pool 13
  names_constructor = named_here 1 (plain_method (codes "F") (codes "<init>")) 13 refl refl (declared 1 1 5 6 constructor_code) refl refl refl

  abbrev names_above : NamesMethod (program main) example_pool 12
  names_above = record {
    called = _;
    named = refl;
    resolved = 94;
    resolves = record {
      class = object_class;
      named = refl;
      search = resolved_there (record { chain = chain_up (program main) 3 (Some object_name); of_start = (refl, tt); first = inl (record { method = object_constructor; stands = refl; of_class = refl; is = refl }) });
    };
    method = object_constructor;
    stands = refl;
  }

  module _ (number flags name descriptor : ℕ) (rest : List ℕ) (fit : body_fits (making rest) ≡ true)
      (stands : slice_get (program main).methods number ≡ Some (declared number flags name descriptor (making rest)))
      (callers : List Frame) (w : World)
      (held : slice_get (with_object w (object_of number 0)).heap (length w.heap) ≡ Some (object_of number 0)) where
    abbrev maker : MethodCode (program main) number
    maker = method_code number flags name descriptor (making rest) fit stands

    abbrev the_object : Value
    the_object = reference_to (length w.heap)

    abbrev after : World
    after = with_object w (object_of number 0)

    abbrev maker_at : ℕ → List Value → State
    maker_at offset slots = on x number maker callers offset slots after

    made : Arrives x (on x number maker callers 0 (primitive_value ∷ []) w) → Arrives x (maker_at 3 (primitive_value ∷ the_object ∷ []))
    made a =
        let step = advance x number maker callers 0 (primitive_value ∷ []) w (new_of 2) (two_there 0 2 (drop 3 (making rest).bytes) (new_of 2)) _ refl refl
        the_object after 3 (record { class = codes "F"; named = refl }, record { made_is = refl; after_is = refl }) refl in
        goes _ _ _ a (advances step.at step.step)

    doubled : Arrives x (on x number maker callers 0 (primitive_value ∷ []) w) → Arrives x (maker_at 4 (primitive_value ∷ the_object ∷ the_object ∷ []))
    doubled a = plainly x number maker callers 1 3 (primitive_value ∷ the_object ∷ []) after _ refl (made a)

    -- the maker waits for its constructor
    abbrev waiters : List Frame
    waiters = waiting_at number 4 (primitive_value ∷ the_object ∷ []) ∷ callers

    abbrev in_constructor : ℕ → List Value → State
    in_constructor offset slots = on x 1 constructor_of waiters offset slots after

    abbrev calls_constructor : Found x number maker (special_call 13) (with_units special_row (reference ∷ []) []) (primitive_value ∷ the_object ∷ the_object ∷ []) after after
    calls_constructor = record {
      is_there = refl;
      names = names_constructor;
      target = 1;
      is_target = (
        of_home after (length w.heap) number 0 held,
        record {
          start = codes "F";
          begins = at_named (λ above. above.no_constructor refl) refl;
          class = _;
          named = refl;
          chosen = upward (record { chain = chain_up (program main) 3 (Some (codes "F")); of_start = (refl, (refl, tt)); first = inl (record { method = _; stands = refl; of_class = refl; is = (refl, refl) }) });
        },
      );
      events = not_selecting _ _ _ _ _ refl;
    }

    constructing : Arrives x (maker_at 4 (primitive_value ∷ the_object ∷ the_object ∷ [])) → Arrives x (in_constructor 1 (the_object ∷ the_object ∷ []))
    constructing a =
        let step = enter x number maker callers 4 (primitive_value ∷ the_object ∷ the_object ∷ []) after (special_call 13) (two_there 0 13 (drop 7 (making rest).bytes) (special_call 13)) _
        (call_row _ _ _ _ _ _ refl plain_units) _ calls_constructor constructor_of in
        plainly x 1 constructor_of waiters 1 0 (the_object ∷ []) after _ refl (goes _ _ _ a (enters step.at step.step))

    -- it calls that of java/lang/Object, which keeps nothing
    abbrev calls_above : Found x 1 constructor_of (special_call 12) (with_units special_row (reference ∷ []) []) (the_object ∷ the_object ∷ []) after after
    calls_above = record {
      is_there = refl;
      names = names_above;
      target = 94;
      is_target = (
        of_object after (length w.heap) number 0 held,
        record {
          start = object_name;
          begins = at_named (λ above. above.no_constructor refl) refl;
          class = object_class;
          named = refl;
          chosen = upward (record { chain = chain_up (program main) 3 (Some object_name); of_start = (refl, tt); first = inl (record { method = object_constructor; stands = refl; of_class = refl; is = (refl, refl) }) });
        },
      );
      events = not_selecting _ _ _ _ _ refl;
    }

    constructed_above : Arrives x (in_constructor 1 (the_object ∷ the_object ∷ [])) → Arrives x (in_constructor 4 (the_object ∷ []))
    constructed_above a =
        let step = get x 1 constructor_of waiters 1 (the_object ∷ the_object ∷ []) after (special_call 12) refl _
        (call_row _ _ _ _ _ _ refl plain_units) _ calls_above (described_at _ 94 object_constructor object_initialiser refl refl refl plain_units.is) 0 Void refl primitive_value _ (refl, refl) in
        subst (λ (after_it : World). Arrives x (on x 1 constructor_of waiters 4 (the_object ∷ []) after_it)) (keeping_none after) (goes _ _ _ a (gets_result step.at step.step))

    pub makes : Arrives x (on x number maker callers 0 (primitive_value ∷ []) w) → Arrives x (maker_at 7 (primitive_value ∷ the_object ∷ []))
    makes a =
        let step = give_back x 1 constructor_of number maker callers 4 (the_object ∷ []) after the_return refl _ refl refl refl _ plain_units
        4 (primitive_value ∷ the_object ∷ []) (special_call 13) (two_there 0 13 (drop 7 (making rest).bytes) (special_call 13)) _ (call_row _ _ _ _ _ _ refl plain_units) in
        goes _ _ _ (constructed_above (constructing (doubled a))) (returns step.at step.step)

  -- ---- a call on the object: of the method of a number, whose name stands at an index

  module _ (index name number : ℕ) (event : Event) (stands : slice_get (program main).methods number ≡ Some (declared number 1 name 6 empty_code))
      (named : member_at example_pool index ≡ Some (plain_method (codes "F") event.name))
      (same_name : (declared number 1 name 6 empty_code).signature ≡ (plain_method (codes "F") event.name).signature)
      (instance : is_static (declared number 1 name 6 empty_code) ≡ false)
      (is_event : event_for (with_reads nexts) (plain_method (codes "F") event.name).signature ≡ Some event)
      (w : World) (place maker state : ℕ) (held : slice_get w.heap place ≡ Some (object_of maker state)) where
    abbrev target_of : MethodCode (program main) number
    target_of = method_code number 1 name 6 empty_code refl stands

    abbrev moved_world : World
    moved_world = with_automaton w place (object_of maker state) (slice_index event.next state)

    abbrev calls_target : Found x 0 main_of (virtual_call index) (with_units virtual_row (reference ∷ []) []) (reference_to place ∷ reference_to place ∷ []) w moved_world
    calls_target = record {
      is_there = refl;
      names = named_here number (plain_method (codes "F") event.name) index named refl (declared number 1 name 6 empty_code) stands refl same_name;
      target = number;
      is_target = record {
        instance = instance;
        receiver = of_home w place maker state held;
        selects = record {
          method = _;
          stands = stands;
          chosen = upward (record { chain = chain_up (program main) 3 (Some (codes "F")); of_start = (refl, (refl, tt)); first = inl (record { method = _; stands = stands; of_class = refl; is = (instance, inl refl) }) });
        };
      };
      events = moved (record { selecting = refl; event = event; named = is_event; receiver = refers w place maker state held; no_array = refl; observed = same _ refl }) refl;
    }

    pub calls_it : (offset : ℕ) → instruction_at main.bytes offset ≡ Ok load_this → instruction_at main.bytes (offset + 1) ≡ Ok (virtual_call index)
        → Arrives x (main_at offset (reference_to place ∷ []) w) → Arrives x (main_at (offset + 4) (reference_to place ∷ []) moved_world)
    calls_it offset is_load is_call a =
        let v = reference_to place in
        let load = advance x 0 main_of outside offset (v ∷ []) w load_this is_load _ refl refl primitive_value _ (offset + 1) (refl, refl) refl in
        let call = enter x 0 main_of outside (offset + 1) (v ∷ v ∷ []) w (virtual_call index) is_call _ (call_row _ _ _ _ _ _ named plain_units) moved_world calls_target target_of in
        let back = give_back x number target_of 0 main_of outside 0 (v ∷ []) moved_world the_return refl _ refl refl refl _ plain_units
        (offset + 1) (v ∷ []) (virtual_call index) is_call _ (call_row _ _ _ _ _ _ named plain_units) in
        let three : offset + 1 + 3 ≡ offset + 4 = omega arith in
        subst (λ (n : ℕ). Arrives x (main_at n (v ∷ []) moved_world)) three
        (goes _ _ _ (goes _ _ _ (goes _ _ _ a (advances load.at load.step)) (enters call.at call.step)) (returns back.at back.step))

  -- ---- a call of make, whose object main keeps

  abbrev making_method : MemberReference
  making_method = record { class = codes "F"; signature = record { name = codes "make"; descriptor = codes "()LF;" } }

  abbrev calls_make : (v : Value) (w : World) → Found x 0 main_of (static_call 21) (with_units static_row [] (the_made ∷ [])) (v ∷ []) w w
  calls_make v w = record {
    is_there = refl;
    names = named_here 4 making_method 21 refl refl (declared 4 9 18 19 make_code) refl refl refl;
    target = 4;
    is_target = (refl, refl);
    events = not_selecting _ _ _ _ _ refl;
  }

  pub makes_next : (offset : ℕ) (v : Value) (w : World) → instruction_at main.bytes offset ≡ Ok (static_call 21) → instruction_at main.bytes (offset + 3) ≡ Ok store_this
      → slice_get (with_object w (object_of 4 0)).heap (length w.heap) ≡ Some (object_of 4 0)
      → Arrives x (main_at offset (v ∷ []) w) → Arrives x (main_at (offset + 4) (reference_to (length w.heap) ∷ []) (with_object w (object_of 4 0)))
  makes_next offset v w is_call is_store held a =
      let o = reference_to (length w.heap) in
      let after = with_object w (object_of 4 0) in
      let call = enter x 0 main_of outside offset (v ∷ []) w (static_call 21) is_call _ (call_row _ _ _ _ _ _ refl making_units) w (calls_make v w) make_of in
      let built = makes 4 9 18 19 (176 ∷ []) refl refl (waiting_at 0 offset (v ∷ []) ∷ outside) w held (goes _ _ _ a (enters call.at call.step)) in
      let back = give_back x 4 make_of 0 main_of outside 7 (primitive_value ∷ o ∷ []) after the_object_return refl _ refl refl refl _ making_units
      offset (v ∷ []) (static_call 21) is_call _ (call_row _ _ _ _ _ _ refl making_units) in
      let store = advance x 0 main_of outside (offset + 3) (v ∷ o ∷ []) after store_this is_store _ refl refl primitive_value _ (offset + 3 + 1) (refl, refl) refl in
      let four : offset + 3 + 1 ≡ offset + 4 = omega arith in
      subst (λ (n : ℕ). Arrives x (main_at n (o ∷ []) after)) four (goes _ _ _ (goes _ _ _ built (returns back.at back.step)) (advances store.at store.step))

  -- ---- the last steps

  pub ends_there : (offset : ℕ) (v : Value) (w : World) → instruction_at main.bytes offset ≡ Ok the_return → Arrives x (main_at offset (v ∷ []) w) → Arrives x (ends_with w)
  ends_there offset v w is a =
      let step = give_to_start x 0 main_of offset (v ∷ []) w the_return is _ refl refl refl _ plain_units in
      goes _ _ _ (goes _ _ _ a (returns step.at step.step)) (ends (record { frame = _; below = []; runs = refl; frames = refl; no_method = refl; stands = refl }) (record { after = refl }))
