-- What the executions of the examples come to.
use Rattle.std.proofs.Common.{codes, ◌≡◌, ℕ, ◌+◌, true, List, [], ◌∷◌, ◌++◌, length, All, Contains, Ok, Some, slice_get, slice_index, refl, arith}
use Rattle.std.proofs.lemmas.List.Elements.{All-cons, All-nil, Contains-append_right}
use Rattle.jvm_model.specs.declared.site.Site.{Site}
use Rattle.jvm_model.specs.declared.site.SiteKind.TheVariants.{New}
use Rattle.jvm_model.specs.Code.{CodeBody}
use Rattle.jvm_model.specs.Instructions.{instruction_at}
use Rattle.machine_bytecode.specs.Executions.{Errs}
use Rattle.machine_bytecode.specs.Machine.{advances, of_references}
use Rattle.machine_bytecode.specs.Objects.{Subject, fitting}
use Rattle.machine_bytecode.specs.States.{Value, Object, State, World, ends_with, new_array, null_value, primitive_value, reference_to, site_at, with_automaton, with_object}
use Rattle.example_machine.proofs.CallStart.{outside}
use Rattle.example_machine.proofs.Facts.{is_array, makes_array}
use Rattle.example_machine.proofs.Runs.{Arrives, advance, body_fits, frame_at, goes, plainly}
use Rattle.example_runs.specs.Examples.{EndsIn, HasOneIn, call_close, call_read, calls_of, made_in, main_code, next_code, put_into_array}
use Rattle.example_runs.proofs.Properties.{event_of}
use Rattle.example_runs.proofs.Runs.{x as subject, begun, calls_it, ends_there, load_this, main_at, main_of, makes, makes_next, object_of, of_home, static_call, store_this, the_return, virtual_call, world_of}

module _ (main : CodeBody) (nexts : List ℕ) (fits : body_fits main ≡ true) where
  abbrev x : Subject
  x = subject main nexts fits

  abbrev object : ℕ → ℕ → Object
  object number state = object_of main nexts fits number state

  abbrev world : List Object → World
  world objects = world_of main nexts fits objects

  -- main stands at an offset, and its local variable has the object at a place
  abbrev on : ℕ → ℕ → World → State
  on offset place w = main_at main nexts fits offset (reference_to place ∷ []) w

  -- main stands at a call of the method at an index
  abbrev Calls : ℕ → ℕ → Type 0
  Calls index offset = (instruction_at main.bytes offset ≡ Ok load_this) × (instruction_at main.bytes (offset + 1) ≡ Ok (virtual_call index))

  module _ (w : World) (place maker state : ℕ) (held : slice_get w.heap place ≡ Some (object maker state)) where
    reads : (offset : ℕ) → Calls call_read offset → Arrives x (on offset place w) → Arrives x (on (offset + 4) place (with_automaton w place (object maker state) (slice_index nexts state)))
    reads offset here a = calls_it main nexts fits call_read 9 2 (event_of (codes "read") nexts) refl refl refl refl refl w place maker state held offset here.0 here.1 a

    closes : (offset : ℕ) → Calls call_close offset → Arrives x (on offset place w) → Arrives x (on (offset + 4) place (with_automaton w place (object maker state) (slice_index (1 ∷ 1 ∷ 2 ∷ []) state)))
    closes offset here a = calls_it main nexts fits call_close 10 3 (event_of (codes "close") (1 ∷ 1 ∷ 2 ∷ [])) refl refl refl refl refl w place maker state held offset here.0 here.1 a

  last_of : (states : List State) (s : State) → Contains (states ++ s ∷ []) s
  last_of states s = Contains-append_right states (s ∷ []) s (0, omega arith, refl)

  errs_at : (s : State) (maker : ℕ) → Contains s.world.heap (object maker 2) → Arrives x s → Errs x (made_in maker)
  errs_at s maker lives a = record {
    states = a.states ++ s ∷ [];
    execution = a.run;
    state = s;
    reached = last_of a.states s;
    object = object maker 2;
    lives = lives;
    of_site = refl;
    in_error = refl;
  }

  has_one : (w : World) (maker state : ℕ) → Contains w.heap (object maker state) → HasOneIn w (made_in maker) state
  has_one w maker state lives = record { object = object maker state; lives = lives; of_site = refl; in_state = refl }

  ends_in : (w : World) (site : Site) (states : List ℕ) → All (HasOneIn w site) states → Arrives x (ends_with w) → EndsIn x site states
  ends_in w site states each a = record {
    before = a.states;
    last = ends_with w;
    execution = a.run;
    is_end = refl;
    each = each;
  }

one_in : (w : World) (site : Site) (state : ℕ) → HasOneIn w site state → All (HasOneIn w site) (state ∷ [])
one_in w site state h = All-cons (HasOneIn w site) state [] h (All-nil (HasOneIn w site))

two_in : (w : World) (site : Site) (first second : ℕ) → HasOneIn w site first → HasOneIn w site second → All (HasOneIn w site) (first ∷ second ∷ [])
two_in w site first second h k = All-cons (HasOneIn w site) first (second ∷ []) h (one_in w site second k)

-- ---- main makes an object itself, and calls methods on it

module _ (called nexts : List ℕ) (fits : body_fits (main_code called) ≡ true) where
  abbrev with_calls : Subject
  with_calls = x (main_code called) nexts fits

  -- with the object in a state
  abbrev with_one : ℕ → World
  with_one state = world (main_code called) nexts fits (object (main_code called) nexts fits 0 state ∷ [])

  abbrev one_at : ℕ → ℕ → State
  one_at offset state = on (main_code called) nexts fits offset 4 (with_one state)

  stored : Arrives with_calls (one_at 8 0)
  stored =
      plainly with_calls 0 (main_of (main_code called) nexts fits) outside 1 7 (primitive_value ∷ reference_to 4 ∷ []) (with_one 0) _ refl
      (makes (main_code called) nexts fits 0 9 8 6 (75 ∷ (calls_of called ++ 177 ∷ [])) fits refl outside (world (main_code called) nexts fits []) refl (begun (main_code called) nexts fits))

  one_reads : (offset state : ℕ) → Calls (main_code called) nexts fits call_read offset → Arrives with_calls (one_at offset state) → Arrives with_calls (one_at (offset + 4) (slice_index nexts state))
  one_reads offset state here a = reads (main_code called) nexts fits (with_one state) 4 0 state refl offset here a

  one_closes : (offset state : ℕ) → Calls (main_code called) nexts fits call_close offset → Arrives with_calls (one_at offset state) → Arrives with_calls (one_at (offset + 4) (slice_index (1 ∷ 1 ∷ 2 ∷ []) state))
  one_closes offset state here a = closes (main_code called) nexts fits (with_one state) 4 0 state refl offset here a

  one_errs : (offset : ℕ) → Arrives with_calls (one_at offset 2) → Errs with_calls (made_in 0)
  one_errs offset a = errs_at (main_code called) nexts fits (one_at offset 2) 0 (4, omega arith, refl) a

  one_ends : (offset state : ℕ) → instruction_at (main_code called).bytes offset ≡ Ok the_return → Arrives with_calls (one_at offset state) → EndsIn with_calls (made_in 0) (state ∷ [])
  one_ends offset state is a =
      ends_in (main_code called) nexts fits (with_one state) (made_in 0) (state ∷ [])
      (one_in (with_one state) (made_in 0) state (has_one (main_code called) nexts fits (with_one state) 0 state (4, omega arith, refl)))
      (ends_there (main_code called) nexts fits offset (reference_to 4) (with_one state) is a)

-- ---- two reads

abbrev pub twice : List ℕ
twice = call_read ∷ call_read ∷ []

read_twice : (nexts : List ℕ) → Arrives (with_calls twice nexts refl) (one_at twice nexts refl 16 (slice_index nexts (slice_index nexts 0)))
read_twice nexts = one_reads twice nexts refl 12 (slice_index nexts 0) (refl, refl) (one_reads twice nexts refl 8 0 (refl, refl) (stored twice nexts refl))

pub twice_ends : (nexts : List ℕ) → EndsIn (with_calls twice nexts refl) (made_in 0) (slice_index nexts (slice_index nexts 0) ∷ [])
twice_ends nexts = one_ends twice nexts refl 16 (slice_index nexts (slice_index nexts 0)) refl (read_twice nexts)

pub twice_errs : Errs (with_calls twice (1 ∷ 2 ∷ 2 ∷ []) refl) (made_in 0)
twice_errs = one_errs twice (1 ∷ 2 ∷ 2 ∷ []) refl 16 (read_twice (1 ∷ 2 ∷ 2 ∷ []))

-- ---- a read after two calls of close

abbrev pub after_close : List ℕ
after_close = call_close ∷ call_close ∷ call_read ∷ []

abbrev pub opened_next : List ℕ
opened_next = 0 ∷ 2 ∷ 2 ∷ []

read_last : Arrives (with_calls after_close opened_next refl) (one_at after_close opened_next refl 20 2)
read_last =
    one_reads after_close opened_next refl 16 1 (refl, refl)
    (one_closes after_close opened_next refl 12 1 (refl, refl) (one_closes after_close opened_next refl 8 0 (refl, refl) (stored after_close opened_next refl)))

pub after_close_errs : Errs (with_calls after_close opened_next refl) (made_in 0)
after_close_errs = one_errs after_close opened_next refl 20 read_last

pub after_close_ends : EndsIn (with_calls after_close opened_next refl) (made_in 0) (2 ∷ [])
after_close_ends = one_ends after_close opened_next refl 20 2 refl read_last

-- ---- a read, and then a close

abbrev pub then_close : List ℕ
then_close = call_read ∷ call_close ∷ []

pub then_close_ends : EndsIn (with_calls then_close opened_next refl) (made_in 0) (1 ∷ [])
then_close_ends =
    one_ends then_close opened_next refl 16 1 refl (one_closes then_close opened_next refl 12 0 (refl, refl) (one_reads then_close opened_next refl 8 0 (refl, refl) (stored then_close opened_next refl)))

-- ---- main gets two objects of make: the first of them may stand in an array

module _ (between : List ℕ) (fits : body_fits (next_code between) ≡ true) where
  abbrev with_next : Subject
  with_next = x (next_code between) opened_next fits

  abbrev of_make : ℕ → Object
  of_make state = object (next_code between) opened_next fits 4 state

  abbrev with_objects : List Object → World
  with_objects objects = world (next_code between) opened_next fits objects

  abbrev next_at : ℕ → ℕ → World → State
  next_at offset place w = on (next_code between) opened_next fits offset place w

  -- main stands at a call of make
  abbrev Makes : ℕ → Type 0
  Makes offset = (instruction_at (next_code between).bytes offset ≡ Ok (static_call 21)) × (instruction_at (next_code between).bytes (offset + 3) ≡ Ok store_this)

  first_made : Makes 0 → Arrives with_next (next_at 4 4 (with_objects (of_make 0 ∷ [])))
  first_made here = makes_next (next_code between) opened_next fits 0 primitive_value (with_objects []) here.0 here.1 refl (begun (next_code between) opened_next fits)

  -- the object is read and closed, and the next one is made and read
  module _ (others : List Object) (start : ℕ) (is_read : Calls (next_code between) opened_next fits call_read start) (is_close : Calls (next_code between) opened_next fits call_close (start + 4))
      (is_make : Makes (start + 4 + 4)) (is_next : Calls (next_code between) opened_next fits call_read (start + 4 + 4 + 4))
      (is_return : instruction_at (next_code between).bytes (start + 4 + 4 + 4 + 4) ≡ Ok the_return) where
    abbrev closed : World
    closed = with_objects (of_make 1 ∷ others)

    abbrev next_place : ℕ
    next_place = length closed.heap

    abbrev last_world : World
    last_world = with_automaton (with_object closed (of_make 0)) next_place (of_make 0) 0

    next_ends : slice_get (with_object closed (of_make 0)).heap next_place ≡ Some (of_make 0) → Contains last_world.heap (of_make 1) → Contains last_world.heap (of_make 0)
        → Arrives with_next (next_at start 4 (with_objects (of_make 0 ∷ others))) → EndsIn with_next (made_in 4) (1 ∷ 0 ∷ [])
    next_ends held lives next_lives a =
        let read = reads (next_code between) opened_next fits (with_objects (of_make 0 ∷ others)) 4 4 0 refl start is_read a in
        let close = closes (next_code between) opened_next fits (with_objects (of_make 0 ∷ others)) 4 4 0 refl (start + 4) is_close read in
        let next = makes_next (next_code between) opened_next fits (start + 4 + 4) (reference_to 4) closed is_make.0 is_make.1 held close in
        let end = reads (next_code between) opened_next fits (with_object closed (of_make 0)) next_place 4 0 held (start + 4 + 4 + 4) is_next next in
        ends_in (next_code between) opened_next fits last_world (made_in 4) (1 ∷ 0 ∷ [])
        (two_in last_world (made_in 4) 1 0 (has_one (next_code between) opened_next fits last_world 4 1 lives) (has_one (next_code between) opened_next fits last_world 4 0 next_lives))
        (ends_there (next_code between) opened_next fits (start + 4 + 4 + 4 + 4) (reference_to next_place) last_world is_return end)

pub next_object_ends : EndsIn (with_next [] refl) (made_in 4) (1 ∷ 0 ∷ [])
next_object_ends = next_ends [] refl [] 4 (refl, refl) (refl, refl) (refl, refl) (refl, refl) refl refl (4, omega arith, refl) (5, omega arith, refl) (first_made [] refl (refl, refl))

-- the array, with this element
abbrev array_with : Value → Object
array_with v = new_array (site_at New (frame_at 0 5 (reference_to 4 ∷ primitive_value ∷ [])) (codes "[LF;")) (v ∷ []) 0

abbrev in_array : Value → World
in_array v = with_objects put_into_array refl (of_make put_into_array refl 0 ∷ array_with v ∷ [])

abbrev array_at : ℕ → List Value → World → State
array_at offset slots w = main_at (next_code put_into_array) opened_next refl offset slots w

array_made : Arrives (with_next put_into_array refl) (array_at 8 (reference_to 4 ∷ reference_to 5 ∷ []) (in_array null_value))
array_made =
    let k = main_of (next_code put_into_array) opened_next refl in
    let before = with_objects put_into_array refl (of_make put_into_array refl 0 ∷ []) in
    let one = plainly (with_next put_into_array refl) 0 k outside 1 4 (reference_to 4 ∷ []) before _ refl (first_made put_into_array refl (refl, refl)) in
    let step = advance (with_next put_into_array refl) 0 k outside 5 (reference_to 4 ∷ primitive_value ∷ []) before _ refl _
    refl refl (reference_to 5) (in_array null_value) _ (codes "[LF;" ∷ [], of_references refl (record { class = _; named = refl }) refl, makes_array _ _ 1 _) refl in
    goes _ _ _ one (advances step.at step.step)

stored_in_array : Arrives (with_next put_into_array refl) (array_at 11 (reference_to 4 ∷ []) (in_array (reference_to 4)))
stored_in_array =
    let k = main_of (next_code put_into_array) opened_next refl in
    let ready = plainly (with_next put_into_array refl) 0 k outside 2 8 (reference_to 4 ∷ reference_to 5 ∷ []) (in_array null_value) _ refl array_made in
    let step = advance (with_next put_into_array refl) 0 k outside 10 (reference_to 4 ∷ reference_to 5 ∷ primitive_value ∷ reference_to 4 ∷ []) (in_array null_value) _ refl _
    refl refl primitive_value (in_array (reference_to 4)) _
    (record { of = is_array _ 5 (array_with null_value) (null_value ∷ []) refl refl; suits = fitting (codes "F") refl (of_home (next_code put_into_array) opened_next refl (in_array null_value) 4 4 0 refl); index = 0; inside = omega arith; is = refl }, refl) refl in
    goes _ _ _ ready (advances step.at step.step)

pub in_array_ends : EndsIn (with_next put_into_array refl) (made_in 4) (1 ∷ 0 ∷ [])
in_array_ends =
    next_ends put_into_array refl (array_with (reference_to 4) ∷ []) 11 (refl, refl) (refl, refl) (refl, refl) (refl, refl) refl refl (4, omega arith, refl) (6, omega arith, refl) stored_in_array
