-- The steps of a call, and of the return from it: into a method that is given as nodes, and what a described method gives or
-- throws.
use Rattle.std.proofs.Common.{◌≡◌, ◌⊎◌, inl, inr, ℕ, true, false, List, [], ◌∷◌, length, Option, Some, None, refl}
use Rattle.std.specs.List.{slice_get, Contains}
use Rattle.jvm_model.specs.declared.site.SiteKind.TheVariants.{Thrown}
use Rattle.jvm_model.specs.declared.stub.StubResult.{StubResult}
use Rattle.op_model.specs.declared.op.Call.{Call as NodeCall}
use Rattle.op_model.specs.declared.op.Op.TheVariants.{Call, Return}
use Rattle.op_model.specs.Supplies.{Given}
use Rattle.machine_bytecode.specs.Described.{DescribedMethod, kept_by}
use Rattle.machine_bytecode.specs.Objects.{Subject}
use Rattle.machine_bytecode.specs.States.{Value, primitive_value, Frame, World, State, runs_on, throws_on, ends_with, moved_to, waiting, with_object, new_object, site_at}
use Rattle.machine_nodes.specs.Nodes.{StandsAt}
use Rattle.machine_nodes.specs.NodeSteps.{AtNode, Calls, Resumes, Ends, is_selecting_kind, enters, gets_result, gets_exception}
use Rattle.machine_nodes.specs.Slots.{argument_values, argument_slots, returned_value}
use Rattle.machine_laws.specs.Progress.{CanGive, HasOutcome, by_result, by_exception}
use Rattle.machine_laws.proofs.ProgressCalls.{SomeGiven, gives}
use Rattle.machine_laws.proofs.ProgressDecided.{DecidesSubtypes, AfterEvents, after_events}
use Rattle.machine_laws.specs.NodeProgress.{GoesOn, HasSuccessor, IsGiven, HasCallTarget, InMethod, IsCallable, GoesInto, Answers, Fails, ReturnsTo}
use Rattle.machine_laws.proofs.Slots.{some_left}

-- the newest frame stands at a call with a target
pub record HasCall (x : Subject) (given : Given) (s : State) : Type 0 where
  pub at : AtNode x given s
  pub number : ℕ
  pub in_method : at.frame.method ≡ Some number
  pub call : NodeCall
  pub is_call : at.now.node.op ≡ Call call
  pub to : HasCallTarget x s.world call (argument_values call.arguments at.frame.slots)

abbrev units_of : (x : Subject) (given : Given) (s : State) → HasCall x given s → List Value
units_of x given s h = argument_values h.call.arguments h.at.frame.slots

abbrev After : (x : Subject) (given : Given) (s : State) → HasCall x given s → Type 0
After x given s h = AfterEvents x (is_selecting_kind h.call.kind) (record { name = h.call.name; descriptor = h.call.descriptor }) (units_of x given s h) s.world

abbrev calls_by : (x : Subject) (given : Given) (s : State) (h : HasCall x given s) → After x given s h → Calls x given s h.at
calls_by x given s h e = record {
  number = h.number;
  in_method = h.in_method;
  call = h.call;
  is_call = h.is_call;
  resolved = h.to.resolved;
  stands = h.to.stands;
  target = h.to.target;
  is_target = h.to.is_target;
  world = e.world;
  events = e.events;
}

after_it : (x : Subject) → DecidesSubtypes x.program → (given : Given) (s : State) (h : HasCall x given s) → After x given s h
after_it x decides given s h = after_events x decides (is_selecting_kind h.call.kind) (record { name = h.call.name; descriptor = h.call.descriptor }) (units_of x given s h) s.world

pub enters_target : (x : Subject) → DecidesSubtypes x.program → (given : Given) (s : State) (h : HasCall x given s) → IsGiven given h.to.target → GoesInto x given s h.at h.to.target
enters_target x decides given s h m =
    let e = after_it x decides given s h in
    let l = some_left (argument_slots h.call.arguments) None primitive_value h.at.frame.slots in
    record {
      next = runs_on (record { method = Some h.to.target; offset = 0; slots = units_of x given s h; waits = false } ∷ waiting h.at.frame l.slots ∷ h.at.below) e.world;
      step = record {
        calls = calls_by x given s h e;
        left = l.slots;
        are_left = l.are_left;
        enters = record { method = m.0; is_given = m.1; slots = units_of x given s h; arguments = λ z. refl; after = refl };
      };
      target_is = refl;
    }

answers_by : (x : Subject) (given : Given) (s : State) (h : HasCall x given s) (e : After x given s h) (d : DescribedMethod x h.to.target) (place : ℕ) (r : StubResult)
    → slice_get d.stub.returns place ≡ Some r → SomeGiven x h.to.target d h.at.frame (units_of x given s h) r (kept_by x h.to.target d (units_of x given s h) e.world)
    → (successor : ℕ) → Contains h.at.now.node.successors successor → Answers x given s h.at h.to.target place successor
answers_by x given s h e d place r listed g successor goes =
    let l = some_left (argument_slots h.call.arguments) h.call.result g.made h.at.frame.slots in
    record {
      next = runs_on (moved_to h.at.frame successor l.slots ∷ h.at.below) g.world;
      step = record {
        calls = calls_by x given s h e;
        value = g.made;
        world = g.world;
        gives = record { called = d; place = place; result = r; listed = listed; gives = g.gives };
        left = l.slots;
        are_left = l.are_left;
        next = successor;
        goes = goes;
        after = refl;
      };
      target_is = refl;
      place_is = refl;
      next_is = refl;
    }

pub answers : (x : Subject) → DecidesSubtypes x.program → (given : Given) (s : State) (h : HasCall x given s) (d : DescribedMethod x h.to.target) (place : ℕ) (r : StubResult)
    → slice_get d.stub.returns place ≡ Some r → CanGive x h.to.target d (units_of x given s h) s.world r
    → (successor : ℕ) → Contains h.at.now.node.successors successor → Answers x given s h.at h.to.target place successor
answers x decides given s h d place r listed can =
    let e = after_it x decides given s h in
    answers_by x given s h e d place r listed (gives x h.to.target d h.at.frame (units_of x given s h) r s.world e.world e.alike can)

pub fails : (x : Subject) → DecidesSubtypes x.program → (given : Given) (s : State) (h : HasCall x given s) (d : DescribedMethod x h.to.target) (place : ℕ) (class : List ℕ)
    → slice_get d.stub.throws place ≡ Some class → Fails x given s h.at h.to.target place
fails x decides given s h d place class listed =
    let e = after_it x decides given s h in
    let w : World = kept_by x h.to.target d (units_of x given s h) e.world in
    let after : World = with_object w (new_object x.program (site_at Thrown h.at.frame class) x.property.initial) in
    record {
      next = throws_on (h.at.frame ∷ h.at.below) after (length w.heap);
      step = record {
        calls = calls_by x given s h e;
        thrown = length w.heap;
        world = after;
        throws = record { called = d; place = place; class = class; listed = listed; makes = record { made_is = refl; after_is = refl } };
        after = refl;
      };
      target_is = refl;
      place_is = refl;
    }

by_outcome : (x : Subject) → DecidesSubtypes x.program → (given : Given) (s : State) (h : HasCall x given s) → HasSuccessor h.at.now.node.successors
    → HasOutcome x h.to.target (units_of x given s h) s.world → GoesOn x given s
by_outcome x decides given s h next (by_result d place r listed can) =
    let a = answers x decides given s h d place r listed can next.0 next.1 in
    record { next = a.next; step = gets_result h.at a.step }
by_outcome x decides given s h next (by_exception d place class listed) =
    let f = fails x decides given s h d place class listed in
    record { next = f.next; step = gets_exception h.at f.step }

pub calls : (x : Subject) → DecidesSubtypes x.program → (given : Given) (s : State) (at : AtNode x given s) (call : NodeCall) → at.now.node.op ≡ Call call
    → InMethod at.frame → IsCallable x given s.world call (argument_values call.arguments at.frame.slots) at.now.node.successors → GoesOn x given s
calls x decides given s at call is inside c = by c.callable
  where
    h : HasCall x given s
    h = record { at = at; number = inside.0; in_method = inside.1; call = call; is_call = is; to = c.to }

    by : IsGiven given c.to.target ⊎ (HasOutcome x c.to.target (argument_values call.arguments at.frame.slots) s.world × HasSuccessor at.now.node.successors) → GoesOn x given s
    by (inl m) = let e = enters_target x decides given s h m in record { next = e.next; step = enters at e.step }
    by (inr o) = by_outcome x decides given s h o.1 o.0

-- ---- returns

pub returns_to : (x : Subject) (given : Given) (s : State) (at : AtNode x given s) (value : Option ℕ) → at.now.node.op ≡ Return value
    → (caller : Frame) (rest : List Frame) → at.below ≡ caller ∷ rest → caller.waits ≡ true → (now : StandsAt x given caller) (call : NodeCall) → now.node.op ≡ Call call
    → (successor : ℕ) → Contains now.node.successors successor → ReturnsTo x given s at successor
returns_to x given s at value is caller rest below waits now call is_call successor goes =
    let l = some_left [] call.result (returned_value value at.frame.slots) caller.slots in
    record {
      next = runs_on (moved_to caller successor l.slots ∷ rest) s.world;
      step = record {
        value = value;
        is_return = is;
        caller = caller;
        rest = rest;
        below = below;
        called = waits;
        caller_at = now;
        call = call;
        is_call = is_call;
        left = l.slots;
        are_left = l.are_left;
        next = successor;
        goes = goes;
        after = refl;
      };
      next_is = refl;
    }

pub resumes_it : (x : Subject) (given : Given) (s : State) (at : AtNode x given s) (value : Option ℕ) → at.now.node.op ≡ Return value
    → (caller : Frame) (rest : List Frame) → at.below ≡ caller ∷ rest → caller.waits ≡ false → (t : State) × Resumes x given s t at
resumes_it x given s at value is caller rest below resumed =
    (runs_on (caller ∷ rest) s.world, record { value = value; is_return = is; caller = caller; rest = rest; below = below; triggered = resumed; after = refl })

pub ends_it : (x : Subject) (given : Given) (s : State) (at : AtNode x given s) (value : Option ℕ) → at.now.node.op ≡ Return value → at.frame.method ≡ None
    → (t : State) × Ends x given s t at
ends_it x given s at value is no_method = (ends_with s.world, record { value = value; is_return = is; no_method = no_method; after = refl })
