-- The steps of a call: into a method with code, and what a described method gives or throws.
use Rattle.std.proofs.Common.{◌≡◌, inl, inr, ℕ, ◌+◌, List, ◌∷◌, ◌++◌, length, Some, refl, sym, subst}
use Rattle.std.specs.List.{slice_get, Contains}
use Rattle.jvm_model.specs.declared.site.SiteKind.TheVariants.{Result, Thrown}
use Rattle.jvm_model.specs.declared.stub.StubResult.{StubResult}
use Rattle.jvm_model.specs.declared.stub.StubResult.TheVariants.{Primitive, Void, Null, Given, New, Kept}
use Rattle.jvm_model.specs.Subtypes.{Fits}
use Rattle.jvm_model.specs.Table.{is_selecting}
use Rattle.machine_bytecode.specs.Described.{DescribedMethod, IsKept, kept_by, argument_value, Gives}
use Rattle.machine_bytecode.specs.Machine.{MethodCode, Calls, entered, effect, enters, gets_result, gets_exception}
use Rattle.machine_bytecode.specs.Objects.{Subject}
use Rattle.machine_bytecode.specs.States.{Value, primitive_value, null_value, reference_to, Frame, World, State, runs_on, throws_on, moved_to, waiting, with_kept, with_object, new_object, site_at}
use Rattle.machine_laws.specs.Progress.{GoesOn, CanGive, by_result, by_exception, CanBeCalled, IsCallable}
use Rattle.machine_laws.proofs.ProgressDecided.{DecidesSubtypes, IsAlike, after_events}
use Rattle.machine_laws.proofs.ProgressSteps.{HasUnits}

-- ---- what a described method gives

kept_after : (x : Subject) (descriptor : List ℕ) (places : List ℕ) (before after : World) (v : Value) → IsAlike before after
    → IsKept x descriptor (with_kept before places) v → IsKept x descriptor (with_kept after places) v
kept_after x descriptor places before after v alike k =
    let r = k.object.to in
    let later = alike.each r.place r.object r.held in
    record {
      class = k.class;
      of_result = k.of_result;
      object = record {
        to = record { place = r.place; is = r.is; object = later.0; held = later.1 };
        fits = subst (Fits x.program k.class) (sym later.2) k.object.fits;
      };
      kept = subst (λ (ks : List ℕ). Contains (ks ++ places) r.place) (sym alike.kept) k.kept;
    }

pub record SomeGiven (x : Subject) (number : ℕ) (d : DescribedMethod x number) (caller : Frame) (units : List Value) (r : StubResult) (before : World) : Type 0 where
  pub made : Value
  pub world : World
  pub gives : Gives x number d caller units r before made world

pub gives : (x : Subject) (number : ℕ) (d : DescribedMethod x number) (caller : Frame) (units : List Value) (r : StubResult) (before after : World)
    → IsAlike before after → CanGive x number d units before r → SomeGiven x number d caller units r (kept_by x number d units after)
gives x number d caller units Primitive before after alike can = record { made = primitive_value; world = _; gives = (refl, refl) }
gives x number d caller units Void before after alike can = record { made = primitive_value; world = _; gives = (refl, refl) }
gives x number d caller units Null before after alike can = record { made = null_value; world = _; gives = (refl, refl) }
gives x number d caller units (Given argument) before after alike can = record { made = argument_value x number d units argument; world = _; gives = (refl, refl) }
gives x number d caller units (New class) before after alike can =
    let w : World = kept_by x number d units after in
    record {
      made = reference_to (length w.heap);
      world = with_object w (new_object x.program (site_at Result caller class) x.property.initial);
      gives = record { made_is = refl; after_is = refl };
    }
gives x number d caller units Kept before after alike can =
    record { made = can.0; world = _; gives = (kept_after x d.stub.descriptor _ before after can.0 alike can.1, refl) }

-- ---- calls

enters_target : (x : Subject) (s : State) (h : HasUnits x s) (call : Calls x s h.at) → MethodCode x.program call.target → GoesOn x s
enters_target x s h call code = record {
  next = runs_on (entered call.target code.body call.units ∷ waiting h.at.frame call.kept ∷ h.at.below) call.world;
  step = enters h.at (record { call = call; enters = record { code = code; after = refl } });
}

gets_given : (x : Subject) (s : State) (h : HasUnits x s) (call : Calls x s h.at) (d : DescribedMethod x call.target) (place : ℕ) (r : StubResult) → slice_get d.stub.returns place ≡ Some r
    → SomeGiven x call.target d h.at.frame call.units r (kept_by x call.target d call.units call.world) → GoesOn x s
gets_given x s h call d place r listed g = record {
  next = runs_on (moved_to h.at.frame (h.at.frame.offset + h.at.now.instruction.size) (effect h.at.now.row h.at.now.instruction.operand g.made call.kept call.units) ∷ h.at.below) g.world;
  step = gets_result h.at (record { call = call; made = g.made; world = g.world; gives = record { called = d; place = place; result = r; listed = listed; gives = g.gives }; after = refl });
}

gets_thrown : (x : Subject) (s : State) (h : HasUnits x s) (call : Calls x s h.at) (d : DescribedMethod x call.target) (place : ℕ) (class : List ℕ) → slice_get d.stub.throws place ≡ Some class → GoesOn x s
gets_thrown x s h call d place class listed =
    let w : World = kept_by x call.target d call.units call.world in
    let after : World = with_object w (new_object x.program (site_at Thrown h.at.frame class) x.property.initial) in
    record {
      next = throws_on (h.at.frame ∷ h.at.below) after (length w.heap);
      step = gets_exception h.at (record {
        call = call;
        thrown = length w.heap;
        world = after;
        throws = record { called = d; place = place; class = class; listed = listed; makes = record { made_is = refl; after_is = refl } };
        after = refl;
      });
    }

by_target : (x : Subject) (s : State) (h : HasUnits x s) (call : Calls x s h.at) → IsAlike s.world call.world → CanBeCalled x call.target call.units s.world → GoesOn x s
by_target x s h call alike (inl code) = enters_target x s h call code
by_target x s h call alike (inr (by_result d place r listed can)) =
    gets_given x s h call d place r listed (gives x call.target d h.at.frame call.units r s.world call.world alike can)
by_target x s h call alike (inr (by_exception d place class listed)) = gets_thrown x s h call d place class listed

pub calls : (x : Subject) → DecidesSubtypes x.program → (s : State) (h : HasUnits x s) → IsCallable x s h.at h.units → GoesOn x s
calls x decides s h c =
    let e = after_events x decides (is_selecting h.at.now.row.action) c.names.called.signature h.units s.world in
    by_target x s h
    (record { names = c.names; kept = h.kept; units = h.units; operands = h.operands; target = c.target; is_target = c.is_target; world = e.world; events = e.events })
    e.alike c.callable
