-- Steps of initialisation.
use Rattle.std.proofs.Common.{codes, ◌≡◌, ℕ, true, false, List, [], ◌∷◌, length, Contains, Some, Ok, slice_get, refl, arith}
use Rattle.jvm_model.specs.declared.site.SiteKind.TheVariants.{Thrown}
use Rattle.jvm_model.specs.Instructions.{DecodedInstruction, instruction_at, IsRowAt, HasDescriptorUnits}
use Rattle.jvm_model.specs.Table.{Row, UnitKind, is_trigger, leave_method}
use Rattle.machine_bytecode.specs.Machine.{MethodCode, Concerns, IsInitialiser, by_instruction, entered}
use Rattle.machine_bytecode.specs.Objects.{Subject}
use Rattle.machine_bytecode.specs.States.{Value, Object, Frame, World, runs_on, throws_on, site_at, new_object, with_object, with_kept, with_started}
use Rattle.example_machine.specs.Taking.{Starting, Resuming, Wrapping, Denying}
use Rattle.example_machine.proofs.Runs.{frame_at, on, stands_at, runs_at, kept_of, units_of, operands_fit, has_operands}
use Rattle.example_machine.proofs.Throws.{throwing_at, Escapes, escapes}

pub nothing_there : (x : ℕ) → Contains [] x → ⊥
nothing_there x there = omega (arith, there.1)

module _ (x : Subject) (number : ℕ) (c : MethodCode x.program number) (below : List Frame) (offset : ℕ) (slots : List Value) (w : World) where
  -- an initialiser starts at an instruction
  pub start : (i : DecodedInstruction) → instruction_at c.body.bytes offset ≡ Ok i → (r : Row) → IsRowAt c.file.pool i r → is_trigger r.action ≡ true
      → (class : List ℕ) → Concerns x.program c.file.pool i.operand class → (started : ℕ) (initialiser : IsInitialiser x.program class started) → (Contains w.started started → ⊥)
      → Starting x class (on x number c below offset slots w) (runs_on (entered started initialiser.code.body [] ∷ frame_at number offset slots ∷ below) (with_started w started))
  start i is r of_row trigger class concerns started initialiser fresh = record {
    step = record {
      frame = frame_at number offset slots;
      below = below;
      class = class;
      triggered = by_instruction (runs_at x.program (frame_at number offset slots) below w (stands_at x.program number c offset slots false i is r of_row)) refl refl trigger concerns;
      number = started;
      initialiser = initialiser;
      fresh = fresh;
      after = refl;
    };
    of_class = refl;
  }

  -- one that was started denies
  pub deny : (i : DecodedInstruction) → instruction_at c.body.bytes offset ≡ Ok i → (r : Row) → IsRowAt c.file.pool i r → is_trigger r.action ≡ true
      → (class : List ℕ) → Concerns x.program c.file.pool i.operand class → (started : ℕ) → IsInitialiser x.program class started → Contains w.started started
      → Denying x class (on x number c below offset slots w)
      (throws_on (frame_at number offset slots ∷ below) (with_object w (new_object x.program (site_at Thrown (frame_at number offset slots) (codes "java/lang/NoClassDefFoundError")) x.property.initial)) (length w.heap))
  deny i is r of_row trigger class concerns started initialiser there = record {
    step = record {
      frame = frame_at number offset slots;
      below = below;
      class = class;
      triggered = by_instruction (runs_at x.program (frame_at number offset slots) below w (stands_at x.program number c offset slots false i is r of_row)) refl refl trigger concerns;
      number = started;
      initialiser = initialiser;
      started = there;
      throws = record { thrown = length w.heap; world = _; makes = record { made_is = refl; after_is = refl }; after = refl };
    };
    of_class = refl;
  }

module _ (x : Subject) (number : ℕ) (c : MethodCode x.program number) (caller : Frame) (rest : List Frame) (triggered : caller.waits ≡ false) (offset : ℕ) (slots : List Value) (w : World) where
  -- it returns
  pub resume : (i : DecodedInstruction) → instruction_at c.body.bytes offset ≡ Ok i → (r : Row) → IsRowAt c.file.pool i r → r.action ≡ leave_method → operands_fit r slots ≡ true
      → (parameters : List UnitKind) → HasDescriptorUnits c.method.signature.descriptor parameters r.pops
      → Resuming x r.mnemonic (on x number c (caller ∷ rest) offset slots w) (runs_on (caller ∷ rest) w)
  resume i is r of_row leaves fits parameters results = record {
    at = runs_at x.program (frame_at number offset slots) (caller ∷ rest) w (stands_at x.program number c offset slots false i is r of_row);
    named = refl;
    step = record {
      leaves = record { action = leaves; kept = kept_of r slots; units = units_of r slots; operands = has_operands r slots fits; parameters = parameters; results = results };
      caller = caller;
      rest = rest;
      below = refl;
      triggered = triggered;
      after = refl;
    };
  }

  -- what leaves it is wrapped
  pub wrap : (place : ℕ) (o : Object) → slice_get w.heap place ≡ Some o → Escapes x number c (caller ∷ rest) offset o.class
      → Wrapping x place (throws_on (frame_at number offset slots ∷ caller ∷ rest) w place)
      (throws_on (caller ∷ rest) (with_object (with_kept w (place ∷ [])) (new_object x.program (site_at Thrown caller (codes "java/lang/ExceptionInInitializerError")) x.property.initial)) (length w.heap))
  wrap place o held all = record {
    at = throwing_at (frame_at number offset slots) (caller ∷ rest) w place o held;
    thrown = refl;
    step = record {
      uncaught = escapes x number c (caller ∷ rest) offset slots o.class all;
      caller = caller;
      rest = rest;
      below = refl;
      triggered = triggered;
      throws = record { thrown = length w.heap; world = _; makes = record { made_is = refl; after_is = refl }; after = refl };
    };
  }
