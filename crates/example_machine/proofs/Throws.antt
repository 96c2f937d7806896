-- Steps of a machine that throws.
use Rattle.std.proofs.Common.{codes, ◌≡◌, inl, inr, ℕ, true, false, List, [], ◌∷◌, ◌++◌, length, All, Some, Ok, slice_get, refl, sym, ◌∙◌, subst}
use Rattle.std.proofs.lemmas.List.Elements.{All-contains}
use Rattle.std.proofs.lemmas.Option.{same_Some, none-some}
use Rattle.jvm_model.specs.declared.pool.PoolEntry.{PoolEntry}
use Rattle.jvm_model.specs.Instructions.{DecodedInstruction, instruction_at, IsRowAt}
use Rattle.jvm_model.specs.Lookups.{class_name_at}
use Rattle.jvm_model.specs.Programs.{Program}
use Rattle.jvm_model.specs.Subtypes.{Fits}
use Rattle.jvm_model.specs.Table.{Row, throw_object}
use Rattle.jvm_model.specs.declared.code.Handler.{Handler}
use Rattle.machine_bytecode.specs.Machine.{MethodCode, InCode, Throwing, Handles, TakesClass, IsFirstHandler, IsUncaught, of_code, unwound}
use Rattle.machine_bytecode.specs.Objects.{Subject, IsOf}
use Rattle.machine_bytecode.specs.States.{Value, reference_to, Object, Frame, World, throws_on, slot_at}
use Rattle.example_machine.specs.Taking.{Catching, ThrowingObject, Unwinding}
use Rattle.example_machine.proofs.Runs.{frame_at, on, stands_at, runs_at, kept_of, units_of, operands_fit, has_operands}

-- an object at a place is thrown in a frame
abbrev pub throwing_at : (f : Frame) (below : List Frame) (w : World) (place : ℕ) (o : Object) → slice_get w.heap place ≡ Some o → Throwing (throws_on (f ∷ below) w place)
throwing_at f below w place o held = record { frame = f; below = below; place = place; object = o; throws = refl; frames = refl; held = held }

module _ (x : Subject) (number : ℕ) (c : MethodCode x.program number) (below : List Frame) where
  abbrev pub in_code : (offset : ℕ) (slots : List Value) → InCode x.program (frame_at number offset slots)
  in_code offset slots = record { number = number; of_frame = refl; code = c }

  -- a handler catches it
  pub catch : (offset : ℕ) (locals operands : List Value) (w : World) (place : ℕ) (o : Object) → slice_get w.heap place ≡ Some o
      → (h : Handler) → IsFirstHandler x.program c.file.pool offset o.class c.body.handlers h → length locals ≡ c.body.max_locals
      → Catching x place o.class (throws_on (frame_at number offset (locals ++ operands) ∷ below) w place) (on x number c below h.target (locals ++ reference_to place ∷ []) w)
  catch offset locals operands w place o held h first long = record {
    at = throwing_at (frame_at number offset (locals ++ operands)) below w place o held;
    caught = refl;
    of_class = refl;
    step = record { here = in_code offset (locals ++ operands); handler = h; first = first; locals = locals; operands = operands; parts = refl; long = long; after = refl };
  }

  -- athrow
  pub throw : (offset : ℕ) (slots : List Value) (w : World) (i : DecodedInstruction) → instruction_at c.body.bytes offset ≡ Ok i → (r : Row) → IsRowAt c.file.pool i r
      → r.action ≡ throw_object → operands_fit r slots ≡ true → (thrown : IsOf x.program (codes "java/lang/Throwable") w (slot_at (units_of r slots) 0))
      → ThrowingObject x thrown.to.place (on x number c below offset slots w) (throws_on (frame_at number offset slots ∷ below) w thrown.to.place)
  throw offset slots w i is r of_row action fits thrown = record {
    at = runs_at x.program (frame_at number offset slots) below w (stands_at x.program number c offset slots false i is r of_row);
    step = record { action = action; kept = kept_of r slots; units = units_of r slots; operands = has_operands r slots fits; thrown = thrown; after = refl };
    thrown = refl;
  }

  -- no handler catches an object, and the frame goes
  abbrev pub Escapes : ℕ → List ℕ → Type 0
  Escapes offset class = All (λ (h : Handler). Handles x.program c.file.pool offset class h → ⊥) c.body.handlers

  pub escapes : (offset : ℕ) (slots : List Value) (class : List ℕ) → Escapes offset class → IsUncaught x.program (frame_at number offset slots) class
  escapes offset slots class all = of_code (in_code offset slots) (λ h there. All-contains (λ (g : Handler). Handles x.program c.file.pool offset class g → ⊥) c.body.handlers h all there)

  pub unwind : (offset : ℕ) (slots : List Value) (w : World) (place : ℕ) (o : Object) → slice_get w.heap place ≡ Some o → Escapes offset o.class
      → Unwinding x place (throws_on (frame_at number offset slots ∷ below) w place) (unwound below w place)
  unwind offset slots w place o held all = record {
    at = throwing_at (frame_at number offset slots) below w place o held;
    thrown = refl;
    step = record { uncaught = escapes offset slots o.class all; after = refl };
  }

-- a handler of a class that the object does not fit does not take it
pub not_taken : (p : Program) (pool : List PoolEntry) (offset : ℕ) (h : Handler) (name class : List ℕ) → class_name_at pool h.catch_type ≡ Some name → (Fits p name class → ⊥) → Handles p pool offset class h → ⊥
not_taken p pool offset h name class named misfit handles = by handles.takes named misfit where
  by : TakesClass p pool h.catch_type class → class_name_at pool h.catch_type ≡ Some name → (Fits p name class → ⊥) → ⊥
  by (inl all) named misfit = none-some name (subst (λ (index : ℕ). class_name_at pool index ≡ Some name) all named)
  by (inr some) named misfit = misfit (subst (λ (n : List ℕ). Fits p n class) (same_Some some.0 name (sym some.1 ∙ named)) some.2)
