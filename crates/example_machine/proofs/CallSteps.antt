-- Steps of calls and returns, from what is found at the call.
use Rattle.std.proofs.Common.{◌≡◌, ℕ, ◌+◌, Bool, true, false, List, [], ◌∷◌, ◌++◌, length, Some, None, Ok, slice_get, refl, sym, ◌∙◌, true≢false}
use Rattle.std.proofs.lemmas.Option.{none-some}
use Rattle.jvm_model.specs.declared.stub.StubResult.{StubResult}
use Rattle.jvm_model.specs.declared.site.SiteKind.TheVariants.{Thrown}
use Rattle.jvm_model.specs.Instructions.{DecodedInstruction, instruction_at, IsRowAt, HasDescriptorUnits}
use Rattle.jvm_model.specs.Lookups.{Signature}
use Rattle.jvm_model.specs.Table.{Row, UnitKind, is_selecting, leave_method}
use Rattle.machine_bytecode.specs.Described.{DescribedMethod, Gives, kept_by}
use Rattle.machine_bytecode.specs.Events.{event_for, HasEvents, unmoved}
use Rattle.machine_bytecode.specs.Machine.{MethodCode, NamesMethod, IsTarget, Calls, entered, effect, of_code, of_start}
use Rattle.machine_bytecode.specs.Start.{start_frame}
use Rattle.machine_bytecode.specs.Objects.{Subject}
use Rattle.machine_bytecode.specs.States.{Value, Frame, World, runs_on, throws_on, waiting, with_object, new_object, site_at, moved_to}
use Rattle.example_machine.specs.Taking.{Entering, GettingResult, GettingException, Returning}
use Rattle.example_machine.proofs.Runs.{frame_at, stands_at, runs_at, operands_fit, kept_of, units_of, has_operands, on}

-- ---- no event

-- a call that does not select, and one that no event is named like
pub not_selecting : (x : Subject) (selects : Bool) (s : Signature) (units : List Value) (w : World) → selects ≡ false → HasEvents x selects s units w w
not_selecting x selects s units w it = unmoved (λ e. true≢false (sym e.selecting ∙ it)) refl

pub not_named : (x : Subject) (selects : Bool) (s : Signature) (units : List Value) (w : World) → event_for x.property s ≡ None → HasEvents x selects s units w w
not_named x selects s units w it = unmoved (λ e. none-some e.event (sym it ∙ e.named)) refl

-- ---- calls

-- what is found at a call in code: the target, and the world after the events
pub record Found (x : Subject) (number : ℕ) (c : MethodCode x.program number) (i : DecodedInstruction) (r : Row) (slots : List Value) (w : World) (after : World) : Type 0 where
  pub is_there : operands_fit r slots ≡ true
  pub names : NamesMethod x.program c.file.pool i.operand
  pub target : ℕ
  pub is_target : IsTarget r.action x.program c.method.class c.file.pool i.operand names w (units_of r slots) target
  pub events : HasEvents x (is_selecting r.action) names.called.signature (units_of r slots) w after

module _ (x : Subject) (number : ℕ) (c : MethodCode x.program number) (below : List Frame) (offset : ℕ) (slots : List Value) (w : World) where
  abbrev pub call_here : (i : DecodedInstruction) (is : instruction_at c.body.bytes offset ≡ Ok i) (r : Row) (of_row : IsRowAt c.file.pool i r) (after : World) → Found x number c i r slots w after
      → Calls x (on x number c below offset slots w) (runs_at x.program (frame_at number offset slots) below w (stands_at x.program number c offset slots false i is r of_row))
  call_here i is r of_row after f = record {
    names = f.names;
    kept = kept_of r slots;
    units = units_of r slots;
    operands = has_operands r slots f.is_there;
    target = f.target;
    is_target = f.is_target;
    world = after;
    events = f.events;
  }

  -- the target has code
  pub enter : (i : DecodedInstruction) (is : instruction_at c.body.bytes offset ≡ Ok i) (r : Row) (of_row : IsRowAt c.file.pool i r) (after : World) (f : Found x number c i r slots w after)
      → (callee : MethodCode x.program f.target)
      → Entering x r.mnemonic callee.method.class callee.method.signature.name (on x number c below offset slots w)
      (runs_on (entered f.target callee.body (units_of r slots) ∷ waiting (frame_at number offset slots) (kept_of r slots) ∷ below) after)
  enter i is r of_row after f callee = record {
    at = runs_at x.program (frame_at number offset slots) below w (stands_at x.program number c offset slots false i is r of_row);
    named = refl;
    step = record { call = call_here i is r of_row after f; enters = record { code = callee; after = refl } };
    target = callee.method;
    stands = callee.stands;
    of_class = refl;
    of_name = refl;
  }

  -- it is described, and gives the result at a place of its list
  pub get : (i : DecodedInstruction) (is : instruction_at c.body.bytes offset ≡ Ok i) (r : Row) (of_row : IsRowAt c.file.pool i r) (after : World) (f : Found x number c i r slots w after)
      → (called : DescribedMethod x f.target) (place : ℕ) (result : StubResult) → slice_get called.stub.returns place ≡ Some result
      → (made : Value) (last : World) → Gives x f.target called (frame_at number offset slots) (units_of r slots) result (kept_by x f.target called (units_of r slots) after) made last
      → GettingResult x r.mnemonic called.method.class called.method.signature.name (on x number c below offset slots w)
      (on x number c below (offset + i.size) (effect r i.operand made (kept_of r slots) (units_of r slots)) last)
  get i is r of_row after f called place result listed made last gives = record {
    at = runs_at x.program (frame_at number offset slots) below w (stands_at x.program number c offset slots false i is r of_row);
    named = refl;
    step = record { call = call_here i is r of_row after f; made = made; world = last; gives = record { called = called; place = place; result = result; listed = listed; gives = gives }; after = refl };
    target = called.method;
    stands = called.stands;
    of_class = refl;
    of_name = refl;
  }

  -- it throws a new object of the class at a place of its list
  abbrev pub thrown_in : World → List ℕ → World
  thrown_in last class = with_object last (new_object x.program (site_at Thrown (frame_at number offset slots) class) x.property.initial)

  pub get_thrown : (i : DecodedInstruction) (is : instruction_at c.body.bytes offset ≡ Ok i) (r : Row) (of_row : IsRowAt c.file.pool i r) (after : World) (f : Found x number c i r slots w after)
      → (called : DescribedMethod x f.target) (place : ℕ) (class : List ℕ) → slice_get called.stub.throws place ≡ Some class
      → GettingException x r.mnemonic called.method.class called.method.signature.name (on x number c below offset slots w)
      (throws_on (frame_at number offset slots ∷ below) (thrown_in (kept_by x f.target called (units_of r slots) after) class) (length (kept_by x f.target called (units_of r slots) after).heap))
  get_thrown i is r of_row after f called place class listed = record {
    at = runs_at x.program (frame_at number offset slots) below w (stands_at x.program number c offset slots false i is r of_row);
    named = refl;
    step = record {
      call = call_here i is r of_row after f;
      thrown = length (kept_by x f.target called (units_of r slots) after).heap;
      world = thrown_in (kept_by x f.target called (units_of r slots) after) class;
      throws = record { called = called; place = place; class = class; listed = listed; makes = record { made_is = refl; after_is = refl } };
      after = refl;
    };
    target = called.method;
    stands = called.stands;
    of_class = refl;
    of_name = refl;
  }

-- ---- returns

-- a frame that waits
abbrev pub waiting_at : ℕ → ℕ → List Value → Frame
waiting_at number offset slots = record { method = Some number; offset = offset; slots = slots; waits = true }

module _ (x : Subject) (number : ℕ) (c : MethodCode x.program number) (caller : ℕ) (k : MethodCode x.program caller) (rest : List Frame) where
  pub give_back : (offset : ℕ) (slots : List Value) (w : World) (i : DecodedInstruction) → instruction_at c.body.bytes offset ≡ Ok i → (r : Row) → IsRowAt c.file.pool i r → r.action ≡ leave_method → operands_fit r slots ≡ true
      → (parameters : List UnitKind) → HasDescriptorUnits c.method.signature.descriptor parameters r.pops
      → (at : ℕ) (kept : List Value) (j : DecodedInstruction) → instruction_at k.body.bytes at ≡ Ok j → (q : Row) → IsRowAt k.file.pool j q
      → Returning x r.mnemonic (on x number c (waiting_at caller at kept ∷ rest) offset slots w) (on x caller k rest (at + j.size) (kept ++ units_of r slots) w)
  give_back offset slots w i is r of_row leaves fits parameters results at kept j j_is q q_row = record {
    at = runs_at x.program (frame_at number offset slots) (waiting_at caller at kept ∷ rest) w (stands_at x.program number c offset slots false i is r of_row);
    named = refl;
    step = record {
      leaves = record { action = leaves; kept = kept_of r slots; units = units_of r slots; operands = has_operands r slots fits; parameters = parameters; results = results };
      caller = waiting_at caller at kept;
      rest = rest;
      below = refl;
      called = refl;
      next = at + j.size;
      goes = of_code (stands_at x.program caller k at kept true j j_is q q_row) refl;
      after = refl;
    };
  }

-- the entry returns to the start
module _ (x : Subject) (number : ℕ) (c : MethodCode x.program number) where
  pub give_to_start : (offset : ℕ) (slots : List Value) (w : World) (i : DecodedInstruction) → instruction_at c.body.bytes offset ≡ Ok i → (r : Row) → IsRowAt c.file.pool i r → r.action ≡ leave_method → operands_fit r slots ≡ true
      → (parameters : List UnitKind) → HasDescriptorUnits c.method.signature.descriptor parameters r.pops
      → Returning x r.mnemonic (on x number c (waiting start_frame [] ∷ []) offset slots w) (runs_on (moved_to (waiting start_frame []) 1 (units_of r slots) ∷ []) w)
  give_to_start offset slots w i is r of_row leaves fits parameters results = record {
    at = runs_at x.program (frame_at number offset slots) (waiting start_frame [] ∷ []) w (stands_at x.program number c offset slots false i is r of_row);
    named = refl;
    step = record {
      leaves = record { action = leaves; kept = kept_of r slots; units = units_of r slots; operands = has_operands r slots fits; parameters = parameters; results = results };
      caller = waiting start_frame [];
      rest = [];
      below = refl;
      called = refl;
      next = 1;
      goes = of_start refl refl;
      after = refl;
    };
  }
