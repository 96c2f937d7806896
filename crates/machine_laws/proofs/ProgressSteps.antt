-- The steps that most instructions have: onward with what they make, and to an exception that they raise.
use Rattle.std.proofs.Common.{◌≡◌, inl, ℕ, ◌+◌, Bool, true, false, List, [], ◌∷◌, length, Option, Some, refl, sym, subst, arith}
use Rattle.std.specs.List.{Contains, slice_get}
use Rattle.std.specs.Prelude.{nat_eq}
use Rattle.jvm_model.specs.declared.site.SiteKind.TheVariants.{Thrown}
use Rattle.jvm_model.specs.Table.{Flow, onward, jump, branch, branch_if_null, branch_if_object, branch_if_same, branch_if_other, leave, subroutine, Action, plain, Raise}
use Rattle.machine_bytecode.specs.Machine.{At, Advances, HasOperands, Makes, Compares, Goes, is_null, effect, exception_class, IsOpen, ThrowsNew, advances, raises}
use Rattle.machine_bytecode.specs.Objects.{Subject}
use Rattle.machine_bytecode.specs.States.{Value, primitive_value, null_value, reference_to, Frame, World, State, slot_at, runs_on, throws_on, moved_to, with_object, new_object, site_at}
use Rattle.machine_laws.specs.Progress.{GoesOn, GoesOnward, HasTarget, HasWay}
use Rattle.machine_laws.proofs.ProgressRows.{goes_onward, lists, flows_onward, raises_it}

-- the newest frame stands at an instruction, with its operands
pub record HasUnits (x : Subject) (s : State) : Type 0 where
  pub at : At x.program s
  pub kept : List Value
  pub units : List Value
  pub operands : HasOperands at.now.row at.frame.slots kept units

-- ---- onward

abbrev after_it : (x : Subject) (s : State) (h : HasUnits x s) (made : Value) (w : World) (next : ℕ) → State
after_it x s h made w next = runs_on (moved_to h.at.frame next (effect h.at.now.row h.at.now.instruction.operand made h.kept h.units) ∷ h.at.below) w

abbrev advances_to : (x : Subject) (s : State) (h : HasUnits x s) (a : Action) → h.at.now.row.action ≡ a → (made : Value) (w : World)
    → Makes a x h.at.frame h.at.now.here.code.file.pool h.at.now.instruction h.units s.world made w
    → (next : ℕ) → Goes h.at.now.row.flow s.world (h.at.frame.offset + h.at.now.instruction.size) h.at.now.instruction.targets h.units next → Advances x s (after_it x s h made w next) h.at
advances_to x s h a is made w makes next goes = record {
  kept = h.kept;
  units = h.units;
  made = made;
  world = w;
  next = next;
  operands = h.operands;
  makes = subst (λ (b : Action). Makes b x h.at.frame h.at.now.here.code.file.pool h.at.now.instruction h.units s.world made w) (sym is) makes;
  goes = goes;
  after = refl;
}

pub goes_onward_with : (x : Subject) (s : State) (h : HasUnits x s) (a : Action) → h.at.now.row.action ≡ a → goes_onward a ≡ true → (made : Value) (w : World)
    → Makes a x h.at.frame h.at.now.here.code.file.pool h.at.now.instruction h.units s.world made w → GoesOnward x s h.at made w
goes_onward_with x s h a is onwards made w makes =
    let after : ℕ = h.at.frame.offset + h.at.now.instruction.size in
    let flow = flows_onward x.program h.at.frame h.at.now a is onwards in
    let goes : Goes h.at.now.row.flow s.world after h.at.now.instruction.targets h.units after = subst (λ (f : Flow). Goes f s.world after h.at.now.instruction.targets h.units after) (sym flow) refl in
    record { next = after_it x s h made w after; step = advances_to x s h a is made w makes after goes; made_is = refl; world_is = refl; next_is = refl }

pub moves_onward : (x : Subject) (s : State) (h : HasUnits x s) (a : Action) → h.at.now.row.action ≡ a → goes_onward a ≡ true → (made : Value) (w : World)
    → Makes a x h.at.frame h.at.now.here.code.file.pool h.at.now.instruction h.units s.world made w → GoesOn x s
moves_onward x s h a is onwards made w makes =
    let g = goes_onward_with x s h a is onwards made w makes in
    record { next = g.next; step = advances h.at g.step }

-- where a flow with a way leads
record Leads (f : Flow) (w : World) (after : ℕ) (targets : List (Option ℕ)) (units : List Value) : Type 0 where
  pub next : ℕ
  pub goes : Goes f w after targets units next

first_of : (targets : List (Option ℕ)) (target : ℕ) → slice_get targets 0 ≡ Some (Some target) → Contains targets (Some target)
first_of [] target e = absurd cc
first_of (t ∷ targets) target e = let same : t ≡ Some target = cc in (0, omega arith, same)

to_target : (targets : List (Option ℕ)) (h : HasTarget targets) → Contains targets (Some h.0)
to_target targets h = first_of targets h.0 h.1

-- what two references may always compare as: by their places
abbrev compared : Value → Value → Bool
compared primitive_value v = false
compared null_value v = is_null v
compared (reference_to place) primitive_value = false
compared (reference_to place) null_value = false
compared (reference_to place) (reference_to other) = nat_eq place other

compares : (w : World) (u v : Value) → Compares w u v (compared u v)
compares w primitive_value v = refl
compares w null_value v = refl
compares w (reference_to place) primitive_value = refl
compares w (reference_to place) null_value = refl
compares w (reference_to place) (reference_to other) = λ made. refl

leads : (f : Flow) (w : World) (after : ℕ) (targets : List (Option ℕ)) (units : List Value) → HasWay f targets → Leads f w after targets units
leads onward w after targets units way = record { next = after; goes = refl }
leads jump w after targets units way = record { next = way.0; goes = to_target targets way }
leads branch w after targets units way = record { next = after; goes = inl refl }
leads branch_if_null w after targets units way = by (is_null (slot_at units 0)) refl where
  by : (b : Bool) → is_null (slot_at units 0) ≡ b → Leads branch_if_null w after targets units
  by true e = record { next = way.0; goes = rw e (to_target targets way) }
  by false e = record { next = after; goes = rw e refl }
leads branch_if_object w after targets units way = by (is_null (slot_at units 0)) refl where
  by : (b : Bool) → is_null (slot_at units 0) ≡ b → Leads branch_if_object w after targets units
  by true e = record { next = after; goes = rw e refl }
  by false e = record { next = way.0; goes = rw e (to_target targets way) }
leads branch_if_same w after targets units way = by (compared (slot_at units 0) (slot_at units 1)) (compares w (slot_at units 0) (slot_at units 1)) where
  by : (same : Bool) → Compares w (slot_at units 0) (slot_at units 1) same → Leads branch_if_same w after targets units
  by true is = record { next = way.0; goes = (true, is, to_target targets way) }
  by false is = record { next = after; goes = (false, is, refl) }
leads branch_if_other w after targets units way = by (compared (slot_at units 0) (slot_at units 1)) (compares w (slot_at units 0) (slot_at units 1)) where
  by : (same : Bool) → Compares w (slot_at units 0) (slot_at units 1) same → Leads branch_if_other w after targets units
  by true is = record { next = after; goes = (true, is, refl) }
  by false is = record { next = way.0; goes = (false, is, to_target targets way) }
leads leave w after targets units way = absurd way
leads subroutine w after targets units way = absurd way

pub moves_plainly : (x : Subject) (s : State) (h : HasUnits x s) → h.at.now.row.action ≡ plain → HasWay h.at.now.row.flow h.at.now.instruction.targets → GoesOn x s
moves_plainly x s h is way =
    let l = leads h.at.now.row.flow s.world (h.at.frame.offset + h.at.now.instruction.size) h.at.now.instruction.targets h.units way in
    record { next = after_it x s h primitive_value s.world l.next; step = advances h.at (advances_to x s h plain is primitive_value s.world (refl, refl) l.next l.goes) }

-- ---- to an exception

-- the state in which a frame throws a new object of a class
abbrev pub thrown_by : Subject → World → Frame → List Frame → List ℕ → State
thrown_by x w f below class = throws_on (f ∷ below) (with_object w (new_object x.program (site_at Thrown f class) x.property.initial)) (length w.heap)

pub throws_new : (x : Subject) (w : World) (f : Frame) (below : List Frame) (class : List ℕ) → ThrowsNew x w f below class (thrown_by x w f below class)
throws_new x w f below class = record { thrown = length w.heap; world = _; makes = record { made_is = refl; after_is = refl }; after = refl }

pub raises_it_here : (x : Subject) (s : State) (h : HasUnits x s) (k : Raise) (a : Action) → h.at.now.row.action ≡ a → lists k a ≡ true
    → IsOpen k x a h.at.now.here.code.file.pool h.at.now.instruction.operand s.world h.units → GoesOn x s
raises_it_here x s h k a is listed is_open = record {
  next = thrown_by x s.world h.at.frame h.at.below (exception_class k);
  step = raises h.at (record {
    raise = k;
    listed = raises_it x.program h.at.frame h.at.now k a is listed;
    kept = h.kept;
    units = h.units;
    operands = h.operands;
    open_ = subst (λ (b : Action). IsOpen k x b h.at.now.here.code.file.pool h.at.now.instruction.operand s.world h.units) (sym is) is_open;
    throws = throws_new x s.world h.at.frame h.at.below (exception_class k);
  });
}
