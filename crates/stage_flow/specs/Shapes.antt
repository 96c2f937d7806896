-- This crate's own proofs alone rest on this module.
-- What the parts of a change, as code, stand for.
use Rattle.std.specs.Prelude.{◌≡◌, ℕ, ◌+◌, nat_eq, nat_le, nat_lt, Bool, true, false, not, ◌&&◌, ◌||◌, List, [], ◌∷◌, ◌++◌, map, flat_map, Option, Some, None, Contains, if◌then◌else◌}
use Rattle.std.specs.List.{list_any}
use Rattle.jvm_model.specs.declared.number.FieldNo.{FieldNo}
use Rattle.op_model.specs.declared.lowered.LoweredMethod.{LoweredMethod}
use Rattle.op_model.specs.declared.node.Node.{Node}
use Rattle.op_model.specs.declared.op.Move.{Move}
use Rattle.op_model.specs.declared.op.Op.{Op}
use Rattle.op_model.specs.declared.op.Source.{Source}
use Rattle.op_model.specs.declared.op.Source.TheVariants as sources
use Rattle.access_paths.specs.declared.root.Root.{Root}
use Rattle.access_paths.specs.declared.root.Root.TheVariants.{Slot, Static, Returned, Thrown}
use Rattle.access_paths.specs.Paths.{Path, has_path, same_path, same_root}
use Rattle.stage_transfer.specs.Settings.{Setting, among, same_variable}
use Rattle.stage_transfer.specs.Changes.{Change, Copy as CopyOf, begins_at, copied, moved_to, slots_go, unwritten, with_root}
use Rattle.stage_transfer.specs.Operations.{copies_of, every_slot, loaded, loaded_fields, moved_by, target_of}
use Rattle.stage_transfer.specs.Calls.{written_by}
use Rattle.stage_transfer.specs.Exceptions.{catching, thrown_slot, unwinding}
use Rattle.stage_flow.specs.declared.change.PathChange.{PathChange}
use Rattle.stage_flow.specs.declared.gain.Gain.{Gain}
use Rattle.stage_flow.specs.declared.gain.Gain.TheVariants.{Nothing, Copy, Hand, Moves, Load}
use Rattle.stage_flow.specs.declared.written.Written.{Written}
use Rattle.stage_flow.specs.declared.written.Written.TheVariants as slots

-- The slots that are written.
abbrev pub written_of : Written → ℕ → Bool
written_of (slots.One y) = among (y ∷ [])
written_of (slots.Two y z) = among (y ∷ z ∷ [])
written_of (slots.Targets moves) = among (map target_of moves.now)
written_of (slots.ByCall call) = among (written_by call.now)
written_of (slots.From first) = nat_le first
written_of slots.All = every_slot

-- The roots that go.
abbrev pub goes_of : Written → (leaving : Option Root) → Root → Bool
goes_of written None r = slots_go (written_of written) r
goes_of written (Some q) r = slots_go (written_of written) r || same_root q r

-- The copy of what the one root holds to the other.
abbrev pub root_copy : (from to : Root) → CopyOf
root_copy from to = record { from = from; to = to }

-- The paths that are added.
abbrev pub adds_of : Gain → List Path → List Path
adds_of Nothing set = []
adds_of (Copy from to) set = copied (root_copy from to ∷ []) set
adds_of (Hand from target) set = copied (root_copy from (Slot target) ∷ []) set
adds_of (Moves moves) set = copied (flat_map (λ (m : Move). copies_of m.source m.target) moves.now) set
adds_of (Load object field target) set = loaded object field target set

-- The root holds afterwards what the other one held, if that is the root that is asked for, or a slot of its variable.
abbrev pub handed_to : Setting → LoweredMethod → Node → (from to : Root) → Root → List Root
handed_to w l n (Slot y) to r = moved_to w l n y to r
handed_to w l n (Static f) to r = if same_root (Static f) r then to ∷ [] else []
handed_to w l n Returned to r = if same_root Returned r then to ∷ [] else []
handed_to w l n Thrown to r = if same_root Thrown r then to ∷ [] else []

-- The slots that get what a root held.
abbrev pub more_doubles : Setting → LoweredMethod → Node → Gain → Root → List Root
more_doubles w l n Nothing r = []
more_doubles w l n (Copy from to) r = []
more_doubles w l n (Hand from target) r = handed_to w l n from (Slot target) r
more_doubles w l n (Moves moves) r = flat_map (λ (m : Move). moved_by w l n r m.source m.target) moves.now
more_doubles w l n (Load object field target) r = []

-- The change of the definitions.
abbrev pub change_of : Setting → LoweredMethod → Node → PathChange → Change
change_of w l n c = record {
  adds = adds_of c.gain;
  goes = goes_of c.written c.leaving;
  doubles = λ r. unwritten w l n (written_of c.written) r ++ more_doubles w l n c.gain r;
}

-- The roots of the paths that are added.
abbrev pub targets_of : Gain → List Root
targets_of Nothing = []
targets_of (Copy from to) = to ∷ []
targets_of (Hand from target) = Slot target ∷ []
targets_of (Moves moves) = map (λ (m : Move). Slot m.target) moves.now
targets_of (Load object field target) = Slot target ∷ []

-- Each slot that paths are added for is written; and no other slot goes than those that are written.
pub record IsProper (c : PathChange) : Type 0 where
  pub writes : (z : ℕ) → Contains (targets_of c.gain) (Slot z) → written_of c.written z ≡ true
  pub stays : (z : ℕ) → written_of c.written z ≡ false → goes_of c.written c.leaving (Slot z) ≡ false

-- The code's change is this one.
pub record Makes (w : Setting) (l : LoweredMethod) (n : Node) (code : PathChange) (c : Change) : Type 0 where
  pub proper : IsProper code
  pub same : change_of w l n code ≡ c

-- ---- tests

-- The slot has the variable of another one, or is it.
abbrev pub is_like : Setting → LoweredMethod → Node → ℕ → ℕ → Bool
is_like w l n z y =
    if nat_lt z (l.slots + l.stack)
    then nat_lt y (l.slots + l.stack) && same_variable (w.answers.variable_at l n y) (w.answers.variable_at l n z)
    else nat_eq y z

-- The second root is a slot of the first one's variable, and is not written.
abbrev pub may_double : Setting → LoweredMethod → Node → (written : ℕ → Bool) → Root → Root → Bool
may_double w l n written (Slot z) (Slot y) = not (written y) && is_like w l n z y
may_double w l n written (Slot z) (Static f) = false
may_double w l n written (Slot z) Returned = false
may_double w l n written (Slot z) Thrown = false
may_double w l n written (Static f) q = false
may_double w l n written Returned q = false
may_double w l n written Thrown q = false

-- The second path is the first one, by such a slot.
abbrev pub is_double : Setting → LoweredMethod → Node → (written : ℕ → Bool) → Path → Path → Bool
is_double w l n written x p = may_double w l n written x.root p.root && same_path p (with_root p.root x)

-- A path of the one root gives that of the other root.
abbrev pub copied_path : (from to : Root) → Path → List Path
copied_path from to x = if begins_at from x then with_root to x ∷ [] else []

-- A move of a slot copies its paths.
abbrev pub paths_of_source : List Path → Source → (to : ℕ) → List Path
paths_of_source set (sources.Slot y) to = flat_map (copied_path (Slot y) (Slot to)) set
paths_of_source set sources.Null to = []
paths_of_source set sources.Primitive to = []

-- What a move adds.
abbrev pub moved_paths : List Path → Move → List Path
moved_paths set m = paths_of_source set m.source m.target

-- A path of the object gives what is behind the field, if it begins with that.
abbrev pub loaded_path : (object : ℕ) → FieldNo → (target : ℕ) → Path → List Path
loaded_path object field target x = if begins_at (Slot object) x then loaded_fields field target x.fields else []

-- A path whose root does not go stays.
abbrev pub kept_path : PathChange → Path → List Path
kept_path c x = if goes_of c.written c.leaving x.root then [] else x ∷ []

-- The one root is the other, or a slot of its variable.
abbrev pub reaches : Setting → LoweredMethod → Node → (from : Root) → Root → Bool
reaches w l n (Slot y) (Slot z) = is_like w l n z y
reaches w l n (Slot y) (Static f) = false
reaches w l n (Slot y) Returned = false
reaches w l n (Slot y) Thrown = false
reaches w l n (Static f) r = same_root (Static f) r
reaches w l n Returned r = same_root Returned r
reaches w l n Thrown r = same_root Thrown r

-- A move to the target is one of a root for which the set has the path.
abbrev pub brings : List Path → Path → (target : ℕ) → Source → (to : ℕ) → Bool
brings set x target (sources.Slot y) to = nat_eq target to && has_path set (with_root (Slot y) x)
brings set x target sources.Null to = false
brings set x target sources.Primitive to = false

-- The move is one of a slot that reaches the path's root, and the path gets to its target.
abbrev pub moves_on : Setting → LoweredMethod → Node → List Move → List Path → Path → Source → (to : ℕ) → Bool
moves_on w l n moves set x (sources.Slot y) to =
    reaches w l n (Slot y) x.root && list_any (λ (m : Move). brings set x to m.source m.target) moves
moves_on w l n moves set x sources.Null to = false
moves_on w l n moves set x sources.Primitive to = false

-- The path is handed on to a slot.
abbrev pub is_handed : Setting → LoweredMethod → Node → Gain → List Path → Path → Bool
is_handed w l n Nothing set x = false
is_handed w l n (Copy from to) set x = false
is_handed w l n (Hand from target) set x = reaches w l n from x.root && has_path set (with_root from x)
is_handed w l n (Moves moves) set x = list_any (λ (m : Move). moves_on w l n moves.now set x m.source m.target) moves.now
is_handed w l n (Load object field target) set x = false

-- ---- parts of changes

-- The slot, if there is one, gets what the root held.
abbrev pub hand_of : (from : Root) → (target : Option ℕ) → Gain
hand_of from None = Nothing
hand_of from (Some target) = Hand from target

-- The root gets what the slot held, if there is one.
abbrev pub copy_of : (value : Option ℕ) → (to : Root) → Gain
copy_of None to = Nothing
copy_of (Some value) to = Copy (Slot value) to

-- A field is loaded: the target gets the paths behind it.
abbrev pub loading : Setting → LoweredMethod → Node → (object : ℕ) → FieldNo → (target : ℕ) → Change
loading w l n object field target = record {
  adds = loaded object field target;
  goes = slots_go (among (object ∷ target ∷ []));
  doubles = unwritten w l n (among (object ∷ target ∷ []));
}

-- The way into a handler, or out of the method.
abbrev pub leaving_by : Setting → LoweredMethod → Node → Op → (handler : Option ℕ) → Change
leaving_by w l n op None = unwinding (thrown_slot op)
leaving_by w l n op (Some handler) = catching w l n (thrown_slot op)
