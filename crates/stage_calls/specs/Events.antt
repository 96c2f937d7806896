-- This crate's own proofs alone rest on this module.
-- Events by the number of the next state.
use Rattle.std.specs.Prelude.{ℕ, nat_eq, Bool, ◌&&◌, List, [], ◌∷◌, Option, option_map, slice_get, slice_index, if◌then◌else◌}
use Rattle.std.specs.Option.{option_flatten}
use Rattle.std.specs.Str.{bytes_eq}
use Rattle.jvm_model.specs.declared.automaton.Event.{Event}
use Rattle.op_model.specs.declared.lowered.LoweredMethod.{LoweredMethod}
use Rattle.op_model.specs.declared.node.Node.{Node}
use Rattle.op_model.specs.declared.op.Call.{Call as NodeCall}
use Rattle.points_to_rules.specs.Facts.{Holder}
use Rattle.access_paths.specs.declared.root.Root.TheVariants.{Slot}
use Rattle.access_paths.specs.Paths.{bare, has_path}
use Rattle.stage_facts.specs.Facts.{Tuple}
use Rattle.stage_transfer.specs.Settings.{Setting}
use Rattle.stage_transfer.specs.Calls.{event_at, event_of_call, is_of_others, not_referring, referring}

-- The event is that of calls of this name and descriptor.
abbrev pub is_event_of : NodeCall → Event → Bool
is_event_of c e = bytes_eq e.name c.name && bytes_eq e.descriptor c.descriptor

-- The state after an event, if there is one.
abbrev pub next_state : (state : ℕ) → Option Event → Option ℕ
next_state state o = option_map (λ (e : Event). slice_index e.next state) o

-- The object, in another state.
abbrev pub in_state : (state : ℕ) → Tuple → Tuple
in_state state t = record { unique = t.unique; state = state; must = t.must; may = t.may; must_not = t.must_not }

-- The receiver can only be the object.
abbrev pub is_only : Setting → (receiver : Holder) → Tuple → Bool
is_only w receiver t = t.unique && w.answers.holds_no_other receiver w.site

-- The event is on this object, or on another one.
abbrev pub either_state : Setting → (next : ℕ) → (slots : List ℕ) → Tuple → List Tuple
either_state w next slots t =
    if nat_eq w.stage 4
    then referring slots (in_state next t) ∷ not_referring slots t ∷ []
    else t ∷ in_state next t ∷ []

-- What an event does that leads to this state.
abbrev pub after_state : Setting → (next : ℕ) → (receiver : Holder) → (z : ℕ) → (slots : List ℕ) → Tuple → List Tuple
after_state w next receiver z slots t =
    if has_path t.must (bare (Slot z)) then in_state next t ∷ []
    else if is_of_others w receiver z t then t ∷ []
    else if is_only w receiver t then referring slots (in_state next t) ∷ []
    else either_state w next slots t

-- What the event of a call does.
abbrev pub states_after : Setting → LoweredMethod → Node → NodeCall → Tuple → List Tuple
states_after w l n c t = event_at w l n (event_of_call w.property c) (option_flatten (slice_get c.arguments 0)) t
