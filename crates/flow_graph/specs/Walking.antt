-- Only the proofs of this crate rest on this module.
-- What the code's walk does in parts.
use Rattle.std.specs.Prelude.{◌≡◌, ◌≤◌, ℕ, Bool, true, false, ◌||◌, nat_eq, List, Option, Some, None, slice_get}
use Rattle.std.specs.BTreeSet.{BTreeSet, contains}
use Rattle.std.specs.List.{list_any}
use Rattle.std.specs.Option.{option_map_or}
use Rattle.std.specs.Ordering.{nat_cmp}
use Rattle.jvm_model.specs.declared.code.Code.{Code}
use Rattle.jvm_model.specs.declared.code.PlacedInstruction.{PlacedInstruction}
use Rattle.flow_graph.specs.declared.effect.Effect.{Effect}
use Rattle.flow_graph.specs.declared.mark.Mark.{Mark}
use Rattle.flow_graph.specs.Flows.{number_of}
use Rattle.flow_graph.specs.Walks.{reached, at_each, is_waiting, Waits, after_walk}

-- The instructions at these offsets are reached, if one goes on to them at a height.
abbrev pub onward_each : Option ℕ → List PlacedInstruction → List Mark → List ℕ → List Mark
onward_each None instructions marks offsets = marks
onward_each (Some height) instructions marks offsets = at_each (reached height) instructions marks offsets

-- The first instruction that waits was walked.
pub record IsWalkedOne (code : Code) (effects : List Effect) (old new : List Mark) : Type 0 where
  pub waits : Waits code effects old
  pub after : new ≡ after_walk code waits.number waits.placed waits.effect waits.mark waits.height old

-- The instruction of a number waits.
abbrev pub waits_at : List Mark → ℕ → Bool
waits_at marks number = option_map_or is_waiting (slice_get marks number) false

-- Each instruction that waits is among those that are awaited.
pub record AreAwaited (awaited : BTreeSet ℕ) (marks : List Mark) : Type 0 where
  pub among : (number : ℕ) → waits_at marks number ≡ true → contains nat_cmp awaited number ≡ true

-- No lesser number is awaited.
abbrev pub IsLeastAwaited : BTreeSet ℕ → ℕ → Type 0
IsLeastAwaited awaited least = (number : ℕ) → contains nat_cmp awaited number ≡ true → least ≤ number

-- The instruction at an offset has this number.
abbrev pub is_number_at : List PlacedInstruction → ℕ → ℕ → Bool
is_number_at instructions number offset = option_map_or (λ (n : ℕ). nat_eq n number) (number_of instructions offset) false

-- The instruction of this number stands at one of the offsets.
abbrev pub stands_at : List PlacedInstruction → List ℕ → ℕ → Bool
stands_at instructions offsets number = list_any (is_number_at instructions number) offsets

-- The instructions at these offsets are awaited too.
pub record Awaits (old new : BTreeSet ℕ) (instructions : List PlacedInstruction) (offsets : List ℕ) : Type 0 where
  pub each : (number : ℕ) → contains nat_cmp new number ≡ (contains nat_cmp old number || stands_at instructions offsets number)

-- Those at two lists of offsets are.
pub record AwaitsBoth (old new : BTreeSet ℕ) (instructions : List PlacedInstruction) (next caught : List ℕ) : Type 0 where
  pub between : BTreeSet ℕ
  pub onward : Awaits old between instructions next
  pub handlers : Awaits between new instructions caught

-- The set has these offsets.
pub record AreAmong (set : BTreeSet ℕ) (offsets : List ℕ) : Type 0 where
  pub each : (offset : ℕ) → contains nat_cmp set offset ≡ list_any (λ (m : ℕ). nat_eq m offset) offsets
