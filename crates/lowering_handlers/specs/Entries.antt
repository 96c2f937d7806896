-- Public contracts rest on this module.
-- Which entries of a table of handlers cover an instruction that is reached, and where the entries stand in the file (JVMS 4.7.3).
use Rattle.std.specs.Prelude.{◌≡◌, ◌⊎◌, ◌↔◌, ℕ, ◌+◌, ◌*◌, ◌<◌, Bool, true, List, [], ◌∷◌, length, get_or, Some, slice_get, Contains}
use Rattle.std.specs.Int.{w32, from_be_bytes}
use Rattle.jvm_model.specs.declared.code.Handler.{Handler}
use Rattle.jvm_model.specs.declared.pool.PoolEntry.{PoolEntry}
use Rattle.jvm_model.specs.Code.{CodeBody}
use Rattle.jvm_model.specs.Programs.{Program}
use Rattle.flow_graph.specs.declared.steps.GraphStep.{GraphStep}
use Rattle.lowering_handlers.specs.Catches.{IsUnknownEntry}

-- The entry of this place covers an instruction that is reached.
pub record IsUsed (steps : List GraphStep) (place : ℕ) : Type 0 where
  pub step : GraphStep
  pub there : Contains steps step
  pub covers : Contains step.handlers place

-- The first entry of those that takes a class that is not in the program.
pub record IsFirstUnknown (p : Program) (pool : List PoolEntry) (handlers : List Handler) (steps : List GraphStep) (place : ℕ) : Type 0 where
  pub used : IsUsed steps place
  pub unknown : IsUnknownEntry p pool handlers place
  pub first : (earlier : ℕ) → earlier < place → IsUsed steps earlier → IsUnknownEntry p pool handlers earlier → ⊥

-- None of them takes such a class.
abbrev pub AreKnown : Program → List PoolEntry → List Handler → List GraphStep → Type 0
AreKnown p pool handlers steps = (place : ℕ) → IsUsed steps place → IsUnknownEntry p pool handlers place → ⊥

-- The file offset of an entry: the code, and the count of entries, stand before the first one, and each takes eight bytes.
abbrev pub entry_offset : ℕ → CodeBody → ℕ → ℕ
entry_offset at body place = at + length body.bytes + 2 + 8 * place

-- ---- the length of the code, on which this crate's own proofs alone rest

-- The number of four bytes that stands behind the first four.
abbrev pub fifth_to_eighth : List ℕ → ℕ
fifth_to_eighth bytes = from_be_bytes w32 (get_or bytes 4 0 ∷ get_or bytes 5 0 ∷ get_or bytes 6 0 ∷ get_or bytes 7 0 ∷ [])

-- ---- marks, on which this crate's own proofs alone rest

-- These places are marked, and the others as they were.
pub record MarksEach (old : List Bool) (places : List ℕ) (new : List Bool) : Type 0 where
  pub long : length new ≡ length old
  pub each : (place : ℕ) → place < length old → (slice_get new place ≡ Some true) ↔ ((slice_get old place ≡ Some true) ⊎ Contains places place)

-- An entry is marked exactly where it covers an instruction that is reached.
pub record AreUsedMarks (count : ℕ) (steps : List GraphStep) (used : List Bool) : Type 0 where
  pub long : length used ≡ count
  pub each : (place : ℕ) → place < count → (slice_get used place ≡ Some true) ↔ IsUsed steps place
