-- Public contracts rest on this module.
-- What a flow graph says of the code of its method, apart from how it was found (JVMS 2.6.2, 2.10, 4.9.2, 4.10).
use Rattle.std.specs.Prelude.{◌≡◌, ℕ, ◌<◌, ◌≤◌, false, List, Some, slice_get, Contains, All, Ok}
use Rattle.std.specs.List.{AllByRecursion}
use Rattle.jvm_model.specs.declared.class_file.ClassFile.{ClassFile}
use Rattle.jvm_model.specs.declared.code.Code.{Code}
use Rattle.jvm_model.specs.declared.code.PlacedInstruction.{PlacedInstruction}
use Rattle.code_reader.specs.CodeReading.{ReadsCode}
use Rattle.flow_graph.specs.declared.effect.Effect.{Effect}
use Rattle.flow_graph.specs.declared.steps.Graph.{Graph}
use Rattle.flow_graph.specs.declared.steps.GraphStep.{GraphStep}
use Rattle.flow_graph.specs.Effects.{HasEffect}
use Rattle.flow_graph.specs.Flows.{successors, falls_off, covering, caught_at}
use Rattle.flow_graph.specs.Walks.{height_after}

-- The code is that of a method of the class, as it is read.
pub record IsCodeOf (c : ClassFile) (code : Code) : Type 0 where
  pub method : ℕ
  pub read : ReadsCode c method (Ok code)

-- The graph has the instruction at an offset, at a height.
pub record HasStep (steps : List GraphStep) (offset height : ℕ) : Type 0 where
  pub step : GraphStep
  pub there : Contains steps step
  pub offset_is : step.offset ≡ offset
  pub height_is : step.height ≡ height

-- A step is an instruction of the code. It takes no more units than there are, and leaves no more than the limit; it goes
-- on at steps of the height that it leaves, and not past the end of the code; and each handler that covers it begins at a
-- step with one unit.
pub record IsStep (c : ClassFile) (code : Code) (steps : List GraphStep) (s : GraphStep) : Type 0 where
  pub number : ℕ
  pub placed : PlacedInstruction
  pub stands : slice_get code.instructions number ≡ Some placed
  pub offset_is : s.offset ≡ placed.offset
  pub effect : Effect
  pub has : HasEffect c.pool placed.instruction effect
  pub enough : effect.pops ≤ s.height
  pub room : s.height ≤ code.max_stack
  pub room_after : height_after effect s.height ≤ code.max_stack
  pub stays : falls_off code.instructions number placed ≡ false
  pub successors_are : s.successors ≡ successors code.instructions number placed
  pub successors_there : AllByRecursion (λ offset. HasStep steps offset (height_after effect s.height)) s.successors
  pub handlers_are : s.handlers ≡ covering code.handlers s.offset
  pub handlers_there : AllByRecursion (λ offset. HasStep steps offset 1) (caught_at code.handlers s.offset)

-- A step is reached: the first one, and what a step that is reached goes on at, or what a handler that covers it begins at.
pub data IsReached (code : Code) (steps : List GraphStep) : ℕ → Type 0 where
  at_first : (offset : ℕ) → offset ≡ 0 → IsReached code steps offset
  from_step : (offset : ℕ) (s : GraphStep) → Contains steps s → IsReached code steps s.offset → Contains s.successors offset → IsReached code steps offset
  from_handler : (offset : ℕ) (s : GraphStep) → Contains steps s → IsReached code steps s.offset → Contains (caught_at code.handlers s.offset) offset → IsReached code steps offset

-- The graph is that of the code: its steps stand in the order of their offsets, the first one at the first instruction
-- with no unit on the operand stack; each is one of the code, and is reached.
pub record IsFlow (c : ClassFile) (code : Code) (g : Graph) : Type 0 where
  pub begins : (s : GraphStep) → slice_get g.steps 0 ≡ Some s → (s.offset ≡ 0) × (s.height ≡ 0)
  pub has_first : HasStep g.steps 0 0
  pub ascends : (i j : ℕ) (s t : GraphStep) → i < j → slice_get g.steps i ≡ Some s → slice_get g.steps j ≡ Some t → s.offset < t.offset
  pub each : All (IsStep c code g.steps) g.steps
  pub each_reached : All (λ (s : GraphStep). IsReached code g.steps s.offset) g.steps
