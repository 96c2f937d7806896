-- Only the proofs of this crate rest on this module.
-- The walk need not meet a handler at each instruction that it covers (JVMS 2.10): it is noted already, or still listed there.
use Rattle.std.specs.Prelude.{◌≡◌, ◌⊎◌, ℕ, true, List, Some, slice_get, Contains}
use Rattle.jvm_model.specs.declared.code.Code.{Code}
use Rattle.jvm_model.specs.declared.code.Handler.{Handler}
use Rattle.jvm_model.specs.declared.code.PlacedInstruction.{PlacedInstruction}
use Rattle.flow_graph.specs.declared.mark.Mark.{Mark}
use Rattle.flow_graph.specs.declared.uncaught.Level.{Level}
use Rattle.flow_graph.specs.Flows.{number_of, covers, caught_at}
use Rattle.flow_graph.specs.Uncaught.{held}
use Rattle.flow_graph.specs.Walks.{caught}

-- It changes nothing any more that a handler begins at this offset.
pub record IsCaught (limit : ℕ) (instructions : List PlacedInstruction) (marks : List Mark) (target : ℕ) : Type 0 where
  pub fixed : (number : ℕ) (m : Mark) → number_of instructions target ≡ Some number → slice_get marks number ≡ Some m → caught limit m ≡ m

-- Each handler is caught, or listed at each offset that it covers; and what is listed at an offset are handlers that cover it.
pub record AreUncaught (code : Code) (levels : List Level) (marks : List Mark) : Type 0 where
  pub all : (h : Handler) (offset : ℕ) → Contains code.handlers h → covers offset h ≡ true
      → IsCaught code.max_stack code.instructions marks h.target ⊎ Contains (held levels offset) h.target
  pub only : (offset target : ℕ) → Contains (held levels offset) target → Contains (caught_at code.handlers offset) target
