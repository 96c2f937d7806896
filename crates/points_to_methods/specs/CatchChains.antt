-- Public contracts rest on this module.
-- What entries and numbers of catch chains stand for in a method.
use Rattle.std.specs.Prelude.{◌≡◌, ℕ, Some, slice_get}
use Rattle.op_model.specs.declared.lowered.LoweredMethod.{LoweredMethod}
use Rattle.op_model.specs.declared.node.Node.{Node}
use Rattle.op_model.specs.declared.node.NodeHandler.{NodeHandler}
use Rattle.points_to_constraints.specs.Items.{CatchClause as ItemCatchClause, CatchChain as ItemCatchChain}
use Rattle.points_to_constraints.specs.NodeItems.{IsCatchClause, IsCatchChain}
use Rattle.points_to_numbers.specs.declared.entries.CatchClause.{CatchClause}
use Rattle.points_to_numbers.specs.Numbered.{IsCatchClauseAt, Numbered}

-- The entry stands for the catch clause of the handler.
abbrev pub StandsForCatchClause : LoweredMethod → Numbered → NodeHandler → CatchClause → Type 0
StandsForCatchClause l tables handler entry = (a : ItemCatchClause) × IsCatchClause l handler a × IsCatchClauseAt tables entry a

-- The number stands for the catch chain of the node.
abbrev pub StandsForCatchChain : LoweredMethod → Node → Numbered → ℕ → Type 0
StandsForCatchChain l n tables number = (catch_chain : ItemCatchChain) × IsCatchChain l.method l n catch_chain × (slice_get tables.catch_chains number ≡ Some catch_chain)
