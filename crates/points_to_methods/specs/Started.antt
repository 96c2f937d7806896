-- This crate's own proofs alone rest on this module.
-- What it leads to that a node starts an initialiser.
use Rattle.std.specs.Prelude.{◌≡◌, ◌⊎◌}
use Rattle.jvm_model.specs.declared.number.MethodNo.{MethodNo}
use Rattle.points_to_rules.specs.Facts.{thrown_by}
use Rattle.points_to_constraints.specs.Items.{CatchChain, rethrow_to, Item as RuleItem, constrained}
use Rattle.points_to_methods.specs.Initiated.{IsInitiated}

-- It runs, and what it throws is kept, and goes to the catch chain.
abbrev pub IsStarted : MethodNo → CatchChain → RuleItem → Type 0
IsStarted i catch_chain x = IsInitiated i x ⊎ (x ≡ constrained (thrown_by i) (rethrow_to catch_chain))
