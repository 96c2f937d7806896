use Rattle.std.proofs.Common.{take}
use Rattle.points_to_methods.proofs.LandedNodes.{CatchClausesSoFar}
use Rattle.points_to_methods.proofs.catch_chains.catch_clauses_of.Given as goal

abbrev pub invariant-loop-handler : goal.invariant-loop-handler
invariant-loop-handler l = CatchClausesSoFar l.at.method.now l.fn.tables l.tables (take l.handler-index l.handler-items) l.catch_clauses.items
