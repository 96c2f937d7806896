use Rattle.std.proofs.Common.{drop}
use Rattle.points_to_rules.specs.declared.place.PlaceNo.{PlaceNo}
use Rattle.points_to_calls.specs.Parts.{GoesTo}
use Rattle.points_to_calls.proofs.catch_chains.goes_to.Given as goal

abbrev pub invariant-loop-catch_clause : goal.invariant-loop-catch_clause
invariant-loop-catch_clause l =
    (to : PlaceNo) → GoesTo l.program l.class (drop l.catch_clause-index l.catch_chain.catch_clauses) l.catch_chain.outside to → GoesTo l.program l.class l.catch_chain.catch_clauses l.catch_chain.outside to
