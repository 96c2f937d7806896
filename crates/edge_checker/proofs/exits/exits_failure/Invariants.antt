use Rattle.edge_checker.specs.Failures.{IsLeastFor}
use Rattle.edge_checker.specs.Parts.{ExitFails, IsExitMet}
use Rattle.edge_checker.proofs.Leasts.{AllFor, SomeFor}
use Rattle.edge_checker.proofs.exits.exits_failure.Given as goal

-- the first of those so far
abbrev pub invariant-loop-place : goal.invariant-loop-place
invariant-loop-place l =
    IsLeastFor l.checking.question.now (AllFor (IsExitMet l.checking.question.now l.checking.listed.now l.a) l.checking.listed.now l.from l.place)
    (SomeFor (ExitFails l.checking.question.now l.checking.listed.now l.a) l.checking.listed.now l.from l.place) l.first
