use Rattle.edge_checker.specs.Failures.{IsLeastFor}
use Rattle.edge_checker.specs.Parts.{AreExitsMet, ExitsFail}
use Rattle.edge_checker.proofs.Leasts.{AllFor, SomeFor}
use Rattle.edge_checker.proofs.exits.leaving_failure.Given as goal

-- the first of those so far
abbrev pub invariant-loop-one : goal.invariant-loop-one
invariant-loop-one l =
    IsLeastFor l.checking.question.now (AllFor (AreExitsMet l.checking.question.now l.checking.listed.now l.a) l.entered 0 l.one-index)
    (SomeFor (ExitsFail l.checking.question.now l.checking.listed.now l.a) l.entered 0 l.one-index) l.first
