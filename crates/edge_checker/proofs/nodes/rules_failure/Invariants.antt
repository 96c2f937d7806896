use Rattle.edge_checker.specs.Failures.{IsLeastFor}
use Rattle.edge_checker.specs.Parts.{FailsAt, MeetsAt}
use Rattle.edge_checker.proofs.Leasts.{AllFor, SomeFor}
use Rattle.edge_checker.proofs.nodes.rules_failure.Given as goal

-- the first of those so far
abbrev pub invariant-loop-a : goal.invariant-loop-a
invariant-loop-a l =
    IsLeastFor l.checking.question.now (AllFor (MeetsAt l.checking.question.now l.checking.listed.now) l.checking.listed.now 0 l.a-index)
    (SomeFor (FailsAt l.checking.question.now l.checking.listed.now) l.checking.listed.now 0 l.a-index) l.first
