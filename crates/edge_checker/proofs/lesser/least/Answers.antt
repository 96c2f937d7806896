use Rattle.edge_checker.specs.Failures.{both, neither, one, other}
use Rattle.edge_checker.proofs.lesser.least.Goals as goal

pub returns-in-None-other : goal.returns-in-None-other
returns-in-None-other c = rw (c.in-None.is, c.in-None-other.is) neither

pub returns-in-Some-other : goal.returns-in-Some-other
returns-in-Some-other c = rw (c.in-None.is, c.in-Some-other.is) (other c.in-Some-other.also)

pub returns-in-None-other-2 : goal.returns-in-None-other-2
returns-in-None-other-2 c = rw (c.in-Some.is, c.in-None-other-2.is) (one c.in-Some.first)

pub returns-in-Some-other-2 : goal.returns-in-Some-other-2
returns-in-Some-other-2 c = rw (c.in-Some.is, c.in-Some-other-2.is) (both c.in-Some.first c.in-Some-other-2.also c.lesser.result c.lesser.ensures)
