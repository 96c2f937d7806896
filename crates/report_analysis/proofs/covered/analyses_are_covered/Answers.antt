use Rattle.simulation.proofs.Covered.{closed_covers}
use Rattle.report_analysis.proofs.covered.analyses_are_covered.Goals as goal

pub returns : goal.returns
returns c = λ x given limit g program map a.
    closed_covers x given g.facts program map (λ premises fact instance hold. a.least.closed premises fact instance hold) a.unrefused
