use Rattle.std.proofs.Common.{take}
use Rattle.ground.specs.Added.{AreAdded, OfOne}
use Rattle.report_sites.specs.Found.{GivesNew}
use Rattle.report_sites.proofs.targets.add_outcomes.Given as goal

abbrev pub invariant-loop-outcome : goal.invariant-loop-outcome
invariant-loop-outcome l = record {
  added : AreAdded (OfOne (GivesNew l.wanted.program.now l.wanted.upper l.method l.offset) (take l.outcome-index l.outcomes))
      l.initial.sites.items l.sites.items;
}
