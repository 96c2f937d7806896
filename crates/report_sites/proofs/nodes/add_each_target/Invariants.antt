use Rattle.std.proofs.Common.{take}
use Rattle.ground.specs.Added.{AreAdded, OfOne}
use Rattle.report_sites.specs.Found.{TargetGives}
use Rattle.report_sites.proofs.nodes.add_each_target.Given as goal

abbrev pub invariant-loop-target : goal.invariant-loop-target
invariant-loop-target l = record {
  added : AreAdded (OfOne (TargetGives l.wanted.program.now l.wanted.upper l.method l.offset) (take l.target-index l.targets))
      l.initial.sites.items l.sites.items;
}
