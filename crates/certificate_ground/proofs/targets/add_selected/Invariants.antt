use Rattle.std.proofs.Common.{take}
use Rattle.jvm_model.specs.declared.number.SiteNo.{SiteNo}
use Rattle.certificate_ground.specs.Pairs.{AddsPairs, OfSome}
use Rattle.certificate_ground.specs.Targets.{IsSelectedAt}
use Rattle.certificate_ground.proofs.targets.add_selected.Given as goal

abbrev pub invariant-loop-site : goal.invariant-loop-site
invariant-loop-site l = record {
  added : AddsPairs (OfSome (λ (n : SiteNo) call t. IsSelectedAt l.known.program.now l.known.sites.now l.call l.at n call t) (take l.site-index l.receivers)) l.initial.targets.calls.keys
      l.initial.targets.targets.groups.items l.targets.calls.keys l.targets.targets.groups.items;
}
