use Rattle.std.proofs.Common.{take}
use Rattle.jvm_model.specs.declared.number.SiteNo.{SiteNo}
use Rattle.points_to.proofs.PassedOn.{ArePassedOn}
use Rattle.points_to.proofs.found.Found.pass_each.Given as goal

abbrev pub invariant-loop-site : goal.invariant-loop-site
invariant-loop-site l = ArePassedOn l.program (λ (s : SiteNo). l.constraint) (λ (s : SiteNo). s) (take l.site-index l.sites) l.initial.self l.self
