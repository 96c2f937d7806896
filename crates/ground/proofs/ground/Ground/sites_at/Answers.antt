use Rattle.std.proofs.Common.{List, sym, subst}
use Rattle.jvm_model.specs.declared.number.SiteNo.{SiteNo}
use Rattle.ground.specs.Ordered.{DoAscend, site_number}
use Rattle.ground.proofs.Views.{sites_listed, sites_within}
use Rattle.ground.proofs.ground.Ground.sites_at.Goals as goal

pub returns-clause-sites : goal.returns-clause-sites
returns-clause-sites c = λ h at. sites_listed c.self.inside.program.now c.self.inside.lists c.args.self.now c.self.view_is c.self.invariant.sound c.args.place.0 h c.get.result.now at c.get.ensures

pub returns-clause-within : goal.returns-clause-within
returns-clause-within c = sites_within c.self.inside.program.now c.self.inside.lists c.args.self.now c.self.view_is c.self.invariant.sound c.args.place.0 c.get.result.now c.get.ensures

pub returns-clause-ascend : goal.returns-clause-ascend
returns-clause-ascend c = subst (λ (sites : List SiteNo). DoAscend site_number sites) (sym c.get.ensures) (c.self.invariant.ordered.held c.args.place.0)
