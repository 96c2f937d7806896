use Rattle.std.proofs.Common.{◌≡◌, List, Some, sym, ◌∙◌, ap, subst}
use Rattle.std.proofs.lemmas.Option.{none-some, same_Some}
use Rattle.site_report.specs.declared.tracked_site.TrackedSite.{TrackedSite}
use Rattle.ground.specs.Added.{AreAdded}
use Rattle.ground.proofs.Adding.{added_as, added_none, pushed_adds}
use Rattle.report_sites.proofs.sites.add_site.Goals as goal

pub returns-in_ok-push-in-Some : goal.returns-in_ok-push-in-Some
returns-in_ok-push-in-Some c =
    let old = c.args.sites.now.items in
    let one = c.in-Some.one in
    let pushed = subst (λ (new : List TrackedSite). AreAdded (λ t. one ≡ t) old new) (sym c.in_ok-push-in-Some.ensures.items) (pushed_adds old one) in
    added_as (λ t. one ≡ t) (λ t. c.args.site ≡ Some t) old c.push.new.self.items
    (λ t is. c.in-Some.is ∙ ap Some is)
    (λ t is. same_Some one t (sym c.in-Some.is ∙ is))
    pushed

pub returns-in-None : goal.returns-in-None
returns-in-None c = added_none (λ t. c.args.site ≡ Some t) c.args.sites.now.items (λ t is. none-some t (sym c.in-None.is ∙ is))
