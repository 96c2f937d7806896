use Rattle.std.proofs.Common.{sym, ◌∙◌}
use Rattle.certificates.proofs.Claims.{site_back, site_from}
use Rattle.certificates.proofs.following.is_same_site.Goals as goal

pub returns : goal.returns
returns c = (
  (λ yes. site_from c.args.one.now c.args.other.now c.compare_sites.result c.compare_sites.ensures (sym yes ∙ c.is_eq.ensures)),
  (λ e. c.is_eq.ensures ∙ site_back c.args.one.now c.args.other.now c.compare_sites.result c.compare_sites.ensures e),
)
