use Rattle.std.proofs.Common.{ℕ, ◌<◌, ◌^◌, ◌∙◌, sym, subst}
use Rattle.points_to_numbers.specs.Kept.{kept}
use Rattle.points_to_numbers.proofs.KnownPlaces.{sites_are}
use Rattle.points_to_numbers.proofs.tables.Tables.site_count.Goals as goal

pub returns-clause-count : goal.returns-clause-count
returns-clause-count c = c.len.ensures.len ∙ sites_are (kept c.self.inside) c.args.self.now c.self.view_is c.self.invariant

pub returns-clause-few : goal.returns-clause-few
returns-clause-few c = subst (λ (n : ℕ). n < 2 ^ 32) (sym c.len.ensures.len) c.self.invariant.few.sites
