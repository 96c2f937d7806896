use Rattle.std.proofs.Common.{[], ◌∷◌, sym, subst}
use Rattle.certificate_lines.specs.declared.line.Line.{Line}
use Rattle.certificate_ground.specs.Listed.{holder_sites, named_sites}
use Rattle.certificate_ground.specs.Sites.{HasMore}
use Rattle.certificate_ground.proofs.NamedSites.{more_both, more_one}
use Rattle.certificate_ground.proofs.line_sites.number_line.Goals as goal

pub returns-in_ok-number-in-PointsTo : goal.returns-in_ok-number-in-PointsTo
returns-in_ok-number-in-PointsTo c =
    let old = c.args.sites.now in
    let middle = c.number_holder.new.sites in
    let new = c.number.new.self in
    let s = c.in-PointsTo.site in
    subst (λ (x : Line). HasMore (named_sites x) old new) (sym c.in-PointsTo.is)
    (more_both (holder_sites c.in-PointsTo.holder) (s ∷ []) old middle new c.in_ok-number_holder-in-PointsTo.ensures (more_one middle new s _ c.in_ok-number-in-PointsTo.ensures))

pub returns-in_ok-number-in-Claim : goal.returns-in_ok-number-in-Claim
returns-in_ok-number-in-Claim c =
    let old = c.args.sites.now in
    let new = c.number-in-Claim.new.self in
    let s = c.in-Claim.site in
    subst (λ (x : Line). HasMore (named_sites x) old new) (sym c.in-Claim.is) (more_one old new s _ c.in_ok-number-in-Claim.ensures)
