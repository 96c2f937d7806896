-- The lines of the sites at a place are those of what its holder may hold.
use Rattle.std.proofs.Common.{◌≡◌, List, Some, sym, ap, ◌∙◌, subst}
use Rattle.std.specs.List.{slice_get, Contains}
use Rattle.std.proofs.lemmas.Option.{same_Some}
use Rattle.jvm_model.specs.declared.number.SiteNo.{SiteNo}
use Rattle.points_to_rules.specs.Facts as facts
use Rattle.ground.specs.Added.{AreAdded, OfOne}
use Rattle.ground.specs.Findings.{AreSitesOf, Findings}
use Rattle.ground.proofs.Adding.{added_as}
use Rattle.certificate_lines.specs.declared.line.Line.{Line}
use Rattle.certificate_printing.specs.Collected.{IsHeldLine, IsSiteLine}

module _ (g : Findings) (place : _) (numbers : List SiteNo) (sites : (h : facts.Holder) → slice_get g.holders place ≡ Some h → AreSitesOf g h numbers) where
  pub held_at : (old new : List Line) → AreAdded (OfOne (IsSiteLine g place) numbers) old new → AreAdded (IsHeldLine g place) old new
  held_at old new added =
      added_as (OfOne (IsSiteLine g place) numbers) (IsHeldLine g place) old new
      (λ line one.
      let (number, there, l) = one in
      record {
        holder = l.holder;
        site = l.site;
        stands = l.stands;
        holds = ((sites l.holder l.stands).each l.site).1 (number, there, l.numbered);
        is = l.is;
      })
      (λ line h.
      let (number, there, numbered) = ((sites h.holder h.stands).each h.site).0 h.holds in
      (number, there, record { holder = h.holder; site = h.site; stands = h.stands; numbered = numbered; is = h.is }))
      added
