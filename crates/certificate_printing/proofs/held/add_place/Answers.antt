use Rattle.std.proofs.Common.{◌≡◌, ◌∙◌, Some, sym, subst}
use Rattle.std.specs.List.{slice_get}
use Rattle.std.proofs.lemmas.List.Elements.{Contains-get_or}
use Rattle.std.proofs.lemmas.Option.{get_or_from_slice_get}
use Rattle.list_laws.proofs.Places.{contains_at, stands_below}
use Rattle.jvm_model.specs.declared.number.SiteNo.{SiteNo}
use Rattle.jvm_model.specs.declared.site.Site.{Site}
use Rattle.ground.proofs.Adding.{added_all, added_more}
use Rattle.certificate_printing.specs.Collected.{IsSiteLine}
use Rattle.certificate_printing.proofs.Collecting.{added_one}
use Rattle.certificate_printing.proofs.Holding.{held_at}
use Rattle.certificate_printing.proofs.held.add_place.Goals as goal

pub held_line-requires-clause-site : goal.held_line-requires-clause-site
held_line-requires-clause-site c = c.sites_at-site-items.ensures.within _ (Contains-get_or c.sites_at-site-items.result.now c.loop-site.site-index _ c.loop-site-test.true)

pub loop-site-preserved : goal.loop-site-preserved
loop-site-preserved c =
    let g = c.args.ground.now in
    let place = c.args.place.0 in
    let xs = c.sites_at-site-items.result.now in
    let k = c.loop-site.site-index in
    let (n, at) = stands_below xs k c.loop-site-test.true in
    let same = get_or_from_slice_get xs k n _ at in
    let read = λ (o : Site) (numbered : slice_get g.sites n.0 ≡ Some o). subst (λ (m : SiteNo). slice_get g.sites m.0 ≡ Some o) (sym same) numbered in
    let (h, stands) = stands_below g.holders place c.requires in
    let (s, numbered) = stands_below g.sites n.0 (c.sites_at-site-items.ensures.within n (contains_at xs k n at)) in
    let old = c.loop-site.lines.items in
    let new = c.add_line.new.lines.items in
    let one = added_one (IsSiteLine g place n) _ old new c.in_ok-add_line.ensures
    (record { holder = h; site = s; stands = stands; numbered = numbered; is = c.in_ok-held_line.ensures h s stands (read s numbered) })
    (λ line l. c.in_ok-held_line.ensures l.holder l.site l.stands (read l.site l.numbered) ∙ sym l.is) in
    record { added = added_more (IsSiteLine g place) xs k n at c.args.lines.now.items old new c.loop-site.invariant.added one }

pub returns : goal.returns
returns c =
    let g = c.args.ground.now in
    let place = c.args.place.0 in
    let xs = c.sites_at-site-items.result.now in
    let old = c.args.lines.now.items in
    let new = c.loop-site.lines.items in
    held_at g place xs c.sites_at-site-items.ensures.sites old new
    (added_all (IsSiteLine g place) xs c.loop-site.site-index c.loop-site-test.false old new c.loop-site.invariant.added)
