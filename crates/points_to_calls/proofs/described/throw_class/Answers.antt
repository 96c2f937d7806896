use Rattle.std.proofs.Common.{refl, ap}
use Rattle.jvm_model.specs.declared.site.SiteKind.TheVariants as kinds
use Rattle.points_to_rules.specs.Facts.{Holder, may_hold}
use Rattle.points_to_constraints.specs.CallItems.{call_allocates}
use Rattle.points_to_constraints.specs.Items.{known}
use Rattle.points_to_numbers.specs.declared.item.Item.TheVariants.{Holds}
use Rattle.points_to_calls.specs.Parts.{ClassThrown}
use Rattle.points_to_calls.proofs.CatchChain.{one_catch_chain}
use Rattle.points_to_numbers.proofs.Making.{makes_grown, makes_one}
use Rattle.points_to_calls.proofs.described.throw_class.Goals as goal
use Rattle.std.proofs.Common.{◌∙◌}

pub lands-to-requires : goal.lands-to-requires
lands-to-requires c = let (site, at) = c.requires in (site.catch_chain, (c.call_of.ensures site at).catch_chain)

pub returns : goal.returns
returns c = λ site at.
    let p = c.args.program.now in let n = c.args.work.now.tables in let m = c.allocated.new.tables in let class = c.args.class.now in
    let where_to = c.lands-to.ensures site.catch_chain (c.call_of.ensures site at).catch_chain in
    let s = call_allocates kinds.Thrown site class in
    let new_site = c.in_ok-site.ensures site at in
    makes_grown n m m (ClassThrown p site class) c.args.work.now.steps.items c.push.new.self.items new_site.grows new_site.calls
    (makes_one m (ClassThrown p site class) c.args.work.now.steps.items c.push.new.self.items (Holds c.lands-to.result c.in_ok-site.site) (known (may_hold where_to.to s)) c.in_ok-push.ensures.items
    (where_to.to, s, new_site.grows.holders c.lands-to.result.0 where_to.to where_to.held, new_site.stands, refl)
    (record { to = where_to.to; lands = where_to.lands; is = refl })
    (λ y thrown. thrown.is ∙ ap (λ (h : Holder). known (may_hold h s)) (one_catch_chain p class site.catch_chain.catch_clauses site.catch_chain.outside thrown.to where_to.to thrown.lands where_to.lands)))
