use Rattle.std.proofs.Common.{ℕ, List, refl, ap, subst}
use Rattle.points_to_rules.specs.Facts.{Holder, may_hold}
use Rattle.points_to_constraints.specs.CallItems.{LandsIn}
use Rattle.points_to_constraints.specs.ItemRules.{LandsAs}
use Rattle.points_to_constraints.specs.Items.{known}
use Rattle.points_to_numbers.specs.declared.item.Item.TheVariants.{Holds}
use Rattle.points_to_calls.proofs.CatchChain.{one_catch_chain}
use Rattle.points_to_numbers.proofs.Making.{makes_one}
use Rattle.points_to_calls.proofs.plain.land.Goals as goal
use Rattle.std.proofs.Common.{◌∙◌}

pub returns : goal.returns
returns c = λ l s at there.
    let p = c.args.program.now in let n = c.args.tables.now in
    let where_to = c.lands-to.ensures l at in
    let lands = subst (λ (class : List ℕ). LandsIn p class l.catch_clauses l.outside where_to.to) (c.class_of.ensures s there) where_to.lands in
    makes_one n (LandsAs p l s) c.args.steps.now.items c.push.new.self.items (Holds c.lands-to.result c.args.site) (known (may_hold where_to.to s)) c.in_ok-push.ensures.items
    (where_to.to, s, where_to.held, there, refl) (where_to.to, lands, refl)
    (λ y (to, goes, e). e ∙ ap (λ (h : Holder). known (may_hold h s)) (one_catch_chain p s.class l.catch_clauses l.outside to where_to.to goes lands))
