use Rattle.std.proofs.Common.{◌≡◌, Option, ℕ}
use Rattle.std.proofs.lemmas.Result.{on_ok_weaker}
use Rattle.ground.proofs.Adding.{added_as}
use Rattle.node_ways.specs.Parts.{LandsAt}
use Rattle.node_ways.proofs.landings.add_landing.Goals as goal

pub returns : goal.returns
returns c =
    let p = c.args.program.now in
    let n = c.args.node.now in
    let class = c.args.class.now in
    let way = c.landing_of.result in
    on_ok_weaker c.add_new.result
    (λ added.
    added_as (λ (x : Option ℕ). x ≡ way) (LandsAt p n class) c.args.landings.now.items c.add_new.new.landings.items (λ x same. (c.landing_of.ensures x).1 same) (λ x lands. (c.landing_of.ensures x).0 lands) added)
    c.add_new.ensures
