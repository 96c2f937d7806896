use Rattle.std.proofs.Common.{◌≡◌, ◌∷◌, List, sym, subst}
use Rattle.flow_graph.specs.declared.uncaught.Level.{Level}
use Rattle.flow_graph.specs.Uncaught.{TakesOut}
use Rattle.flow_graph.proofs.UncaughtLevels.{takes_out, gone_from}
use Rattle.flow_graph.proofs.uncaught.+take_held.Goals as goal

pub returns-in_ok-take_held-clause-left : goal.returns-in_ok-take_held-clause-left
returns-in_ok-take_held-clause-left t c =
    let level = c.in-Some.level.now in
    let rest = c.in-Some.rest.now in
    let news = c.take_listed.new.level ∷ c.take_held.new.levels in
    let is : c.args.levels.now ≡ level ∷ rest = c.in-Some.ensures.cases.0 in
    subst (λ (ls : List Level). TakesOut c.args.offset ls news) (sym is)
    (takes_out c.args.offset level c.take_listed.new.level rest c.take_held.new.levels c.in_ok-take_listed.ensures.left c.in_ok-take_held.ensures.left)

pub returns-in_ok-take_held-clause-gone : goal.returns-in_ok-take_held-clause-gone
returns-in_ok-take_held-clause-gone t c = gone_from c.args.offset c.take_listed.new.level c.take_held.new.levels c.in_ok-take_listed.ensures.left.gone c.in_ok-take_held.ensures.gone
