use Rattle.std.proofs.Common.{◌≡◌, ◌++◌, List, map, sym, ap, ◌∙◌, subst}
use Rattle.flow_graph.specs.declared.uncaught.Level.{Level}
use Rattle.flow_graph.specs.declared.uncaught.Range.{Range}
use Rattle.flow_graph.specs.Uncaught.{range_of, HoldsRanges}
use Rattle.flow_graph.proofs.UncaughtLevels.{handlers_held}
use Rattle.flow_graph.proofs.uncaught.UncaughtHandlers.new.Goals as goal

pub returns : goal.returns
returns c =
    let handlers = c.args.handlers.now in
    let levels = c.add_levels.new.levels.items in
    let ranges : c.deref_mut.result.now ≡ map range_of handlers = c.deref_mut.ensures.value ∙ c.in_ok-ranges.ensures in
    let adds = c.in_ok-add_levels.ensures in
    let all : levels ≡ adds.added = adds.new_is ∙ ap (λ (ls : List Level). ls ++ adds.added) c.new-levels.ensures.items in
    handlers_held handlers levels (subst (HoldsRanges (map range_of handlers)) (sym all) (subst (λ (rs : List Range). HoldsRanges rs adds.added) ranges adds.holds))
