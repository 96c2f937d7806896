use Rattle.std.proofs.Common.{◌/◌, ◌≤◌, List, All, sym, subst, rules}
use Rattle.std.proofs.lemmas.Result.{on_ok_weaker}
use Rattle.flow_graph.specs.declared.uncaught.Range.{Range}
use Rattle.flow_graph.specs.Uncaught.{AddsLevels}
use Rattle.flow_graph.proofs.UncaughtLevels.{halves_within, adds_more}
use Rattle.flow_graph.proofs.uncaught.+add_levels.Goals as goal

pub add_levels-requires : goal.add_levels-requires
add_levels-requires t c =
    let width = c.args.width in (
      search rules,
      subst (λ (rs : List Range). All (λ (r : Range). r.to ≤ width / 2) rs) (sym c.in_ok-put_ranges.ensures.left) (halves_within c.args.ranges.now width c.requires),
    )

pub returns : goal.returns
returns t c =
    let ranges = c.args.ranges.now in
    let old = c.args.levels.now.items in
    let mid = c.push.new.self.items in
    let new = c.add_levels.new.levels.items in
    on_ok_weaker c.add_levels.result
    (λ (adds : AddsLevels c.put_ranges.new.ranges mid new).
    adds_more ranges old mid new c.in_ok-level.level c.put_ranges.new.level c.in_ok-level.ensures.none c.in_ok-put_ranges.ensures.put c.in_ok-push.ensures.items
    (subst (λ (rs : List Range). AddsLevels rs mid new) c.in_ok-put_ranges.ensures.left adds)) c.add_levels.ensures
