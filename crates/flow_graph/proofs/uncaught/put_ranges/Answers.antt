use Rattle.std.proofs.Common.{◌≡◌, ◌<◌, ℕ, suc, ◌+◌, List, [], ◌∷◌, ◌++◌, length, take, get_or, sym, ◌∙◌, ap, subst, arith}
use Rattle.std.proofs.Math.Seq.{take-suc}
use Rattle.flow_graph.specs.declared.uncaught.Range.{Range}
use Rattle.flow_graph.specs.Uncaught.{IsFirstAlone, IsLastAlone, IsAlone, ListsMore}
use Rattle.flow_graph.proofs.UncaughtLevels.{listed_more, next_whole, next_halved}
use Rattle.flow_graph.proofs.uncaught.put_ranges.Goals as goal

pub loop-range-preserved : goal.loop-range-preserved
loop-range-preserved c =
    let ranges = c.args.ranges.now in
    let now = c.loop-range.ranges in
    let i : ℕ = c.loop-range.range-index in
    let none : Range = record { from = 0; to = 0; target = 0 } in
    let range : Range = get_or ranges i none in
    let level = c.loop-range.level in
    let mid = c.put_first.new.level in
    let new = c.put_last.new.level in
    let lt : i < length ranges = omega arith in
    let next : suc i ≡ i + 1 = omega arith in
    let left = c.loop-range.invariant.left in
    let same : get_or now i none ≡ range = next_whole ranges now i none lt left in
    let more : take i ranges ++ range ∷ [] ≡ take (i + 1) ranges = sym (take-suc ranges i none lt) ∙ ap (λ (n : ℕ). take n ranges) next in
    record {
      put = subst (λ (front : List Range). ListsMore (IsAlone front) c.args.level.now new) more
          (listed_more (take i ranges) range c.args.level.now level mid new c.loop-range.invariant.put
          (subst (λ (r : Range). ListsMore (IsFirstAlone r) level mid) same c.in_ok-put_first.ensures)
          (subst (λ (r : Range). ListsMore (IsLastAlone r) mid new) same c.in_ok-put_last.ensures));
      left = next_halved ranges now i none lt left c.half_of.result c.half_of.ensures;
    }
