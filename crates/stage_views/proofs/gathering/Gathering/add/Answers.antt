use Rattle.std.proofs.Common.{◌≡◌, nat_lt, ◌||◌, length, take, ap}
use Rattle.access_paths.specs.declared.cut.Cut.{Cut}
use Rattle.access_paths.specs.Paths.{most_paths, with_path}
use Rattle.stage_views.proofs.Gathered.{gathers_more, or_by_first, or_by_second}
use Rattle.stage_views.proofs.gathering.Gathering.add.Goals as goal
use Rattle.stage_views.proofs.gathering.Gathering.add.Goals.{then-self, else-self}

pub returns : goal.returns
returns c paths before =
    let old = c.args.self.now in
    let x = c.args.path.now in
    let kept : c.add-cut.result.set ≡ take most_paths (with_path x old.set) = ap (λ (cut : Cut). cut.set) c.add-cut.ensures in
    let left : c.add-cut.result.dropped ≡ nat_lt most_paths (length (with_path x old.set)) = ap (λ (cut : Cut). cut.dropped) c.add-cut.ensures in
    let dropped : c.if-self.self ≡ (old.dropped || nat_lt most_paths (length (with_path x old.set))) = elim c.if-self.branch [
      | then-self w ↦ or_by_first old.dropped _ c.if-self.self w.if-self.true cc
      | else-self w ↦ or_by_second old.dropped _ c.if-self.self w.if-self.false cc
    ] in
    gathers_more old _ paths x before kept dropped
