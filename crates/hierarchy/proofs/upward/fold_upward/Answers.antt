use Rattle.std.proofs.Common.{◌≤◌, length, arith}
use Rattle.hierarchy.proofs.Chains.{step_at, top_at, room_more, room_none}
use Rattle.hierarchy.proofs.Walks.{fold_above, fold_ends}
use Rattle.hierarchy.proofs.upward.fold_upward.Goals as goal

pub returns-in_default : goal.returns-in_default
returns-in_default g c =
    let p = c.args.program.now in
    let top = top_at p c.well_formed-2.ensures.program c.upward.current.0 c.super_class.result c.upward.invariant.room.below c.in_default.is c.super_class.ensures in
    c.upward.invariant.same c.at-value.result (fold_ends p (g.F.Fold.makes c.args.fold.now p) c.upward.current.0 c.upward.value c.at-value.result top c.at-value.ensures)

pub upward-preserved : goal.upward-preserved
upward-preserved g c =
    let p = c.args.program.now in
    let up = c.in-Some.above in
    let step = step_at p c.well_formed-2.ensures.program c.upward.current.0 up c.super_class.result c.upward.invariant.room.below c.in-Some.is c.super_class.ensures in
    record {
      room = room_more p c.upward.current.0 up.0 c.upward._passed step c.upward.invariant.room;
      same = λ last above. c.upward.invariant.same last
          (fold_above p (g.F.Fold.makes c.args.fold.now p) c.upward.current.0 up.0 c.upward.value c.at-value.result last step c.at-value.ensures above);
    }

pub unreachable-requires : goal.unreachable-requires
unreachable-requires g c =
    let p = c.args.program.now in
    let all : length p.classes ≤ c.upward._passed = omega (arith, c.upward-test.false, c.class_count-passed-end.ensures) in
    room_none p c.well_formed-2.ensures.ranked c.upward.current.0 c.upward._passed all c.upward.invariant.room
