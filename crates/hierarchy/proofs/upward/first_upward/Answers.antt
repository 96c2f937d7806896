use Rattle.std.proofs.Common.{◌≤◌, length, Some, None, arith}
use Rattle.hierarchy.proofs.Chains.{step_at, top_at, room_more, room_none}
use Rattle.hierarchy.proofs.Walks.{walk_here, walk_above, walk_ends}
use Rattle.hierarchy.proofs.upward.first_upward.Goals as goal

pub returns-in-Some : goal.returns-in-Some
returns-in-Some g c =
    let p = c.args.program.now in
    let is = c.well_formed-2.ensures in
    let Answers = g.S.Step.answers c.args.step.now p in
    c.upward.invariant.same (Some c.in-Some.answer) (walk_here p is.program is.ranked Answers c.upward.current.0 c.in-Some.answer c.upward.invariant.room.below c.in-Some.ensures)

pub returns-in_default-super_class : goal.returns-in_default-super_class
returns-in_default-super_class g c =
    let p = c.args.program.now in
    let top = top_at p c.well_formed-2.ensures.program c.upward.current.0 c.super_class.result c.upward.invariant.room.below c.in_default-super_class.is c.super_class.ensures in
    c.upward.invariant.same None (walk_ends p (g.S.Step.answers c.args.step.now p) c.upward.current.0 top c.in_default.ensures)

pub upward-preserved : goal.upward-preserved
upward-preserved g c =
    let p = c.args.program.now in
    let up = c.in-Some-super_class.above in
    let step = step_at p c.well_formed-2.ensures.program c.upward.current.0 up c.super_class.result c.upward.invariant.room.below c.in-Some-super_class.is c.super_class.ensures in
    record {
      room = room_more p c.upward.current.0 up.0 c.upward._passed step c.upward.invariant.room;
      same = λ found above. c.upward.invariant.same found (walk_above p (g.S.Step.answers c.args.step.now p) c.upward.current.0 up.0 found step c.in_default.ensures above);
    }

pub unreachable-requires : goal.unreachable-requires
unreachable-requires g c =
    let p = c.args.program.now in
    let all : length p.classes ≤ c.upward._passed = omega (arith, c.upward-test.false, c.class_count-passed-end.ensures) in
    room_none p c.well_formed-2.ensures.ranked c.upward.current.0 c.upward._passed all c.upward.invariant.room
