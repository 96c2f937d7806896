use Rattle.points_to_numbers.specs.declared.keys.ConstraintNo.{ConstraintNo}
use Rattle.points_to.proofs.PassedAny.{any_all, any_next, any_none}
use Rattle.points_to.proofs.PassedOn.{still_known}
use Rattle.points_to.proofs.found.Found.pass_all.Goals as goal

abbrev past : ConstraintNo
past = record { 0 = 0 }

pub loop-constraint-init : goal.loop-constraint-init
loop-constraint-init c = any_none c.args.program.now c.args.sites.now c.args.constraints.now c.args.self.now c.requires.answers

pub pass_each-requires-clause-constraint : goal.pass_each-requires-clause-constraint
pass_each-requires-clause-constraint c =
    still_known c.args.program.now c.args.self.now.work.tables c.loop-constraint.self.work.tables c.loop-constraint.invariant.grows _ (c.requires.constraints c.loop-constraint.constraint-index past c.loop-constraint-test.true)

pub pass_each-requires-clause-sites : goal.pass_each-requires-clause-sites
pass_each-requires-clause-sites c k d l = let known = c.requires.sites k d l in (known.0, c.loop-constraint.invariant.grows.sites _ known.0 known.1)

pub loop-constraint-preserved : goal.loop-constraint-preserved
loop-constraint-preserved c =
    let now = c.in_ok-pass_each.ensures in
    any_next c.args.program.now c.args.sites.now c.args.constraints.now c.loop-constraint.constraint-index past c.args.self.now c.loop-constraint.self c.pass_each.new.self c.loop-constraint-test.true
    (c.requires.constraints c.loop-constraint.constraint-index past c.loop-constraint-test.true).numbered c.requires.sites c.loop-constraint.invariant
    (record { grows = now.grows; calls = now.calls; answers = now.answers; adds = now.adds; lacks = now.lacks; method = now.method })

pub returns-clause-adds : goal.returns-clause-adds
returns-clause-adds c =
    (any_all c.args.program.now c.args.sites.now c.args.constraints.now c.loop-constraint.constraint-index c.args.self.now c.loop-constraint.self c.loop-constraint-test.false c.loop-constraint.invariant).adds

pub returns-clause-lacks : goal.returns-clause-lacks
returns-clause-lacks c =
    (any_all c.args.program.now c.args.sites.now c.args.constraints.now c.loop-constraint.constraint-index c.args.self.now c.loop-constraint.self c.loop-constraint-test.false c.loop-constraint.invariant).lacks
