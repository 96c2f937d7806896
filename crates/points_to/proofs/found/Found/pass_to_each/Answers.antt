use Rattle.points_to_numbers.specs.declared.keys.ConstraintNo.{ConstraintNo}
use Rattle.points_to.proofs.PassedOn.{passed_all, passed_next, passed_none, still_known}
use Rattle.points_to.proofs.found.Found.pass_to_each.Goals as goal

abbrev past : ConstraintNo
past = record { 0 = 0 }

pub loop-constraint-init : goal.loop-constraint-init
loop-constraint-init c = passed_none c.args.program.now (λ (u : ConstraintNo). u) (λ (u : ConstraintNo). c.args.site) c.args.constraints.now c.args.self.now c.requires.answers

pub pass-requires-clause-constraint : goal.pass-requires-clause-constraint
pass-requires-clause-constraint c =
    still_known c.args.program.now c.args.self.now.work.tables c.loop-constraint.self.work.tables c.loop-constraint.invariant.grows _ (c.requires.constraints c.loop-constraint.constraint-index past c.loop-constraint-test.true)

pub pass-requires-clause-site : goal.pass-requires-clause-site
pass-requires-clause-site c = let known = c.requires.site in (known.0, c.loop-constraint.invariant.grows.sites _ known.0 known.1)

pub loop-constraint-preserved : goal.loop-constraint-preserved
loop-constraint-preserved c =
    let now = c.in_ok-pass.ensures in
    passed_next c.args.program.now (λ (u : ConstraintNo). u) (λ (u : ConstraintNo). c.args.site) c.args.constraints.now c.loop-constraint.constraint-index past c.args.self.now c.loop-constraint.self c.pass.new.self c.loop-constraint-test.true (c.requires.constraints c.loop-constraint.constraint-index past c.loop-constraint-test.true).numbered c.requires.site
    c.loop-constraint.invariant (record { grows = now.grows; calls = now.calls; answers = now.answers; adds = now.adds; lacks = now.lacks; method = now.method })

pub returns-clause-adds : goal.returns-clause-adds
returns-clause-adds c =
    (passed_all c.args.program.now (λ (u : ConstraintNo). u) (λ (u : ConstraintNo). c.args.site) c.args.constraints.now c.loop-constraint.constraint-index c.args.self.now c.loop-constraint.self c.loop-constraint-test.false c.loop-constraint.invariant).adds

pub returns-clause-lacks : goal.returns-clause-lacks
returns-clause-lacks c =
    (passed_all c.args.program.now (λ (u : ConstraintNo). u) (λ (u : ConstraintNo). c.args.site) c.args.constraints.now c.loop-constraint.constraint-index c.args.self.now c.loop-constraint.self c.loop-constraint-test.false c.loop-constraint.invariant).lacks
