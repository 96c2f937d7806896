use Rattle.jvm_model.specs.declared.number.SiteNo.{SiteNo}
use Rattle.points_to.proofs.PassedOn.{passed_all, passed_next, passed_none, still_known}
use Rattle.points_to.proofs.found.Found.pass_each.Goals as goal

abbrev past : SiteNo
past = record { 0 = 0 }

pub loop-site-init : goal.loop-site-init
loop-site-init c = passed_none c.args.program.now (λ (s : SiteNo). c.args.constraint) (λ (s : SiteNo). s) c.args.sites.now c.args.self.now c.requires.answers

pub pass-requires-clause-constraint : goal.pass-requires-clause-constraint
pass-requires-clause-constraint c =
    still_known c.args.program.now c.args.self.now.work.tables c.loop-site.self.work.tables c.loop-site.invariant.grows _ c.requires.constraint

pub pass-requires-clause-site : goal.pass-requires-clause-site
pass-requires-clause-site c = let known = c.requires.sites c.loop-site.site-index past c.loop-site-test.true in (known.0, c.loop-site.invariant.grows.sites _ known.0 known.1)

pub loop-site-preserved : goal.loop-site-preserved
loop-site-preserved c =
    let now = c.in_ok-pass.ensures in
    passed_next c.args.program.now (λ (s : SiteNo). c.args.constraint) (λ (s : SiteNo). s) c.args.sites.now c.loop-site.site-index past c.args.self.now c.loop-site.self c.pass.new.self c.loop-site-test.true c.requires.constraint.numbered (c.requires.sites c.loop-site.site-index past c.loop-site-test.true)
    c.loop-site.invariant (record { grows = now.grows; calls = now.calls; answers = now.answers; adds = now.adds; lacks = now.lacks; method = now.method })

pub returns-clause-adds : goal.returns-clause-adds
returns-clause-adds c =
    (passed_all c.args.program.now (λ (s : SiteNo). c.args.constraint) (λ (s : SiteNo). s) c.args.sites.now c.loop-site.site-index c.args.self.now c.loop-site.self c.loop-site-test.false c.loop-site.invariant).adds

pub returns-clause-lacks : goal.returns-clause-lacks
returns-clause-lacks c =
    (passed_all c.args.program.now (λ (s : SiteNo). c.args.constraint) (λ (s : SiteNo). s) c.args.sites.now c.loop-site.site-index c.args.self.now c.loop-site.self c.loop-site-test.false c.loop-site.invariant).lacks
