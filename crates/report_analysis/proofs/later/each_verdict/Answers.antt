use Rattle.std.proofs.Common.{◌+◌, ◌↔◌, Bool, false, List, Contains, IsTrue, take, sym, arith, subst}
use Rattle.std.specs.List.{AllZip}
use Rattle.std.proofs.lemmas.Option.{get_or_from_slice_get}
use Rattle.std.proofs.lemmas.Slice.Zip.{AllZip-long}
use Rattle.list_laws.proofs.Places.{stands_below}
use Rattle.list_laws.proofs.Zips.{zip_at, zip_more}
use Rattle.ground.specs.Findings.{gives_listed}
use Rattle.prune_stage.specs.Pruning.{IsPruned, IsPruningOf}
use Rattle.site_report.specs.declared.verdict.Verdict.{Verdict}
use Rattle.site_report.specs.Sites.{site_in}
use Rattle.report_analysis.specs.Later.{IsVerdictOf}
use Rattle.report_analysis.proofs.TurnedRound.{number_at, number_below}
use Rattle.report_analysis.proofs.later.each_verdict.Goals as goal

pub bounds-answers-place : goal.bounds-answers-place
bounds-answers-place c =
    let g = c.args.asked.ground.now in
    let long = AllZip-long (IsPruningOf g.program (gives_listed g.methods) (Contains g.facts) c.args.asked.automaton.now) c.args.sites.now c.args.answers.now c.requires.pruned in
    omega (arith, long, c.loop-place-test.true)

pub verdict_at-requires-clause-number : goal.verdict_at-requires-clause-number
verdict_at-requires-clause-number c = number_below c.args.asked.ground.now c.args.sites.now c.args.numbers.now c.requires.numbers c.loop-place.place c.loop-place-test.true

pub loop-place-preserved : goal.loop-place-preserved
loop-place-preserved c =
    let g = c.args.asked.ground.now in
    let sites = c.args.sites.now in
    let answers = c.args.answers.now in
    let i = c.loop-place.place in
    let verdict = c.in_ok-verdict_at.field-0 in
    let (t, at) = stands_below sites i c.loop-place-test.true in
    let (answer, beside, told) = zip_at (IsPruningOf g.program (gives_listed g.methods) (Contains g.facts) c.args.asked.automaton.now) sites answers i t c.requires.pruned at in
    let here = subst (λ (b : Bool). IsTrue b ↔ IsPruned (gives_listed g.methods) (Contains g.facts) c.args.asked.automaton.now (site_in g.program t))
    (sym (get_or_from_slice_get answers i answer false beside)) told in
    let is = c.in_ok-verdict_at.ensures (site_in g.program t) here (number_at g sites c.args.numbers.now c.requires.numbers i t at) in
    let more = zip_more (IsVerdictOf c.args.asked) sites c.loop-place.verdicts.items i t verdict c.loop-place-test.true (sym (get_or_from_slice_get sites i t t at)) c.loop-place.invariant.told is in
    record { told = subst (λ (vs : List Verdict). AllZip (IsVerdictOf c.args.asked) (take (i + 1) sites) vs) (sym {A = List Verdict} c.in_ok-push.ensures.items) more }
