use Rattle.std.proofs.Common.{◌≡◌, true, Option, sym, subst}
use Rattle.std.specs.List.{slice_get}
use Rattle.std.specs.Prelude.{Some}
use Rattle.std.proofs.lemmas.Result.{IfOk-weaker}
use Rattle.jvm_model.specs.declared.number.SiteNo.{SiteNo}
use Rattle.jvm_model.specs.declared.site.Site.{Site}
use Rattle.machine_bytecode.specs.Objects.{Subject}
use Rattle.site_report.specs.declared.verdict.Verdict.{Verdict}
use Rattle.site_report.specs.Sites.{site_in}
use Rattle.stage_verdicts.specs.LaterVerdicts.{IsSubjectOf, IsTraceText}
use Rattle.report_analysis.specs.Judging.{IsToldBelowBy}
use Rattle.report_analysis.specs.Later.{IsVerdictOf, subject_in}
use Rattle.report_analysis.specs.Numbers.{IsNumberOf}
use Rattle.report_analysis.proofs.StageVerdicts.{unheld_is_pruned}
use Rattle.report_analysis.proofs.Tracing.{left_open, never_unproved, subject_of_own, told_unproved}
use Rattle.report_analysis.proofs.traces.trace_of.Goals as goal

pub error_trace-requires-clause-left : goal.error_trace-requires-clause-left
error_trace-requires-clause-left c = λ x other subject at.
    let a = c.args.asked in
    let t = c.args.known.site in
    let verdict = subst (λ (v : Verdict). IsVerdictOf a t v) c.in-Unproved.is c.requires.known.verdict in
    let stands = subst (λ (o : Option SiteNo). IsNumberOf a.ground.now (site_in a.ground.now.program t) o) c.in-Some.is c.requires.known.number in
    left_open a c.requires.asked c.requires.two t verdict c.in-Some.site stands x other subject at

pub unreachable-requires : goal.unreachable-requires
unreachable-requires c =
    let a = c.args.asked in
    let t = c.args.known.site in
    let s = site_in a.ground.now.program t in
    let verdict = subst (λ (v : Verdict). IsVerdictOf a t v) c.in-Unproved.is c.requires.known.verdict in
    let nowhere = subst (λ (o : Option SiteNo). IsNumberOf a.ground.now s o) c.in-None.is c.requires.known.number in
    let pruned = unheld_is_pruned a.ground.now a.automaton.now c.requires.automaton c.well_formed-in-None.ensures.held s nowhere in
    never_unproved a c.requires.asked c.requires.two t pruned verdict

pub returns-in-Some : goal.returns-in-Some
returns-in-Some c =
    let a = c.args.asked in
    let t = c.args.known.site in
    let s = site_in a.ground.now.program t in
    let stands = subst (λ (o : Option SiteNo). IsNumberOf a.ground.now s o) c.in-Some.is c.requires.known.number in
    IfOk-weaker c.error_trace.result
    (λ text. (x : Subject) (other : Site) → IsSubjectOf a x → slice_get a.ground.now.sites c.in-Some.site.0 ≡ Some other → IsTraceText a x other text.items)
    (IsToldBelowBy a true (t, c.args.known.verdict))
    (λ text told.
    subst (λ (v : Verdict). IsToldBelowBy a true (t, v) text) (sym c.in-Unproved.is)
    (told_unproved a c.requires.asked c.requires.two t text (told (subject_in a) s (subject_of_own a) stands)))
    c.error_trace.ensures
