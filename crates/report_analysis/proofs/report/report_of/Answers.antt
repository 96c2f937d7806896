use Rattle.std.proofs.Common.{ℕ, List, Contains, length, sym, ap, ◌∙◌, subst}
use Rattle.std.proofs.lemmas.Result.{IfOk-weaker}
use Rattle.lowering_supply.specs.Supplied.{IsSupplied}
use Rattle.jvm_model.specs.Programs.{Program}
use Rattle.program_model.specs.Numbers.{name_at}
use Rattle.ground.specs.Findings.{gives_listed}
use Rattle.site_report.specs.declared.tracked_site.TrackedSite.{TrackedSite}
use Rattle.site_report.specs.Sites.{IsKnownSite}
use Rattle.report_spec.specs.Tracked.{AreTracked}
use Rattle.report_analysis.specs.Judging.{AreJudged}
use Rattle.report_analysis.specs.Stages.{asked_of, subject_of}
use Rattle.report_analysis.specs.Texts.{IsReportText}
use Rattle.report_analysis.specs.Written.{IsWritten}
use Rattle.report_analysis.proofs.Reported.{as_many_traces, as_many_verdicts, reported, sites_are_known}
use Rattle.report_analysis.proofs.report.report_of.Goals as goal

pub judge_sites-requires-clause-known : goal.judge_sites-requires-clause-known
judge_sites-requires-clause-known c t there =
    let g = c.args.ground.now in
    let x = subject_of g.program c.args.automaton.now c.args.asked in
    let (limit, analysis) = c.requires.analysis in
    let whole = c.supplied_methods_are_whole.ensures g.program in
    let among = subst (λ (ts : List TrackedSite). Contains ts t) c.as_slice.ensures.value there in
    let known = sites_are_known x limit g analysis whole (name_at g.program c.args.upper.0) c.in_ok-sites.sites.items c.in_ok-sites.ensures t among in
    known.class

pub written-requires-clause-pairs : goal.written-requires-clause-pairs
written-requires-clause-pairs c =
    let g = c.args.ground.now in
    let x = subject_of g.program c.args.automaton.now c.args.asked in
    let w = asked_of c.args.asked in
    let (limit, analysis) = c.requires.analysis in
    let whole = c.supplied_methods_are_whole.ensures g.program in
    let j = c.in_ok-judged.judged in
    let judged = subst (λ (ts : List TrackedSite). AreJudged x (gives_listed g.methods) (Contains g.facts) w c.args.asked.trace ts j) c.as_slice.ensures.value c.in_ok-judged.ensures in
    as_many_verdicts x limit g analysis whole w c.args.asked.trace c.in_ok-sites.sites.items j judged ∙ ap (length {A = TrackedSite}) (sym c.as_slice-2.ensures.value)

pub written-requires-clause-traces : goal.written-requires-clause-traces
written-requires-clause-traces c =
    let g = c.args.ground.now in
    let x = subject_of g.program c.args.automaton.now c.args.asked in
    let w = asked_of c.args.asked in
    let (limit, analysis) = c.requires.analysis in
    let whole = c.supplied_methods_are_whole.ensures g.program in
    let j = c.in_ok-judged.judged in
    let judged = subst (λ (ts : List TrackedSite). AreJudged x (gives_listed g.methods) (Contains g.facts) w c.args.asked.trace ts j) c.as_slice.ensures.value c.in_ok-judged.ensures in
    as_many_traces x limit g analysis whole w c.args.asked.trace c.in_ok-sites.sites.items j judged ∙ ap (length {A = TrackedSite}) (sym c.as_slice-2.ensures.value)

pub written-requires-clause-known : goal.written-requires-clause-known
written-requires-clause-known c t there =
    let g = c.args.ground.now in
    let x = subject_of g.program c.args.automaton.now c.args.asked in
    let (limit, analysis) = c.requires.analysis in
    let whole = c.supplied_methods_are_whole.ensures g.program in
    let among = subst (λ (ts : List TrackedSite). Contains ts t) c.as_slice-2.ensures.value there in
    let known = sites_are_known x limit g analysis whole (name_at g.program c.args.upper.0) c.in_ok-sites.sites.items c.in_ok-sites.ensures t among in
    subst (λ (p : Program). IsKnownSite p t) (sym c.program.ensures) known

pub returns : goal.returns
returns c =
    let g = c.args.ground.now in
    let sites = c.in_ok-sites.sites.items in
    let x = subject_of g.program c.args.automaton.now c.args.asked in
    let w = asked_of c.args.asked in
    let trace = c.args.asked.trace in
    let (limit, analysis) = c.requires.analysis in
    let whole = c.supplied_methods_are_whole.ensures g.program in
    let gives = gives_listed g.methods in
    let j = c.in_ok-judged.judged in
    let tracked = subst (λ (class : List ℕ). AreTracked g.program gives (Contains g.facts) class sites) c.requires.class c.in_ok-sites.ensures in
    let judged = subst (λ (ts : List TrackedSite). AreJudged x gives (Contains g.facts) w trace ts j) c.as_slice.ensures.value c.in_ok-judged.ensures in
    IfOk-weaker c.written.result (λ r. IsWritten c.program.result.now c.as_slice-2.result.now j.verdicts.items j.traces.items r.text.items r.all_safe)
    (λ r. IsReportText x (IsSupplied g.program) (Contains g.facts) w trace r.text.items r.all_safe)
    (λ r wrote.
    let text = r.text.items in
    let of_program = subst (λ (q : Program). IsWritten q c.as_slice-2.result.now j.verdicts.items j.traces.items text r.all_safe) c.program.ensures wrote in
    let of_sites = subst (λ (ts : List TrackedSite). IsWritten g.program ts j.verdicts.items j.traces.items text r.all_safe) c.as_slice-2.ensures.value of_program in
    reported x limit g analysis whole w trace sites j judged tracked text r.all_safe of_sites)
    c.written.ensures
