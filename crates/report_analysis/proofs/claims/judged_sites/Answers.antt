use Rattle.std.proofs.Common.{ℕ, false, List, Contains, subst}
use Rattle.program_model.specs.Numbers.{name_at}
use Rattle.ground.specs.Findings.{gives_listed}
use Rattle.site_report.specs.declared.tracked_site.TrackedSite.{TrackedSite}
use Rattle.report_spec.specs.Tracked.{AreTracked}
use Rattle.report_analysis.specs.Judging.{AreJudged}
use Rattle.report_analysis.specs.Numbers.{AreNumbers}
use Rattle.report_analysis.specs.Stages.{asked_of, subject_of}
use Rattle.report_analysis.proofs.Reported.{sites_are_known, tracked_in, verdicts_both}
use Rattle.report_analysis.proofs.claims.judged_sites.Goals as goal

pub judge_sites-requires-clause-known : goal.judge_sites-requires-clause-known
judge_sites-requires-clause-known c t there =
    let g = c.args.ground.now in
    let x = subject_of g.program c.args.automaton.now c.args.asked in
    let (limit, analysis) = c.requires.analysis in
    let whole = c.supplied_methods_are_whole.ensures g.program in
    let among = subst (λ (ts : List TrackedSite). Contains ts t) c.as_slice.ensures.value there in
    let known = sites_are_known x limit g analysis whole (name_at g.program c.args.upper.0) c.in_ok-sites.sites.items c.in_ok-sites.ensures t among in
    known.class

pub numbers_of-requires-clause-known : goal.numbers_of-requires-clause-known
numbers_of-requires-clause-known c t there =
    let g = c.args.ground.now in
    let x = subject_of g.program c.args.automaton.now c.args.asked in
    let (limit, analysis) = c.requires.analysis in
    let whole = c.supplied_methods_are_whole.ensures g.program in
    let among = subst (λ (ts : List TrackedSite). Contains ts t) c.as_slice-2.ensures.value there in
    let known = sites_are_known x limit g analysis whole (name_at g.program c.args.upper.0) c.in_ok-sites.sites.items c.in_ok-sites.ensures t among in
    known.class

pub returns : goal.returns
returns c =
    let g = c.args.ground.now in
    let sites = c.in_ok-sites.sites.items in
    let x = subject_of g.program c.args.automaton.now c.args.asked in
    let w = asked_of c.args.asked in
    let (limit, analysis) = c.requires.analysis in
    let whole = c.supplied_methods_are_whole.ensures g.program in
    let gives = gives_listed g.methods in
    let j = c.in_ok-judged.judged in
    let tracked = subst (λ (class : List ℕ). AreTracked g.program gives (Contains g.facts) class sites) c.requires.class c.in_ok-sites.ensures in
    let judged = subst (λ (ts : List TrackedSite). AreJudged x gives (Contains g.facts) w false ts j) c.as_slice.ensures.value c.in_ok-judged.ensures in
    record {
      tracked = tracked_in x limit g analysis whole x.property.class_name sites tracked;
      verdicts = verdicts_both x limit g analysis whole w sites j.verdicts.items judged.verdicts;
      numbers = subst (λ (ts : List TrackedSite). AreNumbers g ts c.in_ok-numbers.numbers.items) c.as_slice-2.ensures.value c.in_ok-numbers.ensures;
    }
