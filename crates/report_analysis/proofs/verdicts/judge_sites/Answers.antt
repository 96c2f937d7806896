use Rattle.std.proofs.Common.{◌≡◌, ◌∙◌, Bool, List, map, length, sym, ap, subst}
use Rattle.std.specs.List.{AllZip, Contains}
use Rattle.std.specs.Prelude.{zip}
use Rattle.flow_graph.proofs.Effects.{zip_length}
use Rattle.ground.specs.Findings.{gives_listed}
use Rattle.prune_stage.specs.Pruning.{IsPruningOf}
use Rattle.site_report.specs.declared.verdict.Verdict.{Verdict}
use Rattle.report_spec.specs.Verdicts.{IsVerdict}
use Rattle.report_analysis.specs.Judging.{IsToldBelow}
use Rattle.report_analysis.specs.Stages.{asked_of, subject_of}
use Rattle.report_analysis.specs.Written.{FirstSuffices, verdict_of}
use Rattle.report_analysis.proofs.StageVerdicts.{first_verdicts_are}
use Rattle.report_analysis.proofs.Tracing.{none_by_first}
use Rattle.report_analysis.proofs.verdicts.judge_sites.Goals as goal

pub returns-then-first_suffices : goal.returns-then-first_suffices
returns-then-first_suffices c =
    let g = c.args.ground.now in
    let sites = c.args.sites.now in
    let answers = c.in_ok-answers.answers.items in
    let gives = gives_listed g.methods in
    let x = subject_of g.program c.args.automaton.now c.args.asked in
    let w = asked_of c.args.asked in
    let trace = c.args.asked.trace in
    let enough = subst (λ (list : List Bool). FirstSuffices c.args.asked.stages list) c.as_slice.ensures.value (c.first_suffices.ensures c.if-first_suffices.true) in
    let verdicts = c.in_ok-first_verdicts in
    let texts = c.in_ok-empty_lists in
    let same = sym (verdicts.ensures ∙ ap (map verdict_of) c.as_slice-then-first_suffices.ensures.value) in
    let long = zip_length (IsPruningOf g.program gives (Contains g.facts) c.args.automaton.now) sites answers c.in_ok-answers.ensures in
    record {
      verdicts =
          subst (λ (vs : List Verdict). AllZip (IsVerdict x gives (Contains g.facts) w) sites vs) same
          (first_verdicts_are x gives (Contains g.facts) w c.requires.asked.some sites answers enough.each c.in_ok-answers.ensures);
      traces =
          subst (λ (vs : List Verdict). AllZip (IsToldBelow x gives (Contains g.facts) w trace) (zip sites vs) texts.field-0.items) same
          (none_by_first x gives (Contains g.facts) w trace sites answers texts.field-0.items enough.each long (record { long = texts.ensures.count; each = texts.ensures.empty }));
    }
