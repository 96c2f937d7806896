use Rattle.std.proofs.Common.{◌++◌, ◌∙◌, ◌↔◌, List, [], ◌∷◌, Contains, append_assoc, ap, sym, subst}
use Rattle.std.specs.Prelude.{All, IsTrue}
use Rattle.lowering_supply.specs.Supplied.{IsSupplied}
use Rattle.site_report.specs.declared.verdict.Verdict.{Verdict}
use Rattle.report_spec.specs.Reports.{is_safe}
use Rattle.report_analysis.specs.Stages.{asked_of, subject_of}
use Rattle.report_analysis.proofs.JudgedReport.{judged_report}
use Rattle.certificate_lines.specs.declared.line.Line.{Line}
use Rattle.certificate_lines.specs.declared.line.Line.TheVariants as lines
use Rattle.certificate_printing.specs.Collected.{head_by}
use Rattle.certificate_printing.proofs.certificate.certificate_of.Goals as goal

pub returns : goal.returns
returns c =
    let g = c.args.ground.now in
    let x = subject_of g.program c.args.automaton.now c.args.asked in
    let j = c.in_ok-judged.judged in
    let judged = c.in_ok-judged.ensures in
    let body = c.in_ok-body.body.items in
    let head = head_by c.args.automaton.now c.args.asked.entry c.args.asked.depth in
    let safe = subst (λ (vs : List Verdict). IsTrue c.are_all_safe.result ↔ All (λ (v : Verdict). IsTrue (is_safe v)) vs) c.as_slice.ensures.value c.are_all_safe.ensures in
    record {
      body = body;
      is =
          c.in_ok-push.ensures.items
          ∙ (ap (λ (ls : List Line). ls ++ lines.End ∷ []) (c.in_ok-append.ensures.items ∙ ap (λ (ls : List Line). ls ++ body) c.in_ok-lines.ensures)
          ∙ append_assoc head body (lines.End ∷ []));
      told = c.in_ok-body.ensures.told;
      ascend = c.in_ok-body.ensures.ascend;
      report = judged_report x (IsSupplied g.program) (Contains g.facts) (asked_of c.args.asked) j.sites.items j.verdicts.items judged.tracked judged.verdicts
          c.are_all_safe.result safe;
    }
