use Rattle.std.proofs.Common.{◌↔◌, ◌∙◌, List, All, IsTrue, subst}
use Rattle.site_report.specs.declared.verdict.Verdict.{Verdict}
use Rattle.report_spec.specs.Reports.{is_safe}
use Rattle.report_analysis.specs.Written.{AreCounts}
use Rattle.report_analysis.proofs.FoundLines.{written_text}
use Rattle.report_analysis.proofs.writing.written.Goals as goal

pub returns : goal.returns
returns c =
    let j = c.args.judged.now in
    let verdicts = j.verdicts.items in
    let text = c.in_ok-text.text.items in
    let summary = c.deref.result.now in
    let same = c.as_slice-verdicts.ensures.value in
    let counts = subst (λ (vs : List Verdict). AreCounts vs c.in_ok-counts.counts) same c.in_ok-counts.ensures in
    record {
      text_is = c.in_ok-extend_from_slice.ensures.items
          ∙ written_text c.args.program.now c.args.sites.now verdicts j.traces.items c.requires.pairs text summary c.in_ok-counts.counts
          c.in_ok-text.ensures counts (c.deref.ensures.value ∙ c.in_ok-summary.ensures);
      safe = subst (λ (vs : List Verdict). IsTrue c.are_all_safe.result ↔ All (λ (v : Verdict). IsTrue (is_safe v)) vs) same c.are_all_safe.ensures;
    }
