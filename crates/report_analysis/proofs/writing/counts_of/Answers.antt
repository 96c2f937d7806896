use Rattle.std.proofs.Common.{rules, ◌≡◌, ◌<◌, ◌^◌, ◌∙◌, arith, count_by, length}
use Rattle.report_spec.specs.Reports.{is_limit, is_safe}
use Rattle.report_analysis.proofs.FoundLines.{all_counted}
use Rattle.report_analysis.proofs.writing.counts_of.Goals as goal

pub overflow_sub-result-2 : goal.overflow_sub-result-2
overflow_sub-result-2 c =
    let total = all_counted c.args.verdicts.now in
    omega (arith, total, c.in_ok-all.ensures, c.in_ok-safe.ensures ∙ c.safe_count.ensures, c.in_ok-limit.ensures ∙ c.limit_count.ensures)

pub returns : goal.returns
returns c =
    let verdicts = c.args.verdicts.now in
    let all = c.in_ok-all.all in
    let safe : c.in_ok-safe.safe ≡ count_by is_safe verdicts = c.in_ok-safe.ensures ∙ c.safe_count.ensures in
    let limit : c.in_ok-limit.limit ≡ count_by is_limit verdicts = c.in_ok-limit.ensures ∙ c.limit_count.ensures in
    let total = all_counted verdicts in
    let is_all : all ≡ length verdicts = c.in_ok-all.ensures in
    let fits : all < 2 ^ 32 = search rules in
    record {
      safe = safe;
      unproved = omega (arith, total, is_all, safe, limit);
      limit = limit;
      few = omega (arith, total, is_all, safe, limit, fits);
    }
