use Rattle.std.proofs.Common.{refl}
use Rattle.site_report.proofs.ReportLines.{line_parts}
use Rattle.site_report.proofs.lines.verdict_line.Goals as goal

pub returns : goal.returns
returns c =
    let parts = line_parts c.args.program.now c.args.site c.args.verdict in
    rw (parts, c.in_ok-push.ensures.items, c.in_ok-push_site.ensures, c.in_ok-push_verdict.ensures, c.new-line.ensures.items) refl
