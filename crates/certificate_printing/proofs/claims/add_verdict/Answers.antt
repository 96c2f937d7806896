use Rattle.std.proofs.Common.{sym, subst}
use Rattle.std.proofs.lemmas.Result.{on_ok_weaker}
use Rattle.ground.specs.Added.{AreAdded}
use Rattle.site_report.specs.declared.verdict.Verdict.{Verdict}
use Rattle.certificate_printing.specs.Analysed.{IsSafeLine, IsVerdictLine}
use Rattle.certificate_printing.proofs.claims.add_verdict.Goals as goal

pub returns-in-Safe : goal.returns-in-Safe
returns-in-Safe c =
    let a = c.args.of in
    let t = c.args.site in
    let old = c.args.lines.now.items in
    let new = c.add_safe.new.lines.items in
    on_ok_weaker {P = AreAdded (IsSafeLine a t c.in-Safe.stage) old new} {Q = AreAdded (IsVerdictLine a t c.args.verdict) old new} c.add_safe.result
    (λ added. subst (λ (v : Verdict). AreAdded (IsVerdictLine a t v) old new) (sym c.in-Safe.is) added) c.add_safe.ensures
