use Rattle.std.proofs.Common.{◌∙◌, sym}
use Rattle.report_analysis.specs.Stages.{asked_of, subject_of}
use Rattle.typestate_core.proofs.Reported.{of_mode, report_told}
use Rattle.typestate_core.proofs.telling.tell.Goals as goal

pub returns-then-is_certificate-clause-told : goal.returns-then-is_certificate-clause-told
returns-then-is_certificate-clause-told c =
    let g = c.args.ground.now in
    of_mode c.certify.result (subject_of g.program c.args.automaton.now c.args.asked) g.facts (asked_of c.args.asked) c.args.mode
    (sym c.is_certificate.ensures ∙ c.if-is_certificate.true) c.certify.ensures.told

pub returns-else-is_certificate-clause-told : goal.returns-else-is_certificate-clause-told
returns-else-is_certificate-clause-told c =
    let g = c.args.ground.now in
    report_told c.report_on.result (subject_of g.program c.args.automaton.now c.args.asked) g.facts (asked_of c.args.asked) c.args.mode c.args.asked.trace c.requires.trace
    (sym c.is_certificate.ensures ∙ c.if-is_certificate.false) c.report_on.ensures.told
