use Rattle.std.proofs.Common.{◌∙◌, ap}
use Rattle.failure.specs.declared.Failure.TheVariants.{Cause}
use Rattle.report_analysis.specs.Stages.{asked_of, subject_of}
use Rattle.typestate_core.proofs.Reported.{certified_told, large_told, only_fault}
use Rattle.typestate_core.proofs.telling.certify.Goals as goal

pub returns-in-Ok-clause-told : goal.returns-in-Ok-clause-told
returns-in-Ok-clause-told c = λ mode asked.
    let g = c.args.ground.now in
    let r = c.in_ok-lines.field-0 in
    certified_told (subject_of g.program c.args.automaton.now c.args.asked) g.facts (asked_of c.args.asked) r.lines.items r.all_safe c.in_ok-lines.ensures
    c.as_slice.result.now c.as_slice.ensures.value c.in-Ok.text.items c.in-Ok.ensures.written c.in-Ok.ensures.room c.report_status.result c.report_status.ensures.value
    mode asked

pub returns-in-Err-Cause-TooLarge-clause-told : goal.returns-in-Err-Cause-TooLarge-clause-told
returns-in-Err-Cause-TooLarge-clause-told c =
    let g = c.args.ground.now in
    let r = c.in_ok-lines.field-0 in
    let e = c.in-Err-Cause-TooLarge in
    large_told c.refuse.result (subject_of g.program c.args.automaton.now c.args.asked) g.facts (asked_of c.args.asked) r.lines.items r.all_safe c.in_ok-lines.ensures
    c.as_slice.result.now c.as_slice.ensures.value e.field-0 e.ensures.end (e.field-0-is ∙ ap Cause (only_fault e.field-0-0)) c.refuse.ensures.ok
