use Rattle.std.proofs.Common.{Contains}
use Rattle.lowering_supply.specs.Supplied.{IsSupplied}
use Rattle.report_analysis.specs.Stages.{asked_of, subject_of}
use Rattle.typestate_core.proofs.TextLines.{report_cut}
use Rattle.typestate_core.proofs.telling.report_on.Goals as goal

pub returns-clause-told : goal.returns-clause-told
returns-clause-told c =
    let g = c.args.ground.now in
    let r = c.in_ok-text.field-0 in
    let x = subject_of g.program c.args.automaton.now c.args.asked in
    let report = report_cut x (IsSupplied g.program) (Contains g.facts) (asked_of c.args.asked) c.args.asked.trace r.text.items r.all_safe c.in_ok-text.ensures in
    (r.all_safe, report, c.report_status.ensures.value)
