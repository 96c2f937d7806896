use Rattle.std.proofs.Common.{inl, inr}
use Rattle.tabulation_tables.specs.Lists.{lists_of}
use Rattle.tabulation_tables.proofs.Still.{begun_by_still}
use Rattle.tabulation.proofs.Steps.{exit_step, met_all_still, same_edges, step_more}
use Rattle.tabulation.proofs.processing.leave.Goals as goal

pub returns-clause-step : goal.returns-clause-step
returns-clause-step c =
    let q = c.args.work.question.now in
    let first = lists_of c.args.tables.now in
    let one = lists_of c.meet_callers.new.tables in
    let two = lists_of c.exit.new.self in
    let b = c.args.begin in
    let k = c.args.exit.0 in
    let met = c.in_ok-meet_callers.ensures in
    let noted = c.in_ok-exit.ensures in
    step_more q first one two met.step
    (exit_step q one two noted.grows (same_edges one two c.exit.ensures.edges c.exit.ensures.reasons) met.step.kept b k noted.adds
    (begun_by_still one two noted.grows b k (begun_by_still first one met.step.grows b k c.requires.there))
    (λ d there. met_all_still q one two noted.grows b d k (met.met d (elim (noted.adds.callers b d there) [ inl was ↦ was | inr never ↦ absurd never ]))))
