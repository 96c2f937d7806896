use Rattle.std.proofs.lemmas.Result.{on_ok_weaker}
use Rattle.tabulation_tables.specs.Lists.{lists_of}
use Rattle.tabulation.proofs.Led.{may_lead_there}
use Rattle.tabulation.proofs.Steps.{numbered_step, on_ok_both, same_edges, stay_more, step_more}
use Rattle.tabulation.proofs.leading.lead_to_conclusion.Goals as goal

pub lead_to-requires-clause-kept : goal.lead_to-requires-clause-kept
lead_to-requires-clause-kept c =
    (numbered_step c.args.work.question.now (lists_of c.args.tables.now) (lists_of c.number.new.self) c.number.ensures.grows c.number.ensures.adds
    (same_edges (lists_of c.args.tables.now) (lists_of c.number.new.self) c.number.ensures.edges c.number.ensures.reasons) c.requires.kept).kept

pub lead_to-requires-clause-may : goal.lead_to-requires-clause-may
lead_to-requires-clause-may c =
    may_lead_there c.args.work.question.now (lists_of c.args.tables.now) (lists_of c.number.new.self) c.number.ensures.grows c.requires.kept.right.shape c.args.premise c.args.conclusion.now c.requires.of_method
    c.requires.concludes c.in_ok-to.to c.in_ok-to.ensures.number

pub returns-then-is_noted-clause-step : goal.returns-then-is_noted-clause-step
returns-then-is_noted-clause-step c =
    numbered_step c.args.work.question.now (lists_of c.args.tables.now) (lists_of c.number.new.self) c.number.ensures.grows c.number.ensures.adds
    (same_edges (lists_of c.args.tables.now) (lists_of c.number.new.self) c.number.ensures.edges c.number.ensures.reasons) c.requires.kept

pub returns-then-is_noted-clause-leads : goal.returns-then-is_noted-clause-leads
returns-then-is_noted-clause-leads c = record { number = c.in_ok-to.to; at = c.in_ok-to.ensures.number; leads = c.is_noted.ensures c.if-is_noted.true }

pub returns-clause-step : goal.returns-clause-step
returns-clause-step c =
    let q = c.args.work.question.now in
    let first = lists_of c.args.tables.now in
    let mid = lists_of c.number.new.self in
    on_ok_weaker c.lead_to.result (λ step.
    step_more q first mid (lists_of c.lead_to.new.tables)
    (numbered_step q first mid c.number.ensures.grows c.number.ensures.adds (same_edges (lists_of c.args.tables.now) (lists_of c.number.new.self) c.number.ensures.edges c.number.ensures.reasons) c.requires.kept) step) c.lead_to.ensures.step

pub returns-clause-stay : goal.returns-clause-stay
returns-clause-stay c =
    let first = lists_of c.args.tables.now in
    let mid = lists_of c.number.new.self in
    on_ok_weaker c.lead_to.result (λ stay. stay_more first mid (lists_of c.lead_to.new.tables) c.number.ensures.stay.calls stay) c.lead_to.ensures.stay

pub returns-clause-leads : goal.returns-clause-leads
returns-clause-leads c =
    let q = c.args.work.question.now in
    let mid = lists_of c.number.new.self in
    on_ok_weaker c.lead_to.result (λ both.
    record { number = c.in_ok-to.to; at = both.0.grows.ends c.in_ok-to.to _ c.in_ok-to.ensures.number; leads = both.1 })
    (on_ok_both c.lead_to.result _ _ c.lead_to.ensures.step c.lead_to.ensures.leads)
