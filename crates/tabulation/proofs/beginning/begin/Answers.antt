use Rattle.std.proofs.Common.{refl, inl, inr}
use Rattle.tabulation_tables.specs.Lists.{lists_of}
use Rattle.tabulation_tables.proofs.Still.{edge_still, grows_more, number_still}
use Rattle.tabulation.proofs.Led.{may_take_begun}
use Rattle.tabulation.proofs.Steps.{call_step, may_begin_still, met_all_still, numbered_step, reached_number, same_edges, step_more}
use Rattle.tabulation.proofs.beginning.begin.Goals as goal

pub take_edge-requires-clause-kept : goal.take_edge-requires-clause-kept
take_edge-requires-clause-kept c =
    (numbered_step c.args.work.question.now (lists_of c.args.tables.now) (lists_of c.number.new.self) c.number.ensures.grows c.number.ensures.adds
    (same_edges (lists_of c.args.tables.now) (lists_of c.number.new.self) c.number.ensures.edges c.number.ensures.reasons) c.requires.kept).kept

pub take_edge-requires-clause-may : goal.take_edge-requires-clause-may
take_edge-requires-clause-may c = may_take_begun c.args.work.question.now (lists_of c.number.new.self) c.args.caller.by c.args.entered.now
    (may_begin_still c.args.work.question.now (lists_of c.args.tables.now) (lists_of c.number.new.self) c.number.ensures.grows c.requires.kept.right.shape c.args.caller.by.0 c.args.entered.now c.requires.may) c.in_ok-begin.begin c.in_ok-begin.ensures.number

pub meet_exits-requires-clause-caller : goal.meet_exits-requires-clause-caller
meet_exits-requires-clause-caller c =
    let first = lists_of c.args.tables.now in
    let one = lists_of c.number.new.self in
    let two = lists_of c.take_edge.new.tables in
    let caller = c.args.caller.end in
    number_still one two c.in_ok-take_edge.ensures.step.grows caller
    (number_still first one c.number.ensures.grows caller (reached_number first c.requires.kept.right.shape c.args.caller.by.0 caller c.requires.caller))

pub returns-clause-step : goal.returns-clause-step
returns-clause-step c =
    let q = c.args.work.question.now in
    let first = lists_of c.args.tables.now in
    let one = lists_of c.number.new.self in
    let two = lists_of c.take_edge.new.tables in
    let three = lists_of c.meet_exits.new.tables in
    let four = lists_of c.call.new.self in
    let begin = c.in_ok-begin.begin in
    let caller = c.args.caller.end in
    let numbered = numbered_step q first one c.number.ensures.grows c.number.ensures.adds (same_edges (lists_of c.args.tables.now) (lists_of c.number.new.self) c.number.ensures.edges c.number.ensures.reasons) c.requires.kept in
    let met = c.in_ok-meet_exits.ensures in
    let called = c.in_ok-call.ensures in
    let grows = grows_more first one three c.number.ensures.grows (grows_more one two three c.in_ok-take_edge.ensures.step.grows met.step.grows) in
    let last =
    call_step q three four called.grows (same_edges three four c.call.ensures.edges c.call.ensures.reasons) met.step.kept begin caller called.adds
    (number_still three four called.grows caller (number_still first three grows caller (reached_number first c.requires.kept.right.shape c.args.caller.by.0 caller c.requires.caller)))
    (λ k there. met_all_still q three four called.grows begin caller k
    (met.met k (elim (called.adds.exits begin k there) [ inl was ↦ was | inr never ↦ absurd never ]))) in
    step_more q first one four numbered (step_more q one two four c.in_ok-take_edge.ensures.step (step_more q two three four met.step last))

pub returns-clause-begun : goal.returns-clause-begun
returns-clause-begun c =
    let one = lists_of c.number.new.self in
    let two = lists_of c.take_edge.new.tables in
    let three = lists_of c.meet_exits.new.tables in
    let four = lists_of c.call.new.self in
    let begin = c.in_ok-begin.begin in
    let late = grows_more two three four c.in_ok-meet_exits.ensures.step.grows c.in_ok-call.ensures.grows in
    record {
      number = begin;
      begin = _;
      begin_at = late.ends begin _ (c.in_ok-take_edge.ensures.step.grows.ends begin _ c.in_ok-begin.ensures.number);
      called = c.in_ok-call.ensures.there;
      there = edge_still two four late begin begin c.in_ok-take_edge.ensures.there;
      is = refl;
    }
