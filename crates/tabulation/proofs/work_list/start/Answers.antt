use Rattle.std.proofs.lemmas.Result.{on_ok_weaker}
use Rattle.tabulation_tables.specs.Lists.{lists_of}
use Rattle.tabulation.proofs.Started.{empty_kept, may_take_start}
use Rattle.tabulation.proofs.Steps.{numbered_step, on_ok_both, same_edges}
use Rattle.tabulation.proofs.work_list.start.Goals as goal

pub take_edge-requires-clause-kept : goal.take_edge-requires-clause-kept
take_edge-requires-clause-kept c =
    let q = c.args.work.question.now in
    let old = lists_of c.args.tables.now in
    (numbered_step q old (lists_of c.number.new.self) c.number.ensures.grows c.number.ensures.adds (same_edges old (lists_of c.number.new.self) c.number.ensures.edges c.number.ensures.reasons)
    (empty_kept q old c.requires.limit c.requires.empty)).kept

pub take_edge-requires-clause-may : goal.take_edge-requires-clause-may
take_edge-requires-clause-may c = may_take_start c.args.work.question.now (lists_of c.number.new.self) c.in_ok-begin.begin c.in_ok-begin.ensures.number

pub returns-clause-started : goal.returns-clause-started
returns-clause-started c =
    on_ok_weaker c.take_edge.result (λ both.
    record {
      kept = both.0.kept;
      start = record { number = c.in_ok-begin.begin; at = both.0.grows.ends c.in_ok-begin.begin _ c.in_ok-begin.ensures.number; there = both.1 };
    }) (on_ok_both c.take_edge.result _ _ c.take_edge.ensures.step c.take_edge.ensures.there)
