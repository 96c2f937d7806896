use Rattle.std.proofs.Common.{arith}
use Rattle.tabulation_tables.specs.Lists.{lists_of}
use Rattle.tabulation.proofs.Full.{added_to_limit, limit_reached}
use Rattle.tabulation.proofs.Steps.{taken_processed, taken_right}
use Rattle.tabulation.proofs.taking.take_edge.Goals as goal

pub returns-then-len-work-clause-end : goal.returns-then-len-work-clause-end
returns-then-len-work-clause-end c =
    let q = c.args.work.question.now in
    let old = lists_of c.args.tables.now in
    let new = lists_of c.insert.new.self in
    let count = c.in_ok-insert.ensures.count in
    limit_reached q new
    (taken_right q old new c.in_ok-insert.ensures.grows c.args.edge.begin c.args.edge.end c.in_ok-insert.field-0 c.in_ok-insert.ensures.adds c.args.because
    c.in_ok-insert.ensures.inserted c.in_ok-insert.ensures.reasons c.requires.may c.requires.kept.right)
    c.well_formed-2.ensures.apart c.well_formed-3.ensures.apart
    (added_to_limit c.in_ok-insert.field-0 old new q.limit count c.requires.kept.roomy
    (let long = c.if-len-work.true in let len = c.len.ensures in omega (arith, long, len)))

pub returns-clause-step : goal.returns-clause-step
returns-clause-step c =
    let q = c.args.work.question.now in
    let old = lists_of c.args.tables.now in
    let new = lists_of c.insert.new.self in
    let grows = c.in_ok-insert.ensures.grows in
    let adds = c.in_ok-insert.ensures.adds in
    record {
      kept = record {
        right = taken_right q old new grows c.args.edge.begin c.args.edge.end c.in_ok-insert.field-0 adds c.args.because c.in_ok-insert.ensures.inserted c.in_ok-insert.ensures.reasons c.requires.may
            c.requires.kept.right;
        roomy = let short = c.if-len-work.false in let len = c.len.ensures in omega (arith, short, len);
      };
      grows = grows;
      processed = taken_processed q old new grows c.args.edge.begin c.args.edge.end c.in_ok-insert.field-0 adds;
    }
