use Rattle.tabulation_tables.specs.Lists.{lists_of}
use Rattle.tabulation.proofs.Steps.{followed_all_still, same_edges, step_more, visit_step}
use Rattle.tabulation.proofs.processing.visit.Goals as goal

pub returns-clause-step : goal.returns-clause-step
returns-clause-step c =
    let q = c.args.work.question.now in
    let first = lists_of c.args.tables.now in
    let one = lists_of c.follow.new.tables in
    let two = lists_of c.visit.new.self in
    let followed = c.in_ok-follow.ensures in
    let noted = c.in_ok-visit.ensures in
    step_more q first one two followed.step
    (visit_step q one two noted.grows (same_edges one two c.visit.ensures.edges c.visit.ensures.reasons) followed.step.kept c.args.caller.end noted.adds
    (followed_all_still q one two noted.grows c.args.caller.end followed.followed))
