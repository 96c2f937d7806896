use Rattle.edge_checker.proofs.Closed.{answer_first, answer_met, answer_none, whole_least}
use Rattle.edge_checker.proofs.conditions.edge_failure.Goals as goal

pub returns-clause-met : goal.returns-clause-met
returns-clause-met c =
    answer_met c.args.question.now c.args.listed.now c.args.claim c.least-2.result
    (whole_least c.args.question.now c.args.listed.now c.args.claim c.start_failure-start.result c.in_ok-rules.rules c.error_failure-error.result c.least.result c.least-2.result
    c.start_failure-start.ensures c.in_ok-rules.ensures c.error_failure-error.ensures c.least.ensures c.least-2.ensures)

pub returns-clause-none_fails : goal.returns-clause-none_fails
returns-clause-none_fails c =
    answer_none c.args.question.now c.args.listed.now c.args.claim c.least-2.result
    (whole_least c.args.question.now c.args.listed.now c.args.claim c.start_failure-start.result c.in_ok-rules.rules c.error_failure-error.result c.least.result c.least-2.result
    c.start_failure-start.ensures c.in_ok-rules.ensures c.error_failure-error.ensures c.least.ensures c.least-2.ensures)

pub returns-clause-first : goal.returns-clause-first
returns-clause-first c =
    answer_first c.args.question.now c.args.listed.now c.args.claim c.least-2.result
    (whole_least c.args.question.now c.args.listed.now c.args.claim c.start_failure-start.result c.in_ok-rules.rules c.error_failure-error.result c.least.result c.least-2.result
    c.start_failure-start.ensures c.in_ok-rules.ensures c.error_failure-error.ensures c.least.ensures c.least-2.ensures)
