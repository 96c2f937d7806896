use Rattle.std.proofs.Common.{arith}
use Rattle.std.proofs.lemmas.Result.{err_from_is_err_and}
use Rattle.command_words.proofs.request.numbers_of.Goals as goal

pub returns-in_err-stages-clause-fault : goal.returns-in_err-stages-clause-fault
returns-in_err-stages-clause-fault c =
    let p = err_from_is_err_and c.from_residual.result c.from_residual.ensures.1 in
    let h = c.in_err-stages.ensures.fault in
    rw (p.1, p.2, h.0) h.1

pub returns-in_err-depth-clause-fault : goal.returns-in_err-depth-clause-fault
returns-in_err-depth-clause-fault c =
    let p = err_from_is_err_and c.from_residual-in_err-depth.result c.from_residual-in_err-depth.ensures.1 in
    let h = c.in_err-depth.ensures.fault in
    rw (p.1, p.2, h.0) ((c.in_ok-stages.stages, c.in_ok-stages.ensures.found), h.1)

pub returns-in_err-fact_limit-clause-fault : goal.returns-in_err-fact_limit-clause-fault
returns-in_err-fact_limit-clause-fault c =
    let p = err_from_is_err_and c.from_residual-in_err-fact_limit.result c.from_residual-in_err-fact_limit.ensures.1 in
    let h = c.in_err-fact_limit.ensures.fault in
    rw (p.1, p.2, h.0) ((c.in_ok-stages.stages, c.in_ok-stages.ensures.found), (c.in_ok-depth.depth, c.in_ok-depth.ensures.found), h.1)

pub returns-in_err-pair_limit-clause-fault : goal.returns-in_err-pair_limit-clause-fault
returns-in_err-pair_limit-clause-fault c =
    let p = err_from_is_err_and c.from_residual-in_err-pair_limit.result c.from_residual-in_err-pair_limit.ensures.1 in
    let h = c.in_err-pair_limit.ensures.fault in
    rw (p.1, p.2, h.0) (
      (c.in_ok-stages.stages, c.in_ok-stages.ensures.found),
      (c.in_ok-depth.depth, c.in_ok-depth.ensures.found),
      (c.in_ok-fact_limit.fact_limit, c.in_ok-fact_limit.ensures.found),
      h.1,
    )

pub returns-in_err-sample-clause-fault : goal.returns-in_err-sample-clause-fault
returns-in_err-sample-clause-fault c =
    let p = err_from_is_err_and c.from_residual-in_err-sample.result c.from_residual-in_err-sample.ensures.1 in
    let h = c.in_err-sample.ensures.fault in
    rw (p.1, p.2, h.0) (
      (c.in_ok-stages.stages, c.in_ok-stages.ensures.found),
      (c.in_ok-depth.depth, c.in_ok-depth.ensures.found),
      (c.in_ok-fact_limit.fact_limit, c.in_ok-fact_limit.ensures.found),
      (c.in_ok-pair_limit.pair_limit, c.in_ok-pair_limit.ensures.found),
      h.1,
    )

pub returns-clause-found : goal.returns-clause-found
returns-clause-found c = record {
  stages = c.in_ok-stages.ensures.found;
  depth = c.in_ok-depth.ensures.found;
  fact_limit = c.in_ok-fact_limit.ensures.found;
  pair_limit = c.in_ok-pair_limit.ensures.found;
  sample = c.in_ok-sample.ensures.found;
}

pub overflow_cast-result : goal.overflow_cast-result
overflow_cast-result c = omega (arith, c.in_ok-stages.ensures.below)

pub overflow_cast-result-2 : goal.overflow_cast-result-2
overflow_cast-result-2 c = omega (arith, c.in_ok-depth.ensures.below)
