use Rattle.std.proofs.Common.{◌<◌, length, ap, arith, sym, ◌∙◌}
use Rattle.std.proofs.lemmas.Bool.{false≢true}
use Rattle.points_to_calls.proofs.CatchChain.{goes_here, goes_later, goes_out}
use Rattle.points_to_calls.proofs.catch_chains.goes_to.Goals as goal

pub returns-then-is_empty : goal.returns-then-is_empty
returns-then-is_empty c = goes_out c.args.program.now c.args.class.now c.args.catch_chain.now.catch_clauses c.args.catch_chain.now.outside (c.is_empty.ensures.0 c.if-is_empty.true)

pub returns-then-takes : goal.returns-then-takes
returns-then-takes c =
    let p = c.args.program.now in let catch_clauses = c.args.catch_chain.now.catch_clauses in let i = c.loop-catch_clause.catch_clause-index in
    let long = ap length c.as_slice-catch_clause-items.ensures in
    let within : i < length catch_clauses = omega (arith, long) in
    c.loop-catch_clause.invariant _ (goes_here p c.args.class.now catch_clauses c.as_slice-catch_clause-items.result.now i _ c.args.catch_chain.now.outside c.as_slice-catch_clause-items.ensures within (c.takes.ensures.0 c.if-takes.true))

pub loop-catch_clause-preserved : goal.loop-catch_clause-preserved
loop-catch_clause-preserved c = λ to later.
    let p = c.args.program.now in let catch_clauses = c.args.catch_chain.now.catch_clauses in let i = c.loop-catch_clause.catch_clause-index in
    let long = ap length c.as_slice-catch_clause-items.ensures in
    let within : i < length catch_clauses = omega (arith, long) in
    c.loop-catch_clause.invariant to (goes_later p c.args.class.now catch_clauses c.as_slice-catch_clause-items.result.now i _ c.args.catch_chain.now.outside to c.as_slice-catch_clause-items.ensures within
    (λ takes. false≢true (sym c.if-takes.false ∙ c.takes.ensures.1 takes)) later)
