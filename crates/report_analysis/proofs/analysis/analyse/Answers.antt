use Rattle.lowering_supply.specs.Supplied.{IsSupplied}
use Rattle.report_analysis.proofs.Analysed.{analysed}
use Rattle.report_analysis.proofs.CallTargets.{targets_in}
use Rattle.report_analysis.proofs.analysis.analyse.Goals as goal

pub ground_of-requires-clause-facts : goal.ground_of-requires-clause-facts
ground_of-requires-clause-facts c =
    let p = c.args.program.now in
    let solved = c.in_ok-solution.ensures.solved in
    let whole = c.supplied_methods_are_whole.ensures p in (
      solved.facts,
      solved.of,
      record { each = targets_in p (IsSupplied p) c.args.entry c.requires.entry whole solved.facts solved.solution.least.least },
    )

pub ground_of-requires-clause-methods : goal.ground_of-requires-clause-methods
ground_of-requires-clause-methods c m there =
    let (runs, given) = c.in_ok-solution.ensures.solved.running.only m there in
    c.supplied_methods_are_whole.ensures c.args.program.now m.method.method.0 m.method given

pub ground_of-requires-clause-names : goal.ground_of-requires-clause-names
ground_of-requires-clause-names c = c.in_ok-solution.ensures.solved.running.named

pub ground_of-requires-clause-apart : goal.ground_of-requires-clause-apart
ground_of-requires-clause-apart c = c.in_ok-solution.ensures.solved.running.apart

pub returns-clause-ground : goal.returns-clause-ground
returns-clause-ground c =
    let p = c.args.program.now in
    let solved = c.in_ok-solution.ensures.solved in
    analysed p (IsSupplied p) c.args.entry c.args.pair_limit solved.facts solved.solution c.in_ok-solution.solution.methods.items solved.running
    (λ number l given. (c.supplied_methods_are_whole.ensures p number l given).number_is)
    c.in_ok-ground.ground (c.in_ok-ground.ensures.facts solved.facts solved.of) c.in_ok-ground.ensures.methods
