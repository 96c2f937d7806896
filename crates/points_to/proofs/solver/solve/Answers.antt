use Rattle.std.proofs.Common.{ℕ, None, Result, sym, subst}
use Rattle.std.specs.Result.{IfErr, IfOk}
use Rattle.failure.specs.declared.Failure.{Failure}
use Rattle.jvm_model.specs.declared.reason.Refusal.{Refusal}
use Rattle.op_model.specs.declared.lowered.LoweredMethod.{LoweredMethod}
use Rattle.points_to.specs.declared.solution.Solution.{Solution}
use Rattle.points_to.specs.Queues.{items_of}
use Rattle.points_to_rules.specs.declared.solve_fault.SolveFault.{SolveFault}
use Rattle.points_to.specs.Refusing.{IsNamed, IsRefusing}
use Rattle.points_to.specs.Solutions.{IsSolved}
use Rattle.points_to_rules.specs.Solutions.{IsSolveEnd}
use Rattle.points_to.proofs.Ends.{if_err_and, if_ok_and, refusing_end, solved}
use Rattle.points_to.proofs.NamedRefusals.{call_coded}
use Rattle.points_to.proofs.solver.solve.Goals as goal

pub refuse-requires : goal.refuse-requires
refuse-requires g c =
    let gives : ℕ → Result LoweredMethod Refusal → Type 0 = g.S.Supply.gives c.args.supply.now in
    let closing = c.in_ok-solution.field-0 in
    call_coded c.args.program.now gives c.requires.supply (g.met.S.Supply.one_answer c.args.supply.now) c.args.entry c.args.pair_limit closing.solution.tables (items_of closing.solution.items) closing.refusals.call
    closing.refusals.method closing.solution.methods.items c.in_ok-solution.ensures.closed

pub returns-clause-end : goal.returns-clause-end
returns-clause-end g c =
    let p = c.args.program.now in
    let gives : ℕ → Result LoweredMethod Refusal → Type 0 = g.S.Supply.gives c.args.supply.now in
    let closing = c.in_ok-solution.field-0 in
    let call = closing.refusals.call in
    let method = closing.refusals.method in
    subst (λ (r : Result Solution (Failure SolveFault)). IfErr r (IsSolveEnd p gives c.args.entry c.args.pair_limit)) (sym c.and.ensures)
    (if_err_and c.refuse.result closing.solution (IsRefusing p call method) (IsSolveEnd p gives c.args.entry c.args.pair_limit)
    (refusing_end p gives c.requires.supply (g.met.S.Supply.one_answer c.args.supply.now) c.args.entry c.args.pair_limit closing.solution.tables (items_of closing.solution.items) call method closing.solution.methods.items
    c.in_ok-solution.ensures.closed)
    c.refuse.ensures.end)

pub returns-clause-solved : goal.returns-clause-solved
returns-clause-solved g c =
    let p = c.args.program.now in
    let gives : ℕ → Result LoweredMethod Refusal → Type 0 = g.S.Supply.gives c.args.supply.now in
    let closing = c.in_ok-solution.field-0 in
    let call = closing.refusals.call in
    let method = closing.refusals.method in
    subst (λ (r : Result Solution (Failure SolveFault)). IfOk r (IsSolved p gives c.args.entry c.args.pair_limit)) (sym c.and.ensures)
    (if_ok_and c.refuse.result closing.solution (IsNamed p call method None) (IsSolved p gives c.args.entry c.args.pair_limit) c.refuse.ensures.none
    (solved p gives c.requires.supply (g.met.S.Supply.one_answer c.args.supply.now) c.args.entry c.args.pair_limit closing.solution call method c.in_ok-solution.ensures.closed))
