use Rattle.std.proofs.Common.{ℕ, Option, subst}
use Rattle.std.specs.Option.{IfNone}
use Rattle.program_index.specs.UpwardOrder.{HasNoCycle}
use Rattle.program_index.proofs.Cycles.{upward_from_filled}
use Rattle.program_index.proofs.order.upward_order.Goals as goal

pub returns-in-None-clause-order : goal.returns-in-None-clause-order
returns-in-None-clause-order c =
    let g = c.args.parents.now in
    let acyclic : HasNoCycle g = subst (λ (o : Option ℕ). IfNone o (HasNoCycle g)) c.in-None.is c.in_ok-class.ensures.none in
    rw c.into_vec.ensures.items (upward_from_filled g c.in_ok-order.order c.requires.in_range c.in_ok-order.ensures acyclic c.into_vec.ensures.below)
