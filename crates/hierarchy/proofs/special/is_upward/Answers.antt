use Rattle.program_model.specs.Numbers.{name_at}
use Rattle.hierarchy.proofs.Hiding.{reached_found}
use Rattle.hierarchy.proofs.special.is_upward.Goals as goal

pub returns : goal.returns
returns c =
    let p = c.args.program.now in
    rw c.is_some.ensures (reached_found p (name_at p c.args.class.0) (name_at p c.args.upper.0) c.first_upward.result c.first_upward.ensures)
