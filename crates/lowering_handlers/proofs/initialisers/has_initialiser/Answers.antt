use Rattle.program_model.specs.Numbers.{name_at}
use Rattle.lowering_handlers.proofs.UpwardInitialisers.{initialised}
use Rattle.lowering_handlers.proofs.initialisers.has_initialiser.Goals as goal

pub returns : goal.returns
returns c =
    let p = c.args.program.now in
    rw c.is_some.ensures (initialised p c.well_formed-2.ensures.program (name_at p c.args.class.0) c.first_upward.result c.first_upward.ensures)
