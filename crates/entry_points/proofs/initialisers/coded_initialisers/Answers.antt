use Rattle.program_model.specs.Numbers.{name_at}
use Rattle.entry_points.proofs.UpwardInitialisers.{all_found}
use Rattle.entry_points.proofs.initialisers.coded_initialisers.Goals as goal

pub returns : goal.returns
returns c =
    let p = c.args.program.now in
    all_found p c.well_formed-2.ensures.program (name_at p c.args.class.0) c.new.result c.new.ensures.items c.fold_upward.result c.fold_upward.ensures
