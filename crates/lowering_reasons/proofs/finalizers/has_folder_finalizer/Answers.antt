use Rattle.program_model.specs.Numbers.{name_at}
use Rattle.lowering_reasons.proofs.Finalizing.{folder_found}
use Rattle.lowering_reasons.proofs.finalizers.has_folder_finalizer.Goals as goal

pub returns : goal.returns
returns c =
    let p = c.args.program.now in
    rw c.is_some.ensures (folder_found p (name_at p c.args.class.0) c.first_upward.result c.first_upward.ensures)
