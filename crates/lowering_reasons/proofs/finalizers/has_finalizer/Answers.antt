use Rattle.lowering_reasons.proofs.Finalizing.{finalizer_either}
use Rattle.lowering_reasons.proofs.Only.{either_true, either_else}
use Rattle.lowering_reasons.proofs.finalizers.has_finalizer.Goals as goal

pub returns-then-declares_finalizer : goal.returns-then-declares_finalizer
returns-then-declares_finalizer c =
    let is = c.well_formed-2.ensures in
    either_true c.declares_finalizer.result (finalizer_either c.args.program.now is.program is.ranked c.args.class.0 c.requires) c.if-declares_finalizer.true
    c.declares_finalizer.ensures

pub returns : goal.returns
returns c =
    let is = c.well_formed-2.ensures in
    either_else c.declares_finalizer.result c.has_folder_finalizer.result (finalizer_either c.args.program.now is.program is.ranked c.args.class.0 c.requires)
    c.if-declares_finalizer.false c.declares_finalizer.ensures c.has_folder_finalizer.ensures
