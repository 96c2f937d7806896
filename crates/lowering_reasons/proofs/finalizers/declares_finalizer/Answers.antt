use Rattle.program_model.specs.Numbers.{name_at}
use Rattle.lowering_reasons.proofs.Finalizing.{finalizer_parts}
use Rattle.lowering_reasons.proofs.Only.{either_true, either_else}
use Rattle.lowering_reasons.proofs.finalizers.declares_finalizer.Goals as goal

pub returns-then-declares : goal.returns-then-declares
returns-then-declares c = either_true c.declares.result (finalizer_parts c.args.program.now (name_at c.args.program.now c.args.class.0)) c.if-declares.true c.declares.ensures

pub returns : goal.returns
returns c =
    either_else c.declares.result c.declares-2.result (finalizer_parts c.args.program.now (name_at c.args.program.now c.args.class.0)) c.if-declares.false c.declares.ensures
    c.declares-2.ensures
