use Rattle.program_model.specs.Numbers.{name_at}
use Rattle.lowering_reasons.proofs.Finalizing.{declares_one}
use Rattle.lowering_reasons.proofs.finalizers.declares.Goals as goal

pub returns : goal.returns
returns c =
    let p = c.args.program.now in
    let class = name_at p c.args.class.0 in
    rw c.is_some.ensures (declares_one p (record { name = c.args.name.now; descriptor = c.args.descriptor.now }) class c.declared_method.result c.declared_method.ensures.found
    c.declared_method.ensures.none)
