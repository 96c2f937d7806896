use Rattle.std.proofs.Common.{List, subst}
use Rattle.std.specs.Option.{IfNone}
use Rattle.std.specs.Result.{IfOk}
use Rattle.jvm_model.specs.declared.code.Handler.{Handler}
use Rattle.jvm_model.specs.declared.pool.PoolEntry.{PoolEntry}
use Rattle.lowering_handlers.specs.Entries.{AreKnown}
use Rattle.lowering.proofs.lower.first_missing.Goals as goal

pub returns-clause-none : goal.returns-clause-none
returns-clause-none c =
    let p = c.args.body.program.now in
    subst (λ (pool : List PoolEntry). IfOk c.first_unknown.result (λ place. IfNone place (AreKnown p pool c.args.body.code.now.handlers c.args.steps.now))) c.as_slice-pool.ensures
    (subst (λ (handlers : List Handler). IfOk c.first_unknown.result (λ place. IfNone place (AreKnown p c.as_slice-pool.result.now handlers c.args.steps.now))) c.as_slice-handlers.ensures c.first_unknown.ensures.none)
