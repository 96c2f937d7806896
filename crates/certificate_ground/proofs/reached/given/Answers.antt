use Rattle.std.proofs.Common.{ℕ, Ok, Err, Result}
use Rattle.jvm_model.specs.declared.reason.Refusal.{Refusal}
use Rattle.op_model.specs.declared.lowered.LoweredMethod.{LoweredMethod}
use Rattle.certificate_ground.proofs.GivenMethods.{given_one, refused_none}
use Rattle.certificate_ground.proofs.reached.given.Goals as goal

pub returns-then-not-is_coded-clause-given : goal.returns-then-not-is_coded-clause-given
returns-then-not-is_coded-clause-given g c = λ l given.
    let coded = c.is_coded.ensures.1 (c.requires.supply.coded c.args.method.0 (Ok l) given) in
    let not = c.if-not-is_coded.true in cc

pub returns-in-Ok-clause-given : goal.returns-in-Ok-clause-given
returns-in-Ok-clause-given g c =
    let gives : ℕ → Result LoweredMethod Refusal → Type 0 = g.S.Supply.gives c.args.supply.now in
    given_one gives (g.met.S.Supply.one_answer c.args.supply.now) c.args.method c.in-Ok.lowered c.in-Ok.ensures.found

pub returns-in-Err-Cause-clause-given : goal.returns-in-Err-Cause-clause-given
returns-in-Err-Cause-clause-given g c =
    let gives : ℕ → Result LoweredMethod Refusal → Type 0 = g.S.Supply.gives c.args.supply.now in
    let refused : gives c.args.method.0 (Err c.in-Err-Cause.field-0-0) = rw c.in-Err-Cause.field-0-is at c.in-Err-Cause.ensures.failed in
    refused_none gives (g.met.S.Supply.one_answer c.args.supply.now) c.args.method c.in-Err-Cause.field-0-0 refused
