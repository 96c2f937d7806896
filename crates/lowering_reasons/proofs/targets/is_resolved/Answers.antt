use Rattle.std.proofs.Common.{Ok, refl}
use Rattle.lowering_reasons.proofs.OtherKinds.{outcome_is}
use Rattle.lowering_reasons.proofs.targets.is_resolved.Goals as goal

pub returns-in-Some-Ok : goal.returns-in-Some-Ok
returns-in-Some-Ok c = (λ _. (c.in-Some-Ok.field-0-0.0, outcome_is c.args.method _ (Ok c.in-Some-Ok.field-0-0) c.in-Some-Ok.is (rw c.in-Some-Ok.is at c.in-Some-Ok.field-0-is)), λ _. refl)
