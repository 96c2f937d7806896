use Rattle.std.proofs.Common.{ap}
use Rattle.std.specs.Prelude.{option_map}
use Rattle.jvm_model.specs.declared.number.MethodNo.{MethodNo}
use Rattle.lowering_reasons.specs.Judgements.{judged}
use Rattle.lowering_reasons.specs.Reasons.{HasTarget}
use Rattle.lowering_reasons.proofs.Dispatch.{lacks_here, lacks_found, target_within}
use Rattle.lowering_reasons.proofs.Only.{only_by, only_here}
use Rattle.lowering_reasons.proofs.targets.lacks_target.Goals as goal

pub is_abstract-requires : goal.is_abstract-requires
is_abstract-requires c =
    let j = judged c.args.instruction in
    let only = only_by (HasTarget j) _ _ (ap (option_map (λ (m : MethodNo). m.0)) c.in-Some.is) c.requires.target in
    target_within j c.in-Some.target.0 (only_here (HasTarget j) c.in-Some.target.0 only)

pub returns-in-Some : goal.returns-in-Some
returns-in-Some c =
    let j = judged c.args.instruction in
    let only = only_by (HasTarget j) _ _ (ap (option_map (λ (m : MethodNo). m.0)) c.in-Some.is) c.requires.target in
    lacks_here j c.in-Some.target.0 c.is_abstract.result only c.is_abstract.ensures

pub returns-in-None : goal.returns-in-None
returns-in-None c =
    let j = judged c.args.instruction in
    let only = only_by (HasTarget j) _ _ (ap (option_map (λ (m : MethodNo). m.0)) c.in-None.is) c.requires.target in
    lacks_found j c.wants_target.result only c.wants_target.ensures
