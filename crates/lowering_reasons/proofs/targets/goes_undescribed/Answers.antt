use Rattle.std.proofs.Common.{ap}
use Rattle.std.specs.Prelude.{option_map}
use Rattle.jvm_model.specs.declared.number.MethodNo.{MethodNo}
use Rattle.lowering_reasons.specs.Judgements.{judged}
use Rattle.lowering_reasons.specs.Reasons.{HasTarget}
use Rattle.jvm_model.specs.Programs.{IsUndescribed}
use Rattle.lowering_reasons.proofs.Dispatch.{target_within}
use Rattle.lowering_reasons.proofs.Only.{none_such, only_by, only_here, refuted, told}
use Rattle.lowering_reasons.proofs.targets.goes_undescribed.Goals as goal

pub is_undescribed-requires : goal.is_undescribed-requires
is_undescribed-requires c =
    let j = judged c.args.instruction in
    let only = only_by (HasTarget j) _ _ (ap (option_map (λ (m : MethodNo). m.0)) c.in-Some.is) c.requires.target in
    target_within j c.in-Some.target.0 (only_here (HasTarget j) c.in-Some.target.0 only)

pub returns-in-Some : goal.returns-in-Some
returns-in-Some c =
    let j = judged c.args.instruction in
    let only = only_by (HasTarget j) _ _ (ap (option_map (λ (m : MethodNo). m.0)) c.in-Some.is) c.requires.target in
    told (HasTarget j) (IsUndescribed j.program) c.in-Some.target.0 c.is_undescribed.result only c.is_undescribed.ensures

pub returns-in-None : goal.returns-in-None
returns-in-None c =
    let j = judged c.args.instruction in
    let only = only_by (HasTarget j) _ _ (ap (option_map (λ (m : MethodNo). m.0)) c.in-None.is) c.requires.target in
    refuted (λ such. none_such (HasTarget j) only such.one such.first)
