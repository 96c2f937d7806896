use Rattle.std.specs.Prelude.{option_map}
use Rattle.jvm_model.specs.declared.number.MethodNo.{MethodNo}
use Rattle.lowering_reasons.specs.Judgements.{judged}
use Rattle.lowering_reasons.proofs.Dispatch.{target_special, target_static}
use Rattle.lowering_reasons.proofs.targets.resolved_target.Goals as goal

pub returns-then-is_static_call : goal.returns-then-is_static_call
returns-then-is_static_call c =
    target_static (judged c.args.instruction) c.args.resolved.0 (c.is_static_call.ensures.0 c.if-is_static_call.true) c.requires.matched c.requires.resolved

pub returns-then-is_special_call : goal.returns-then-is_special_call
returns-then-is_special_call c =
    target_special (judged c.args.instruction) (option_map (λ (m : MethodNo). m.0) c.selected.result) (c.is_special_call.ensures.0 c.if-is_special_call.true) c.requires.matched
    c.selected.ensures
