use Rattle.std.proofs.Common.{inl, inr, refl}
use Rattle.jvm_model.specs.declared.reason.Reason.TheVariants as reasons
use Rattle.lowering_reasons.specs.Judgements.{judged}
use Rattle.lowering_reasons.specs.Reasons.{method_constant, reflection, threads}
use Rattle.lowering_reasons.proofs.FirstReasons.{without}
use Rattle.lowering_reasons.proofs.judgement.first_unfollowed.Goals as goal

pub returns-then-uses_method_constant : goal.returns-then-uses_method_constant
returns-then-uses_method_constant c =
    let j = judged c.args.instruction in
    inr (without j reasons.InvokeDynamic c.is_dynamic.result c.is_dynamic.ensures c.if-is_dynamic.false, inl (method_constant refl (c.uses_method_constant.ensures.0 c.if-uses_method_constant.true), refl))

pub returns-then-is_reflective : goal.returns-then-is_reflective
returns-then-is_reflective c =
    let j = judged c.args.instruction in
    inr (without j reasons.InvokeDynamic c.is_dynamic.result c.is_dynamic.ensures c.if-is_dynamic.false, inr (without j reasons.MethodConstant c.uses_method_constant.result c.uses_method_constant.ensures c.if-uses_method_constant.false, inl (reflection refl (c.is_reflective.ensures.0 c.if-is_reflective.true), refl)))

pub returns-then-uses_threads : goal.returns-then-uses_threads
returns-then-uses_threads c =
    let j = judged c.args.instruction in
    inr (without j reasons.InvokeDynamic c.is_dynamic.result c.is_dynamic.ensures c.if-is_dynamic.false, inr (without j reasons.MethodConstant c.uses_method_constant.result c.uses_method_constant.ensures c.if-uses_method_constant.false, inr (without j reasons.Reflection c.is_reflective.result c.is_reflective.ensures c.if-is_reflective.false, inl (threads refl (c.uses_threads.ensures.0 c.if-uses_threads.true), refl))))

pub returns : goal.returns
returns c =
    let j = judged c.args.instruction in
    inr (without j reasons.InvokeDynamic c.is_dynamic.result c.is_dynamic.ensures c.if-is_dynamic.false, inr (without j reasons.MethodConstant c.uses_method_constant.result c.uses_method_constant.ensures c.if-uses_method_constant.false, inr (without j reasons.Reflection c.is_reflective.result c.is_reflective.ensures c.if-is_reflective.false, inr (without j reasons.Threads c.uses_threads.result c.uses_threads.ensures c.if-uses_threads.false, refl))))
