use Rattle.std.proofs.Common.{arith, refl}
use Rattle.jvm_model.specs.StubRules.{IsSoundMethod}
use Rattle.stub_file.proofs.Lists.{All-one_more, All-whole}
use Rattle.stub_file.proofs.rules.each_method_is_sound.Goals as goal

pub loop-method-preserved : goal.loop-method-preserved
loop-method-preserved c =
    All-one_more IsSoundMethod c.args.methods.now c.loop-method.method-index c.method-item.result (omega arith) c.method-item.is c.loop-method.invariant
    (c.in_ok-is_sound_method.ensures.0 c.if-not-branch.false)

pub returns : goal.returns
returns c = (λ _. All-whole IsSoundMethod c.args.methods.now c.loop-method.method-index (omega arith) c.loop-method.invariant, λ _. refl)
