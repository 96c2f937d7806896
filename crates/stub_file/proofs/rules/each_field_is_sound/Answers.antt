use Rattle.std.proofs.Common.{arith, refl}
use Rattle.jvm_model.specs.StubRules.{IsSoundField}
use Rattle.stub_file.proofs.Lists.{All-one_more, All-whole}
use Rattle.stub_file.proofs.rules.each_field_is_sound.Goals as goal

pub loop-field-preserved : goal.loop-field-preserved
loop-field-preserved c =
    All-one_more IsSoundField c.args.fields.now c.loop-field.field-index c.field-item.result (omega arith) c.field-item.is c.loop-field.invariant
    (c.in_ok-is_sound_field.ensures.0 c.if-not-branch.false)

pub returns : goal.returns
returns c = (λ _. All-whole IsSoundField c.args.fields.now c.loop-field.field-index (omega arith) c.loop-field.invariant, λ _. refl)
