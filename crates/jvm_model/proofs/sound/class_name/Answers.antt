use Rattle.std.proofs.Common.{subst}
use Rattle.jvm_model.specs.declared.grammar.Grammar.TheVariants.{ClassOrArray}
use Rattle.jvm_model.specs.Soundness.{IsIn}
use Rattle.jvm_model.proofs.SoundUses.{class_there, answers, answered}
use Rattle.jvm_model.proofs.sound.class_name.Goals as goal

pub unwrap-requires : goal.unwrap-requires
unwrap-requires c =
    let there = class_there c.args.class.now c.args.index c.requires.sound c.requires.kind in
    answers _ c.class_name_at.result there.name _ c.class_name_at.ensures (rw c.as_slice.ensures there.named)

pub returns-clause-grammar : goal.returns-clause-grammar
returns-clause-grammar c =
    let there = class_there c.args.class.now c.args.index c.requires.sound c.requires.kind in
    let is = answered _ c.class_name_at.result c.unwrap.result there.name _ c.class_name_at.ensures c.unwrap.ensures (rw c.as_slice.ensures there.named) in
    subst (IsIn ClassOrArray) is there.grammar
