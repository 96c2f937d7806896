use Rattle.jvm_model.proofs.SoundUses.{method_there, answers}
use Rattle.jvm_model.proofs.sound.method.Goals as goal

pub unwrap-requires : goal.unwrap-requires
unwrap-requires c =
    let there = method_there c.args.class.now c.args.index c.requires.sound c.requires.kind in
    answers _ c.method_at.result there.0 _ c.method_at.ensures (rw c.as_slice.ensures there.1)
