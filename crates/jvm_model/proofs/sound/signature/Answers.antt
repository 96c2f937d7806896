use Rattle.jvm_model.proofs.SoundUses.{signature_there, answers}
use Rattle.jvm_model.proofs.sound.signature.Goals as goal

pub unwrap-requires : goal.unwrap-requires
unwrap-requires c =
    let there = signature_there c.args.class.now c.args.index c.requires.sound c.requires.kind in
    answers _ c.signature_at.result there.0 _ c.signature_at.ensures (rw c.as_slice.ensures there.1)
