use Rattle.jvm_model.proofs.SoundUses.{member_leads}
use Rattle.jvm_model.proofs.sound.member_signature.Goals as goal

pub text-requires : goal.text-requires
text-requires c = (member_leads c.args.class.now c.args.member.now c.requires.sound c.requires.there).0

pub text-requires-2 : goal.text-requires-2
text-requires-2 c = (member_leads c.args.class.now c.args.member.now c.requires.sound c.requires.there).1
