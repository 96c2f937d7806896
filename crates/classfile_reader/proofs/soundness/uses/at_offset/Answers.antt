use Rattle.std.proofs.Common.{option_map, subst}
use Rattle.jvm_model.specs.Soundness.{at_offset}
use Rattle.classfile_reader.specs.FirstPlace.{IsFirstBreach}
use Rattle.classfile_reader.proofs.FirstPlaces.{placed_uses}
use Rattle.classfile_reader.proofs.soundness.uses.at_offset.Goals as goal

pub returns-in-Some : goal.returns-in-Some
returns-in-Some c = λ pool uses first.
    subst (λ reason. IsFirstBreach pool (at_offset c.args.offset uses) (option_map (λ r. (c.args.offset, r)) reason)) c.in-Some.is (placed_uses pool c.args.offset uses c.args.reason first)

pub returns-in-None : goal.returns-in-None
returns-in-None c = λ pool uses first.
    subst (λ reason. IsFirstBreach pool (at_offset c.args.offset uses) (option_map (λ r. (c.args.offset, r)) reason)) c.in-None.is (placed_uses pool c.args.offset uses c.args.reason first)
