use Rattle.jvm_model.proofs.SoundUses.{class_only, this_leads, this_no_array}
use Rattle.jvm_model.proofs.sound.this_class_name.Goals as goal

pub class_name-requires-clause-kind : goal.class_name-requires-clause-kind
class_name-requires-clause-kind c = this_leads c.args.class.now c.requires

pub returns-clause-grammar : goal.returns-clause-grammar
returns-clause-grammar c =
    let name = c.class_name.result.now in
    class_only name c.class_name.ensures.grammar (this_no_array c.args.class.now name c.requires c.class_name.ensures.named)
