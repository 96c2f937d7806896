use Rattle.jvm_model.proofs.SoundUses.{found_only, found_wanted, none_unwanted}
use Rattle.jvm_model.proofs.sound.code_of.Goals as goal

pub returns-clause-code : goal.returns-clause-code
returns-clause-code c =
    found_only c.args.class.now c.args.method.now _ _ c.requires.sound c.requires.there c.as_slice.ensures c.as_slice-2.ensures _ c.first_code.result c.first_code.ensures.first

pub returns-clause-wanted : goal.returns-clause-wanted
returns-clause-wanted c =
    found_wanted c.args.class.now c.args.method.now _ _ c.requires.sound c.requires.there c.as_slice.ensures c.as_slice-2.ensures _ c.first_code.result c.first_code.ensures.first

pub returns-clause-none : goal.returns-clause-none
returns-clause-none c =
    none_unwanted c.args.class.now c.args.method.now _ _ c.requires.sound c.requires.there c.as_slice.ensures c.as_slice-2.ensures c.first_code.result c.first_code.ensures.none
