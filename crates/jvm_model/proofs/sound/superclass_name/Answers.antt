use Rattle.std.proofs.Common.{ap, ◌∙◌, List}
use Rattle.jvm_model.specs.declared.pool.PoolEntry.{PoolEntry}
use Rattle.jvm_model.specs.Lookups.{class_name_at}
use Rattle.jvm_model.proofs.SoundUses.{super_grammar, super_none}
use Rattle.jvm_model.proofs.sound.superclass_name.Goals as goal

pub returns-clause-grammar : goal.returns-clause-grammar
returns-clause-grammar c =
    let class = c.args.class.now in
    let answer = c.class_name_at.ensures ∙ ap (λ (pool : List PoolEntry). class_name_at pool class.super_class) c.as_slice.ensures in
    super_grammar _ class c.class_name_at.result c.requires answer

pub returns-clause-none : goal.returns-clause-none
returns-clause-none c =
    let class = c.args.class.now in
    let answer = c.class_name_at.ensures ∙ ap (λ (pool : List PoolEntry). class_name_at pool class.super_class) c.as_slice.ensures in
    super_none _ class c.class_name_at.result c.requires answer
