use Rattle.std.proofs.Common.{sym, ◌∙◌}
use Rattle.jvm_model.proofs.SoundUses.{first_found}
use Rattle.jvm_model.proofs.sound.first_code.Goals as goal

pub returns-then-is_code-clause-first : goal.returns-then-is_code-clause-first
returns-then-is_code-clause-first c =
    first_found c.args.pool.now c.args.attributes.now c.loop-attribute.attribute-index c.attribute-item.result c.loop-attribute-test.true c.attribute-item.is c.loop-attribute.invariant (sym c.is_code.ensures ∙ c.if-is_code.true)
