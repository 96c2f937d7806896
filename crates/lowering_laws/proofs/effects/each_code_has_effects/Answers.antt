use Rattle.lowering_laws.proofs.EachEffect.{code_effects}
use Rattle.lowering_laws.proofs.effects.each_code_has_effects.Goals as goal

pub returns : goal.returns
returns c = code_effects
