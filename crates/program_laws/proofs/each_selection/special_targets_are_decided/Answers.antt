use Rattle.program_laws.proofs.SpecialTargets.{target_or_none}
use Rattle.program_laws.proofs.each_selection.special_targets_are_decided.Goals as goal

pub returns : goal.returns
returns c = target_or_none
