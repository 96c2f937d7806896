use Rattle.std.specs.List.{Contains}
use Rattle.stage_transfer_laws.proofs.Lawful.{lawful}
use Rattle.stage_transfer_laws.proofs.laws.transfers_keep_their_laws_by_lists.Goals as goal

pub returns : goal.returns
returns c = λ x facts w same answers. lawful x (Contains facts) w same answers
