use Rattle.std.proofs.Common.{IsTrue}
use Rattle.points_to_rules.specs.Facts.{Fact}
use Rattle.stage_transfer_laws.proofs.Lawful.{lawful}
use Rattle.stage_transfer_laws.proofs.laws.transfers_keep_their_laws.Goals as goal

pub returns : goal.returns
returns c = λ x S w same answers. lawful x (λ (f : Fact). IsTrue (S f)) w same answers
