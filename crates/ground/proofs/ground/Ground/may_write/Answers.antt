use Rattle.points_to_rules.specs.Facts.{may_write}
use Rattle.ground.specs.declared.lists.FieldWrite.{FieldWrite}
use Rattle.ground.proofs.ExactKeys.{same_writes, tells_writes}
use Rattle.ground.proofs.KeySets.{is_there}
use Rattle.ground.proofs.Views.{so}
use Rattle.ground.proofs.ground.Ground.may_write.Goals as goal

pub returns : goal.returns
returns c =
    let w : FieldWrite = record { method = c.args.method; field = c.args.field } in
    let told = is_there same_writes tells_writes c.self.inside.lists.writes.keys w c.contains.result c.contains.ensures in
    let says = so c.self.inside.program.now c.self.inside.lists c.args.self.now c.self.view_is (may_write c.args.method c.args.field) in
    (λ holds. says.1 (told.0 holds), λ there. told.1 (says.0 there))
