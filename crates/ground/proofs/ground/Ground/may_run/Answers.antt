use Rattle.points_to_rules.specs.Facts.{may_run}
use Rattle.ground.proofs.ExactKeys.{same_methods, tells_methods}
use Rattle.ground.proofs.KeySets.{is_there}
use Rattle.ground.proofs.Views.{so}
use Rattle.ground.proofs.ground.Ground.may_run.Goals as goal

pub returns : goal.returns
returns c =
    let told = is_there same_methods tells_methods c.self.inside.lists.running.keys c.args.method c.contains.result c.contains.ensures in
    let says = so c.self.inside.program.now c.self.inside.lists c.args.self.now c.self.view_is (may_run c.args.method) in
    (λ holds. says.1 (told.0 holds), λ there. told.1 (says.0 there))
