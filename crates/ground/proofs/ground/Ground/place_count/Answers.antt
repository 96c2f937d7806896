use Rattle.std.proofs.Common.{◌∙◌}
use Rattle.ground.proofs.Views.{place_count}
use Rattle.ground.proofs.ground.Ground.place_count.Goals as goal

pub returns : goal.returns
returns c = c.len.ensures.len ∙ place_count c.self.inside.program.now c.self.inside.lists c.args.self.now c.self.view_is
