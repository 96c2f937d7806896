use Rattle.std.proofs.Common.{sym}
use Rattle.ground.proofs.Views.{program_is}
use Rattle.ground.proofs.ground.Ground.program.Goals as goal

pub returns : goal.returns
returns c = sym (program_is c.self.inside.program.now c.self.inside.lists c.args.self.now c.self.view_is)
