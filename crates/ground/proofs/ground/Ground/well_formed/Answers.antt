use Rattle.ground.proofs.Views.{held_numbered, methods_whole, sites_apart, targets_in}
use Rattle.ground.proofs.ground.Ground.well_formed.Goals as goal

pub returns-clause-methods : goal.returns-clause-methods
returns-clause-methods c = methods_whole c.self.inside.program.now c.self.inside.lists c.args.self.now c.self.view_is c.self.invariant.sound

pub returns-clause-sites : goal.returns-clause-sites
returns-clause-sites c = sites_apart c.self.inside.program.now c.self.inside.lists c.args.self.now c.self.view_is c.self.invariant.sound

pub returns-clause-targets : goal.returns-clause-targets
returns-clause-targets c = targets_in c.self.inside.program.now c.self.inside.lists c.args.self.now c.self.view_is c.self.invariant.sound

pub returns-clause-held : goal.returns-clause-held
returns-clause-held c = held_numbered c.self.inside.program.now c.self.inside.lists c.args.self.now c.self.view_is
