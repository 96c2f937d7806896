use Rattle.std.proofs.Common.{sym, ap, ◌∙◌}
use Rattle.std.specs.Option.{option_copied}
use Rattle.ground.proofs.Views.{holder_of_place, place_within}
use Rattle.ground.proofs.ground.Ground.place.Goals as goal

pub unwrap-requires : goal.unwrap-requires
unwrap-requires c = c.get_index.ensures.found.1 (place_within c.self.inside.program.now c.self.inside.lists c.args.self.now c.self.view_is c.args.place.0 c.requires)

pub returns : goal.returns
returns c = λ h at. holder_of_place c.self.inside.program.now c.self.inside.lists c.args.self.now c.self.view_is c.self.invariant.sound c.args.place.0 c.unwrap.result.now h (sym c.get_index.ensures.key ∙ ap option_copied c.unwrap.ensures) at
