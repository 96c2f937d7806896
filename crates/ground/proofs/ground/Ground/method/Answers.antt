use Rattle.std.proofs.Common.{◌≡◌, arith, length, refl, vec_len}
use Rattle.std.proofs.lemmas.Option.{slice_get_read}
use Rattle.ground.proofs.Views.{method_at, method_within}
use Rattle.ground.proofs.ground.Ground.method.Goals as goal

pub index-requires : goal.index-requires
index-requires c =
    let within = method_within c.self.inside.program.now c.self.inside.lists c.args.self.now c.self.view_is c.args.place c.requires in
    let long : vec_len c.self.inside.lists.methods ≡ length c.self.inside.lists.methods.items = omega arith in
    omega (arith, within, long)

pub returns : goal.returns
returns c =
    let within = method_within c.self.inside.program.now c.self.inside.lists c.args.self.now c.self.view_is c.args.place c.requires in
    method_at c.self.inside.program.now c.self.inside.lists c.args.self.now c.self.view_is c.args.place c.index.result.now (slice_get_read c.self.inside.lists.methods.items _ c.args.place c.index.result.now refl within c.index.ensures)
