use Rattle.std.proofs.Common.{◌≡◌, arith, length, refl, vec_len}
use Rattle.std.proofs.lemmas.Option.{slice_get_read}
use Rattle.ground.proofs.NodePlaces.{no_place, nodes_in_order, place_found}
use Rattle.ground.proofs.Views.{method_within}
use Rattle.ground.proofs.ground.Ground.place_in_method.Goals as goal

pub index-requires : goal.index-requires
index-requires c =
    let within = method_within c.self.inside.program.now c.self.inside.lists c.args.self.now c.self.view_is c.args.method c.requires in
    let long : vec_len c.self.inside.lists.methods ≡ length c.self.inside.lists.methods.items = omega arith in
    omega (arith, within, long)

pub place_of-requires : goal.place_of-requires
place_of-requires c =
    let within = method_within c.self.inside.program.now c.self.inside.lists c.args.self.now c.self.view_is c.args.method c.requires in
    let at = slice_get_read c.self.inside.lists.methods.items _ c.args.method c.index.result.now refl within c.index.ensures in
    nodes_in_order c.self.inside.program.now c.self.inside.lists c.args.self.now c.self.view_is c.self.invariant.sound c.args.method c.args.offset c.index.result.now at

pub returns-in-Some : goal.returns-in-Some
returns-in-Some c =
    let within = method_within c.self.inside.program.now c.self.inside.lists c.args.self.now c.self.view_is c.args.method c.requires in
    let at = slice_get_read c.self.inside.lists.methods.items _ c.args.method c.index.result.now refl within c.index.ensures in
    place_found c.self.inside.program.now c.self.inside.lists c.args.self.now c.self.view_is c.self.invariant.sound c.args.method c.args.offset c.index.result.now at c.in-Some.node c.in-Some.ensures.place

pub returns-in-None : goal.returns-in-None
returns-in-None c =
    let within = method_within c.self.inside.program.now c.self.inside.lists c.args.self.now c.self.view_is c.args.method c.requires in
    let at = slice_get_read c.self.inside.lists.methods.items _ c.args.method c.index.result.now refl within c.index.ensures in
    no_place c.self.inside.program.now c.self.inside.lists c.args.self.now c.self.view_is c.self.invariant.sound c.args.method c.args.offset c.index.result.now at c.in-None.ensures.place
