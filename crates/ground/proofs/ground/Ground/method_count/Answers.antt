use Rattle.std.proofs.Common.{◌≡◌, ◌∙◌, arith, length, vec_len}
use Rattle.ground.proofs.Views.{method_count}
use Rattle.ground.proofs.ground.Ground.method_count.Goals as goal

pub returns : goal.returns
returns c =
    let long : vec_len c.self.inside.lists.methods ≡ length c.self.inside.lists.methods.items = omega arith in
    c.len.ensures ∙ long ∙ method_count c.self.inside.program.now c.self.inside.lists c.args.self.now c.self.view_is
