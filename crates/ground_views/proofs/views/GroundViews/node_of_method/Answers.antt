use Rattle.std.proofs.Common.{◌≡◌, ◌∙◌, length, refl, sym, vec_len, arith}
use Rattle.std.specs.declared.alloc.Global.{Global}
use Rattle.std.specs.declared.vec.Vec.{Vec}
use Rattle.std.proofs.lemmas.Option.{none-some, same_Some}
use Rattle.op_model.specs.declared.lowered.LoweredMethod.{LoweredMethod}
use Rattle.node_ways.specs.declared.ways.NodeWays.{NodeWays}
use Rattle.ground_views.specs.Views.{AreMethodWays, AreNodeWays}
use Rattle.ground_views.proofs.OneForOne.{partner, stands_read, there_is}
use Rattle.ground_views.proofs.Seen.{has_node, place_of_ref, same_offset, seen_in_ground}
use Rattle.ground_views.proofs.views.GroundViews.node_of_method.Goals as goal

pub returns-in_err-at-clause-none : goal.returns-in_err-at-clause-none
returns-in_err-at-clause-none c = rw c.from_residual.ensures (λ x w asked l n stands offset.
    let g = c.args.question.now.ground.now in
    let place = place_of_ref x g c.args.node c.requires.method.0 c.requires.method.1 l n stands offset in
    none-some place.0 (sym c.in_err-at.was ∙ (c.place_of_node.ensures place.0).1 place.1))

pub of-requires : goal.of-requires
of-requires c = has_node c.args.question.now.ground.now c.args.node c.in_ok-at.at ((c.place_of_node.ensures c.in_ok-at.at).0 c.in_ok-at.was)

pub returns-in_err-slots-clause-none : goal.returns-in_err-slots-clause-none
returns-in_err-slots-clause-none c = rw c.from_residual-in_err-slots.ensures (λ x w asked l n stands offset.
    let g = c.args.question.now.ground.now in
    let is = (c.place_of_node.ensures c.in_ok-at.at).0 c.in_ok-at.was in
    let row = partner (λ (l : LoweredMethod) (row : Vec NodeWays Global). AreMethodWays g l row.items) g.methods c.args.self.now.ways.items c.in_ok-at.at.method is.stands.lowered c.requires.views.methods
    is.stands.method_stands in
    let few = row.2.few.few in
    let many = c.in_err-slots.ensures.none is.stands.lowered is.stands.method_stands in
    omega (arith, few, many))

pub index-requires : goal.index-requires
index-requires c =
    let g = c.args.question.now.ground.now in
    let short = there_is (λ (l : LoweredMethod) (row : Vec NodeWays Global). AreMethodWays g l row.items) g.methods c.args.self.now.ways.items c.in_ok-at.at.method c.node.ensures.lowered
    c.requires.views.methods c.node.ensures.method_stands in
    let long : vec_len c.args.self.now.ways ≡ length c.args.self.now.ways.items = omega arith in
    omega (arith, short, long)

pub index-requires-2 : goal.index-requires-2
index-requires-2 c =
    let g = c.args.question.now.ground.now in
    let at = c.in_ok-at.at in
    let l = c.node.ensures.lowered in
    let short = there_is (λ (l : LoweredMethod) (row : Vec NodeWays Global). AreMethodWays g l row.items) g.methods c.args.self.now.ways.items at.method l c.requires.views.methods
    c.node.ensures.method_stands in
    let row = c.requires.views.methods.each at.method l c.index.result.now c.node.ensures.method_stands (stands_read c.args.self.now.ways.items at.method c.index.result.now short c.index.ensures) in
    let within = there_is (AreNodeWays g l) l.nodes c.index.result.now.items at.node c.node.result.now row.nodes c.node.ensures.node_stands in
    let long : vec_len c.index.result.now ≡ length c.index.result.now.items = omega arith in
    omega (arith, within, long)

pub returns-clause-found : goal.returns-clause-found
returns-clause-found c =
    let q = c.args.question.now in
    let g = q.ground.now in
    let at = c.in_ok-at.at in
    let l = c.node.ensures.lowered in
    let n = c.node.result.now in
    let row = c.index.result.now in
    let ways = c.index-2.result.now in
    let short = there_is (λ (l : LoweredMethod) (row : Vec NodeWays Global). AreMethodWays g l row.items) g.methods c.args.self.now.ways.items at.method l c.requires.views.methods
    c.node.ensures.method_stands in
    let rows = c.requires.views.methods.each at.method l row c.node.ensures.method_stands (stands_read c.args.self.now.ways.items at.method row short c.index.ensures) in
    let within = there_is (AreNodeWays g l) l.nodes row.items at.node n rows.nodes c.node.ensures.node_stands in
    let are = rows.nodes.each at.node n ways c.node.ensures.node_stands (stands_read row.items at.node ways within c.index-2.ensures) in
    let is = (c.place_of_node.ensures at).0 c.in_ok-at.was in
    record {
      method = refl;
      offset = same_offset q c.requires.site c.requires.method.0 c.args.node c.requires.method.1 at is (λ other there. sym (same_Some at other (sym c.in_ok-at.was ∙ (c.place_of_node.ensures other).1 there))) c.in_ok-slots.slots c.in_ok-slots.ensures.some n c.node.ensures;
      few = are.few;
      looked_at = λ x w asked.
          seen_in_ground q c.requires.site c.requires.method.0 c.args.node c.requires.method.1 at is
          (λ other there. sym (same_Some at other (sym c.in_ok-at.was ∙ (c.place_of_node.ensures other).1 there))) c.in_ok-slots.slots c.in_ok-slots.ensures.some n c.node.ensures x w asked ways
          (are.each x asked.program);
    }
