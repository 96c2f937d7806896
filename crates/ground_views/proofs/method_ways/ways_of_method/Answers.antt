use Rattle.std.proofs.Common.{◌≡◌, ◌≤◌, ◌<◌, ◌+◌, ◌∙◌, List, length, take, sym, subst, arith}
use Rattle.std.proofs.lemmas.Bool.{false≢true}
use Rattle.std.proofs.lemmas.Option.{same_Some}
use Rattle.list_laws.proofs.Places.{contains_at, stands_below}
use Rattle.op_model.specs.declared.lowered.LoweredMethod.{LoweredMethod}
use Rattle.node_ways.specs.declared.ways.NodeWays.{NodeWays}
use Rattle.ground_views.specs.Views.{AreNodeWays, AreOneForOne, HasFewSlots}
use Rattle.ground_views.proofs.OneForOne.{one_all, one_more, one_none}
use Rattle.ground_views.proofs.Seen.{too_many_slots}
use Rattle.ground_views.proofs.method_ways.ways_of_method.Goals as goal

pub returns-then-not-has_few_slots-clause-end : goal.returns-then-not-has_few_slots-clause-end
returns-then-not-has_few_slots-clause-end c =
    too_many_slots c.args.ground.now c.method-method.result.now (contains_at c.args.ground.now.methods c.args.place c.method-method.result.now c.method-method.ensures) (λ few.
    false≢true (sym c.if-not-has_few_slots.true ∙ c.has_few_slots.ensures.1 few))

pub loop-node-init : goal.loop-node-init
loop-node-init c = record { each = λ m at. one_none (AreNodeWays c.args.ground.now m) m.nodes c.new-ways.result.items c.new-ways.ensures.items }

pub loop-node-preserved : goal.loop-node-preserved
loop-node-preserved c = record {
  each = λ m at.
      let g = c.args.ground.now in
      let node = c.loop-node.node in
      let old = c.loop-node.ways.items in
      let test = c.loop-node-test.true in
      let count = c.len-node-end.ensures in
      let same : c.method-method.result.now ≡ m = same_Some c.method-method.result.now m (sym c.method-method.ensures ∙ at) in
      let own : node < length c.method-method.result.now.nodes = omega (arith, test, count) in
      let n = stands_below m.nodes node (subst (λ (o : LoweredMethod). node < length o.nodes) same own) in
      let ways = c.in_ok-ways_of_node.field-0 in
      subst (λ (all : List NodeWays). AreOneForOne (AreNodeWays g m) (take (node + 1) m.nodes) all) (sym {A = List NodeWays} c.in_ok-push.ensures.items)
      (one_more (AreNodeWays g m) m.nodes old node n.0 ways n.1 (c.loop-node.invariant.each m at) (c.in_ok-ways_of_node.ensures.are m n.0 at n.1));
}

pub returns-clause-are : goal.returns-clause-are
returns-clause-are c = λ m at.
    let g = c.args.ground.now in
    let node = c.loop-node.node in
    let test = c.loop-node-test.false in
    let count = c.len-node-end.ensures in
    let same : c.method-method.result.now ≡ m = same_Some c.method-method.result.now m (sym c.method-method.ensures ∙ at) in
    let own : length c.method-method.result.now.nodes ≤ node = omega (arith, test, count) in
    record {
      few = subst (λ (o : LoweredMethod). HasFewSlots o) same (c.has_few_slots.ensures.0 c.if-not-has_few_slots.false);
      nodes = one_all (AreNodeWays g m) m.nodes c.loop-node.ways.items node (subst (λ (o : LoweredMethod). length o.nodes ≤ node) same own) (c.loop-node.invariant.each m at);
    }
