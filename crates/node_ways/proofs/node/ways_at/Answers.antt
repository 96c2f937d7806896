use Rattle.std.proofs.Common.{Some, sym, ap, ◌∙◌, subst}
use Rattle.std.specs.List.{slice_get, Contains}
use Rattle.std.proofs.lemmas.Option.{same_Some, slice_get_within}
use Rattle.std.proofs.lemmas.Result.{IfOk-weaker}
use Rattle.list_laws.proofs.Places.{all_at, contains_at}
use Rattle.op_model.specs.declared.lowered.LoweredMethod.{LoweredMethod}
use Rattle.op_model.specs.declared.node.Node.{Node}
use Rattle.points_to_rules.specs.WholeMethods.{NamesNumbers}
use Rattle.node_ways.specs.Ways.{AreWaysOf}
use Rattle.node_ways.proofs.node.ways_at.Goals as goal

pub method-method-requires : goal.method-method-requires
method-method-requires c = slice_get_within c.args.ground.now.methods c.args.at.method c.requires.lowered c.requires.stands

pub ways_of-requires-clause-numbers : goal.ways_of-requires-clause-numbers
ways_of-requires-clause-numbers c =
    let g = c.args.ground.now in
    let at = c.node-node.ensures in
    let whole = c.well_formed-2.ensures.methods at.lowered (contains_at g.methods c.args.at.method at.lowered at.method_stands) in
    all_at (NamesNumbers g.program) at.lowered.nodes c.args.at.node c.node-node.result.now whole.numbers at.node_stands

pub returns : goal.returns
returns c =
    let g = c.args.ground.now in
    IfOk-weaker c.ways_of.result _ _
    (λ ways are x l n same stands node_at.
    let method = same_Some c.method-method.result.now l (sym c.method-method.ensures ∙ stands) in
    let at = c.node-node.ensures in
    let other = same_Some at.lowered l (sym at.method_stands ∙ stands) in
    let node = same_Some c.node-node.result.now n (sym at.node_stands ∙ ap (λ (k : LoweredMethod). slice_get k.nodes c.args.at.node) other ∙ node_at) in
    let here = are x l same (c.thrown_sites-thrown.ensures.sites l stands) in
    subst (λ (k : Node). AreWaysOf x (Contains g.facts) (Some l.method) l k ways) node
    (subst (λ (k : LoweredMethod). AreWaysOf x (Contains g.facts) (Some k.method) l c.node-node.result.now ways) method here))
    c.ways_of.ensures
