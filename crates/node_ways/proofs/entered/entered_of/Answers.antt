use Rattle.std.proofs.Common.{List, [], get_or, sym, subst}
use Rattle.std.proofs.lemmas.Option.{slice_get-get_or}
use Rattle.list_laws.proofs.Places.{contains_at}
use Rattle.jvm_model.specs.declared.number.MethodNo.{MethodNo}
use Rattle.points_to_rules.specs.Calls.{IsOfFile}
use Rattle.node_ways.specs.declared.ways.EnteredMethod.{EnteredMethod}
use Rattle.node_ways.specs.Parts.{AreFound, IsEnteredAs}
use Rattle.node_ways.proofs.Found.{found_all, found_more, found_none}
use Rattle.node_ways.proofs.entered.entered_of.Goals as goal

pub loop-target-init : goal.loop-target-init
loop-target-init c =
    let g = c.args.ground.now in
    let Is = IsEnteredAs g c.args.node.now in
    record { found = subst (λ (found : List EnteredMethod). AreFound Is (IsOfFile g.program) [] found) (sym c.new-entered.ensures.items) (found_none Is (IsOfFile g.program)) }

pub add_entered-requires : goal.add_entered-requires
add_entered-requires c =
    let targets = c.args.targets.now in
    let k = c.loop-target.target-index in
    let t : MethodNo = get_or targets k (record { 0 = 0 }) in
    c.requires t (contains_at targets k t (slice_get-get_or targets k (record { 0 = 0 }) c.loop-target-test.true))

pub loop-target-preserved : goal.loop-target-preserved
loop-target-preserved c =
    let g = c.args.ground.now in
    let targets = c.args.targets.now in
    let k = c.loop-target.target-index in
    let t : MethodNo = get_or targets k (record { 0 = 0 }) in
    record {
      found = found_more (IsEnteredAs g c.args.node.now) (IsOfFile g.program) targets k t (slice_get-get_or targets k (record { 0 = 0 }) c.loop-target-test.true) c.loop-target.entered.items
          c.add_entered.new.entered.items c.loop-target.invariant.found c.in_ok-add_entered.ensures;
    }

pub returns : goal.returns
returns c =
    let g = c.args.ground.now in
    found_all (IsEnteredAs g c.args.node.now) (IsOfFile g.program) c.args.targets.now c.loop-target.target-index c.loop-target-test.false c.loop-target.entered.items c.loop-target.invariant.found
