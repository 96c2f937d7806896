use Rattle.std.proofs.Common.{List, [], get_or, sym, subst}
use Rattle.std.proofs.lemmas.Option.{slice_get-get_or}
use Rattle.list_laws.proofs.Places.{contains_at}
use Rattle.jvm_model.specs.declared.number.MethodNo.{MethodNo}
use Rattle.node_ways.specs.declared.ways.DescribedTarget.{DescribedTarget}
use Rattle.node_ways.specs.Parts.{AreFound, HasDescription, IsDescribedAs}
use Rattle.node_ways.proofs.Found.{found_all, found_more, found_none}
use Rattle.node_ways.proofs.described.described_of.Goals as goal

pub loop-target-init : goal.loop-target-init
loop-target-init c =
    let p = c.args.ground.now.program in
    let Is = IsDescribedAs p c.args.node.now c.args.call.now in
    record { found = subst (λ (found : List DescribedTarget). AreFound Is (HasDescription p) [] found) (sym c.new-found.ensures.items) (found_none Is (HasDescription p)) }

pub add_described-requires : goal.add_described-requires
add_described-requires c =
    let targets = c.args.targets.now in
    let k = c.loop-target.target-index in
    let t : MethodNo = get_or targets k (record { 0 = 0 }) in
    c.requires t (contains_at targets k t (slice_get-get_or targets k (record { 0 = 0 }) c.loop-target-test.true))

pub loop-target-preserved : goal.loop-target-preserved
loop-target-preserved c =
    let p = c.args.ground.now.program in
    let targets = c.args.targets.now in
    let k = c.loop-target.target-index in
    let t : MethodNo = get_or targets k (record { 0 = 0 }) in
    record {
      found = found_more (IsDescribedAs p c.args.node.now c.args.call.now) (HasDescription p) targets k t (slice_get-get_or targets k (record { 0 = 0 }) c.loop-target-test.true) c.loop-target.found.items
          c.add_described.new.found.items c.loop-target.invariant.found c.in_ok-add_described.ensures;
    }

pub returns : goal.returns
returns c =
    let p = c.args.ground.now.program in
    found_all (IsDescribedAs p c.args.node.now c.args.call.now) (HasDescription p) c.args.targets.now c.loop-target.target-index c.loop-target-test.false c.loop-target.found.items c.loop-target.invariant.found
