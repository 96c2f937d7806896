use Rattle.std.proofs.Common.{◌<◌, ◌≤◌, length, arith}
use Rattle.list_laws.proofs.Places.{stands_below}
use Rattle.certificate_ground.specs.Targets.{IsTargetOf}
use Rattle.certificate_ground.proofs.PairTables.{pairs_all, pairs_more, pairs_start}
use Rattle.certificate_ground.proofs.targets.add_method.Goals as goal

pub loop-place-init : goal.loop-place-init
loop-place-init c =
    let known = c.args.known.now in
    record {
      added = pairs_start (IsTargetOf known.program.now known.sites.now known.held.now c.args.method.now.method) c.args.method.now.method.nodes c.args.targets.now.calls.keys
          c.args.targets.now.targets.groups.items;
    }

pub loop-place-preserved : goal.loop-place-preserved
loop-place-preserved c =
    let known = c.args.known.now in
    let nodes = c.args.method.now.method.nodes in
    let k = c.loop-place.place in
    let within : k < length nodes = omega arith in
    let (n, at) = stands_below nodes k within in
    let old = c.args.targets.now in
    let now = c.loop-place.targets in
    let new = c.add_node.new.targets in
    record {
      added = pairs_more (IsTargetOf known.program.now known.sites.now known.held.now c.args.method.now.method) nodes k n at old.calls.keys old.targets.groups.items now.calls.keys
          now.targets.groups.items new.calls.keys new.targets.groups.items c.loop-place.invariant.added (c.in_ok-add_node.ensures n at);
    }

pub returns : goal.returns
returns c =
    let known = c.args.known.now in
    let nodes = c.args.method.now.method.nodes in
    let old = c.args.targets.now in
    let now = c.loop-place.targets in
    let all : length nodes ≤ c.loop-place.place = omega arith in
    pairs_all (IsTargetOf known.program.now known.sites.now known.held.now c.args.method.now.method) nodes c.loop-place.place all old.calls.keys old.targets.groups.items now.calls.keys
    now.targets.groups.items c.loop-place.invariant.added
