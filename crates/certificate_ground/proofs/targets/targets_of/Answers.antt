use Rattle.std.proofs.Common.{length, refl}
use Rattle.std.proofs.lemmas.Option.{slice_get_read}
use Rattle.list_laws.proofs.Places.{contains_at}
use Rattle.points_to_rules.specs.Rules.{start_call}
use Rattle.certificate_ground.specs.Lists.{IsTarget}
use Rattle.certificate_ground.specs.Pairs.{IsJust, OfSome}
use Rattle.certificate_ground.specs.Targets.{IsTargetIn}
use Rattle.certificate_ground.proofs.PairTables.{pairs_all, pairs_alone, pairs_both, pairs_more, pairs_start}
use Rattle.certificate_ground.proofs.targets.targets_of.Goals as goal

pub loop-method-init : goal.loop-method-init
loop-method-init c =
    let known = c.args.known.now in
    record { added = pairs_start (IsTargetIn known.program.now known.sites.now known.held.now) c.args.methods.now _ _ }

pub add_method-requires-clause-whole : goal.add_method-requires-clause-whole
add_method-requires-clause-whole c =
    let methods = c.args.methods.now in
    let k = c.loop-method.method-index in
    let at = slice_get_read methods (length methods) k c.method-item.result refl c.loop-method-test.true c.method-item.is in
    c.requires.whole c.method-item.result (contains_at methods k c.method-item.result at)

pub add_method-requires-clause-names : goal.add_method-requires-clause-names
add_method-requires-clause-names c =
    let methods = c.args.methods.now in
    let k = c.loop-method.method-index in
    let at = slice_get_read methods (length methods) k c.method-item.result refl c.loop-method-test.true c.method-item.is in
    c.requires.names c.method-item.result (contains_at methods k c.method-item.result at)

pub loop-method-preserved : goal.loop-method-preserved
loop-method-preserved c =
    let known = c.args.known.now in
    let methods = c.args.methods.now in
    let k = c.loop-method.method-index in
    let at = slice_get_read methods (length methods) k c.method-item.result refl c.loop-method-test.true c.method-item.is in
    let start = c.add_target.new.targets in
    let now = c.loop-method.targets in
    let new = c.add_method.new.targets in
    record {
      added = pairs_more (IsTargetIn known.program.now known.sites.now known.held.now) methods k c.method-item.result at start.calls.keys start.targets.groups.items now.calls.keys
          now.targets.groups.items new.calls.keys new.targets.groups.items c.loop-method.invariant.added c.in_ok-add_method.ensures;
    }

pub returns : goal.returns
returns c =
    let known = c.args.known.now in
    let methods = c.args.methods.now in
    let start = c.add_target.new.targets in
    let now = c.loop-method.targets in
    let R = IsTargetIn known.program.now known.sites.now known.held.now in
    pairs_alone (IsTarget known.program.now known.sites.now known.held.now c.args.entry methods) now.calls.keys now.targets.groups.items c.new.result.keys c.new.ensures.empty c.new-2.result.groups.items c.new-2.ensures
    (pairs_both (IsJust start_call c.args.entry) (OfSome R methods) c.new.result.keys c.new-2.result.groups.items start.calls.keys start.targets.groups.items now.calls.keys now.targets.groups.items
    c.in_ok-add_target.ensures
    (pairs_all R methods c.loop-method.method-index c.loop-method-test.false start.calls.keys start.targets.groups.items now.calls.keys now.targets.groups.items
    c.loop-method.invariant.added))
