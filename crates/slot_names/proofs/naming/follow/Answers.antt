use Rattle.std.proofs.Common.{◌<◌, length, Some, arith}
use Rattle.std.proofs.lemmas.Option.{slice_get_within}
use Rattle.slot_names.specs.NamedNodes.{IsFollowedAt}
use Rattle.slot_names.proofs.EnteredNodes.{Grows-both}
use Rattle.slot_names.proofs.NotedArrivals.{each_successor, stands_read}
use Rattle.slot_names.proofs.ReachedNodes.{followed_more}
use Rattle.slot_names.proofs.naming.follow.Goals as goal

pub loop-offset-preserved : goal.loop-offset-preserved
loop-offset-preserved c =
    let old = c.loop-offset.naming in
    let new = c.go_on.new.naming in
    let grows = c.in_ok-go_on.ensures.grows in
    record {
      naming = c.in_ok-go_on.ensures.naming;
      grows = Grows-both c.args.naming.now old new c.loop-offset.invariant.grows grows;
      entered = grows.entered c.args.from c.loop-offset.invariant.entered;
      followed = followed_more c.args.method.now c.args.arrivals.now old new c.args.from c.loop-offset.offset-index c.as_slice-offset-items.result.now c.loop-offset-test.true grows
          c.loop-offset.invariant.followed c.in_ok-go_on.ensures.followed;
    }

pub returns-clause-followed : goal.returns-clause-followed
returns-clause-followed c =
    let l = c.args.method.now in
    let n = c.index-as_slice-from.result in
    let entered = c.requires.entered in
    let within : c.args.from < length l.nodes =
    omega (arith, slice_get_within c.args.naming.now.entries.items c.args.from (Some entered.entry) entered.stands, c.requires.naming.count) in
    let stands = stands_read l c.as_slice.result.now c.args.from n c.as_slice.ensures within c.index-as_slice-from.is in
    record {
      each = each_successor l (IsFollowedAt l c.args.arrivals.now c.loop-offset.naming.entries.items c.args.from) c.args.from c.loop-offset.offset-index
          c.as_slice-offset-items.result.now n stands c.as_slice-offset-items.ensures c.loop-offset-test.false c.loop-offset.invariant.followed;
    }
