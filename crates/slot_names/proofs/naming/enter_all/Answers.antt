use Rattle.std.proofs.Common.{length, refl, arith}
use Rattle.std.proofs.lemmas.Option.{slice_get_read}
use Rattle.slot_names.proofs.EnteredNodes.{entered_bound}
use Rattle.slot_names.proofs.ReachedNodes.{AreFollowed-more, HasRoots-grows, all_entered, order_of}
use Rattle.slot_names.proofs.naming.enter_all.Goals as goal

pub loop-done-smaller : goal.loop-done-smaller
loop-done-smaller c =
    let naming = c.loop-done.invariant.naming in
    omega (arith, c.len.ensures, naming.number, naming.count, entered_bound c.loop-done.naming.entries.items)

pub follow-requires-clause-entered : goal.follow-requires-clause-entered
follow-requires-clause-entered c =
    let order = c.loop-done.naming.order.items in
    c.loop-done.invariant.naming.entered c.loop-done.done c.index-from.result.now
    (slice_get_read order (length order) c.loop-done.done c.index-from.result.now refl (omega (arith, c.len.ensures)) c.index-from.ensures)

pub loop-done-preserved : goal.loop-done-preserved
loop-done-preserved c =
    let l = c.args.method.now in
    let old = c.loop-done.naming in
    let new = c.follow.new.naming in
    let done = c.loop-done.done in
    let grows = c.in_ok-follow.ensures.grows in
    let turn = slice_get_read old.order.items (length old.order.items) done c.index-from.result.now refl (omega (arith, c.len.ensures)) c.index-from.ensures in
    record {
      naming = c.in_ok-follow.ensures.naming;
      roots = HasRoots-grows l c.args.arrivals.now (length l.nodes) old new grows c.loop-done.invariant.roots;
      followed = AreFollowed-more l c.args.arrivals.now old new done c.index-from.result.now c.loop-done.invariant.followed grows turn c.in_ok-follow.ensures.followed;
    }

pub returns-clause-all : goal.returns-clause-all
returns-clause-all c =
    all_entered c.args.method.now c.args.arrivals.now c.loop-done.naming c.loop-done.done c.requires.reached (record {
      order = order_of c.args.method.now c.requires.reached;
      noted = c.requires.arrivals;
      named = c.loop-done.invariant.naming;
      roots = c.loop-done.invariant.roots;
      followed = c.loop-done.invariant.followed;
      all = omega (arith, c.len.ensures);
    })
