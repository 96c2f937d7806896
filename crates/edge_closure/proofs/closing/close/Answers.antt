use Rattle.std.proofs.Common.{arith}
use Rattle.ground_views.specs.Questions.{edges_in}
use Rattle.ground_views.proofs.Shapes.{start_edge}
use Rattle.edge_closure.proofs.Lists.{all_sound_more, count_edges, grows_more, longer, still_there}
use Rattle.edge_closure.proofs.closing.close.Goals as goal

pub loop-before-preserved : goal.loop-before-preserved
loop-before-preserved c =
    let first = edges_in c.args.edges.now.items in
    let old = edges_in c.loop-before.edges.items in
    let new = edges_in c.try_all.new.edges.items in
    let before = c.loop-before.invariant in
    let grows = c.try_all.ensures.grows in
    let one = count_edges c.loop-before.edges.items in
    let other = count_edges c.try_all.new.edges.items in
    let more = longer old new grows in
    let count = c.len-before.ensures in
    record {
      grows = grows_more first old new before.grows grows;
      started = still_there old new start_edge grows before.started;
      before = omega (arith, one, other, more, count);
      roomy = c.in_ok-try_all.ensures.roomy;
      sound = all_sound_more c.args.closing.now.question.now first old new before.sound c.try_all.ensures.sound;
      closed = λ short. c.in_ok-try_all.ensures.closed (omega (arith, short, count));
    }

pub returns-in_err-try_all-clause-sound : goal.returns-in_err-try_all-clause-sound
returns-in_err-try_all-clause-sound c =
    all_sound_more c.args.closing.now.question.now (edges_in c.args.edges.now.items) (edges_in c.loop-before.edges.items) (edges_in c.try_all.new.edges.items)
    c.loop-before.invariant.sound c.try_all.ensures.sound

pub returns-clause-closed : goal.returns-clause-closed
returns-clause-closed c =
    let all = c.loop-before-test.false in
    let count = c.len.ensures in
    c.loop-before.invariant.closed (omega (arith, all, count))
