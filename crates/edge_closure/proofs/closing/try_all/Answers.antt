use Rattle.std.proofs.Common.{◌≡◌, ℕ, List, Some, inl, inr, sym, subst, arith}
use Rattle.std.specs.List.{Contains, slice_get}
use Rattle.std.proofs.lemmas.Bool.{cases_lt}
use Rattle.std.proofs.lemmas.Option.{slice_get_within}
use Rattle.list_laws.proofs.Places.{place_of}
use Rattle.ground.specs.Findings.{gives_listed}
use Rattle.stage_transfer.specs.Stages.{transfer_of}
use Rattle.stage_edges.specs.Rules.{Edge}
use Rattle.ground_views.specs.Questions.{GroundInstance, edges_in}
use Rattle.edge_closure.specs.Tried.{IsTried}
use Rattle.edge_closure.proofs.Lists.{all_sound_more, before_at, count_edges, grows_more, grows_none, longer, same_length, still_there, tried_more}
use Rattle.ground_views.proofs.Shapes.{start_edge}
use Rattle.edge_closure.proofs.Closed.{closed_when_tried}
use Rattle.edge_closure.proofs.closing.try_all.Goals as goal

pub returns-in_err-try_edge-clause-sound : goal.returns-in_err-try_edge-clause-sound
returns-in_err-try_edge-clause-sound c =
    all_sound_more c.args.closing.now.question.now (edges_in c.args.edges.now.items) (edges_in c.loop-place.edges.items) (edges_in c.try_edge.new.edges.items)
    c.loop-place.invariant.sound c.try_edge.ensures.sound

pub loop-place-preserved : goal.loop-place-preserved
loop-place-preserved c =
    let q = c.args.closing.now.question.now in
    let first = edges_in c.args.edges.now.items in
    let old = edges_in c.loop-place.edges.items in
    let new = edges_in c.try_edge.new.edges.items in
    let before = c.loop-place.invariant in
    let grows = c.try_edge.ensures.grows in
    let one = count_edges c.loop-place.edges.items in
    let other = count_edges c.try_edge.new.edges.items in
    let more = longer old new grows in
    let count = c.len.ensures in
    let lt = c.loop-place-test.true in
    record {
      grows = grows_more first old new before.grows grows;
      within = omega (arith, one, other, more, count, lt);
      roomy = c.in_ok-try_edge.ensures.roomy;
      sound = all_sound_more q first old new before.sound c.try_edge.ensures.sound;
      tried = λ x w asked k p short at.
          elim (cases_lt k c.loop-place.place) [
            | inl less ↦
                let within = before.within in
                tried_more (GroundInstance q x w) p first first old new (grows_none first) grows
                (before.tried x w asked k p less (before_at old new k p grows (omega (arith, less, within, one)) at))
            | inr last ↦
                let same : k ≡ c.loop-place.place = (omega (arith, last, short)) in
                let now : slice_get new c.loop-place.place ≡ Some p = subst (λ (j : ℕ). slice_get new j ≡ Some p) same at in
                tried_more (GroundInstance q x w) p first old new new before.grows (grows_none new)
                (c.in_ok-try_edge.ensures.tried.each x w p asked (before_at old new c.loop-place.place p grows (omega (arith, lt, count, one)) now))
          ];
    }

pub returns-clause-closed : goal.returns-clause-closed
returns-clause-closed c = λ short. record {
  each = λ x w asked.
      let q = c.args.closing.now.question.now in
      let g = q.ground.now in
      let first = edges_in c.args.edges.now.items in
      let now = edges_in c.loop-place.edges.items in
      let before = c.loop-place.invariant in
      let one = count_edges c.args.edges.now.items in
      let other = count_edges c.loop-place.edges.items in
      let same : now ≡ first = same_length first now before.grows (omega (arith, one, other, short)) in
      let all = c.loop-place-test.false in
      let count = c.len.ensures in
      closed_when_tried x (gives_listed g.methods) (Contains g.facts) (transfer_of w) now (still_there first now start_edge before.grows c.requires.started) (λ p there.
      let place = place_of now p there in
      let within = slice_get_within now place.0 p place.1 in
      subst (λ (edges : List Edge). IsTried (GroundInstance q x w) p edges now) (sym same)
      (before.tried x w asked place.0 p (omega (arith, within, other, all, count)) place.1));
}
