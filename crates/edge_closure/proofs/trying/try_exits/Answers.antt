use Rattle.std.proofs.Common.{◌≡◌, inl, inr, ℕ, Some, subst, arith}
use Rattle.std.specs.List.{slice_get}
use Rattle.std.proofs.lemmas.Bool.{cases_lt}
use Rattle.std.proofs.lemmas.Option.{slice_get_within}
use Rattle.list_laws.proofs.Places.{place_of}
use Rattle.ground_views.specs.Questions.{GroundInstance, edges_in}
use Rattle.edge_closure.proofs.Lists.{all_sound_more, all_sound_none, count_edges, grows_more, grows_none, longer, still_at, still_below, still_seen, tried_with_more}
use Rattle.edge_closure.proofs.trying.try_exits.Goals as goal

pub loop-other-init : goal.loop-other-init
loop-other-init c = record {
  grows = grows_none (edges_in c.args.edges.now.items);
  there = c.requires.there;
  longer = omega arith;
  roomy = c.requires.roomy;
  sound = all_sound_none c.args.closing.now.question.now (edges_in c.args.edges.now.items);
  tried = λ x w p q asked at k short there. absurd (omega (arith, short));
}

pub try_exit-requires-clause-there : goal.try_exit-requires-clause-there
try_exit-requires-clause-there c = c.loop-other.invariant.there

pub try_exit-requires-clause-beside : goal.try_exit-requires-clause-beside
try_exit-requires-clause-beside c =
    let short = c.loop-other-test.true in
    let count = c.len-count.ensures in
    let long = c.loop-other.invariant.longer in
    omega (arith, short, count, long)

pub try_exit-requires-clause-roomy : goal.try_exit-requires-clause-roomy
try_exit-requires-clause-roomy c = c.loop-other.invariant.roomy

pub try_exit-requires-clause-seen : goal.try_exit-requires-clause-seen
try_exit-requires-clause-seen c =
    let size = count_edges c.args.edges.now.items in
    let there = c.requires.there in
    still_seen c.args.closing.now.question.now c.args.seen.now c.args.place (edges_in c.args.edges.now.items) (edges_in c.loop-other.edges.items) c.loop-other.invariant.grows
    (omega (arith, size, there)) c.requires.seen

pub returns-in_err-try_exit-clause-grows : goal.returns-in_err-try_exit-clause-grows
returns-in_err-try_exit-clause-grows c =
    grows_more (edges_in c.args.edges.now.items) (edges_in c.loop-other.edges.items) (edges_in c.try_exit.new.edges.items) c.loop-other.invariant.grows c.try_exit.ensures.grows

pub returns-in_err-try_exit-clause-sound : goal.returns-in_err-try_exit-clause-sound
returns-in_err-try_exit-clause-sound c =
    all_sound_more c.args.closing.now.question.now (edges_in c.args.edges.now.items) (edges_in c.loop-other.edges.items) (edges_in c.try_exit.new.edges.items)
    c.loop-other.invariant.sound c.try_exit.ensures.sound

pub loop-other-preserved : goal.loop-other-preserved
loop-other-preserved c =
    let q = c.args.closing.now.question.now in
    let first = edges_in c.args.edges.now.items in
    let old = edges_in c.loop-other.edges.items in
    let new = edges_in c.try_exit.new.edges.items in
    let before = c.loop-other.invariant in
    let grows = c.try_exit.ensures.grows in
    record {
      grows = grows_more first old new before.grows grows;
      there = still_below c.loop-other.edges.items c.try_exit.new.edges.items c.args.place grows before.there;
      longer =
          let more = longer old new grows in
          let one = count_edges c.loop-other.edges.items in
          let other = count_edges c.try_exit.new.edges.items in
          let long = before.longer in
          omega (arith, more, one, other, long);
      roomy = c.in_ok-try_exit.ensures.roomy;
      sound = all_sound_more q first old new before.sound c.try_exit.ensures.sound;
      tried = λ x w p r asked at k short there.
          elim (cases_lt k c.loop-other.other) [
            | inl less ↦ tried_with_more (GroundInstance q x w) p r old new grows (before.tried x w p r asked at k less there)
            | inr last ↦
                let same : k ≡ c.loop-other.other = (omega (arith, last, short)) in
                c.in_ok-try_exit.ensures.tried.each x w p r asked (still_at first old c.args.place p before.grows at)
                (still_at first old c.loop-other.other r before.grows (subst (λ (j : ℕ). slice_get first j ≡ Some r) same there))
          ];
    }

pub returns-clause-grows : goal.returns-clause-grows
returns-clause-grows c = c.loop-other.invariant.grows

pub returns-clause-sound : goal.returns-clause-sound
returns-clause-sound c = c.loop-other.invariant.sound

pub returns-clause-tried : goal.returns-clause-tried
returns-clause-tried c = record {
  each = λ x w p r asked at there.
      let place = place_of (edges_in c.args.edges.now.items) r there in
      let short = slice_get_within (edges_in c.args.edges.now.items) place.0 r place.1 in
      let all = c.loop-other-test.false in
      let count = c.len-count.ensures in
      let size = count_edges c.args.edges.now.items in
      c.loop-other.invariant.tried x w p r asked at place.0 (omega (arith, short, all, count, size)) place.1;
}

pub returns-clause-roomy : goal.returns-clause-roomy
returns-clause-roomy c = c.loop-other.invariant.roomy
