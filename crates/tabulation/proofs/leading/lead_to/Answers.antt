use Rattle.std.proofs.Common.{ℕ, sym, subst, arith}
use Rattle.std.proofs.lemmas.Option.{slice_get_within}
use Rattle.chained_lists.specs.Entries.{entry}
use Rattle.chained_lists.proofs.Walks.{contained_still, walk_begins, walk_ends, walk_goes}
use Rattle.tabulation_tables.specs.Lists.{HasEdge, lists_of}
use Rattle.tabulation_tables.proofs.Still.{edge_still}
use Rattle.tabulation_tables.proofs.Edges.{found_at, found_count, found_there}
use Rattle.tabulation.specs.Kept.{MayTake}
use Rattle.tabulation.proofs.Steps.{lead_step, may_lead_still, notes_more, notes_none, same_edges, stay_more, step_more, step_none, take_by_lead}
use Rattle.tabulation.proofs.leading.lead_to.Goals as goal

pub loop-place-init : goal.loop-place-init
loop-place-init c =
    let first = lists_of c.args.tables.now in
    record {
      step = step_none c.args.work.question.now first c.requires.kept;
      stay = notes_none first;
      walked = walk_begins (λ (b : ℕ). HasEdge first b c.args.to) first.begins c.args.from;
    }

pub value-begin-requires : goal.value-begin-requires
value-begin-requires c =
    let there = c.in-Some.ensures.there in
    slice_get_within (lists_of c.loop-place.tables).begins c.in-Some.place.0 (entry c.args.from there.value) there.at

pub take_edge-requires-clause-kept : goal.take_edge-requires-clause-kept
take_edge-requires-clause-kept c = c.loop-place.invariant.step.kept

pub take_edge-requires-clause-may : goal.take_edge-requires-clause-may
take_edge-requires-clause-may c =
    let q = c.args.work.question.now in
    let first = lists_of c.args.tables.now in
    let old = lists_of c.loop-place.tables in
    let before = c.loop-place.invariant in
    let there = c.in-Some.ensures.there in
    let right = before.step.kept.right in
    let edge = found_at old right.shape c.in-Some.place.0 c.args.from there.value there.at in
    let because = c.because_of-because.result in
    subst (λ (b : ℕ). MayTake q old b c.args.to because) (sym (c.value-begin.ensures c.args.from there.value there.at))
    (take_by_lead q old c.in-Some.place.0 there.value c.args.from c.args.to c.args.exit because c.because_of-because.ensures right edge
    (may_lead_still q first old before.step.grows c.requires.kept.right.shape c.args.from c.args.to c.args.exit c.requires.may))

pub loop-place-preserved : goal.loop-place-preserved
loop-place-preserved c =
    let q = c.args.work.question.now in
    let first = lists_of c.args.tables.now in
    let old = lists_of c.loop-place.tables in
    let new = lists_of c.take_edge.new.tables in
    let before = c.loop-place.invariant in
    let done = c.in_ok-take_edge.ensures in
    record {
      step = step_more q first old new before.step done.step;
      stay = notes_more first old new before.stay done.stay;
      walked =
          walk_goes (λ (b : ℕ). HasEdge old b c.args.to) (λ (b : ℕ). HasEdge new b c.args.to) old.begins new.begins done.step.grows.begins
          (λ b was. edge_still old new done.step.grows b c.args.to was) c.args.from c.loop-place.last before.walked c.in-Some.place c.in-Some.ensures
          (λ b at. subst (λ (n : ℕ). HasEdge new n c.args.to) (c.value-begin.ensures c.args.from b at) done.there);
    }

pub loop-place-smaller : goal.loop-place-smaller
loop-place-smaller c =
    let kept = c.loop-place.invariant.step.kept in
    let there = c.in-Some.ensures.there in
    let within = slice_get_within (lists_of c.loop-place.tables).begins c.in-Some.place.0 (entry c.args.from there.value) there.at in
    let count = found_count (lists_of c.loop-place.tables) kept.right.shape in
    let roomy = kept.roomy in
    let from = c.in-Some.ensures.from in
    omega (arith, within, count, roomy, from)

pub returns-clause-step : goal.returns-clause-step
returns-clause-step c =
    let q = c.args.work.question.now in
    let first = lists_of c.args.tables.now in
    let old = lists_of c.loop-place.tables in
    let new = lists_of c.lead.new.self in
    let before = c.loop-place.invariant in
    let noted = c.in_ok-lead.ensures in
    lead_step q first old new c.args.from c.args.to c.args.exit noted.grows noted.adds c.requires.kept.right.shape (same_edges old new c.lead.ensures.edges c.lead.ensures.reasons) before.step c.requires.may (λ b there.
    edge_still old new noted.grows b c.args.to
    (walk_ends (λ (n : ℕ). HasEdge old n c.args.to) old.begins c.args.from c.loop-place.last before.walked c.in_default.ensures b
    (contained_still first.begins old.begins before.step.grows.begins c.args.from b (found_there first c.requires.kept.right.shape b c.args.from there))))

pub returns-clause-stay : goal.returns-clause-stay
returns-clause-stay c =
    stay_more (lists_of c.args.tables.now) (lists_of c.loop-place.tables) (lists_of c.lead.new.self) c.loop-place.invariant.stay.calls c.in_ok-lead.ensures.stay
