use Rattle.std.proofs.Common.{ℕ, List, length, sym, ap, subst, arith}
use Rattle.std.proofs.lemmas.Option.{slice_get_within}
use Rattle.chained_lists.specs.Entries.{Entry, entry}
use Rattle.chained_lists.proofs.Walks.{walk_begins, walk_ends, walk_goes}
use Rattle.tabulation_tables.specs.Lists.{HasEdge, lists_of, numbered}
use Rattle.tabulation_tables.proofs.Still.{edge_still}
use Rattle.tabulation.specs.Kept.{MayTake}
use Rattle.tabulation.proofs.Steps.{lead_may, notes_more, notes_none, step_more, step_none, take_by_lead}
use Rattle.tabulation.proofs.processing.extend.Goals as goal

pub loop-place-init : goal.loop-place-init
loop-place-init c =
    let first = lists_of c.args.tables.now in
    record {
      step = step_none c.args.work.question.now first c.requires.kept;
      stay = notes_none first;
      walked = walk_begins (λ (y : ℕ). HasEdge first c.args.edge.begin y) first.leads c.args.edge.end;
    }

pub value-end-requires : goal.value-end-requires
value-end-requires c =
    let there = c.in-Some.ensures.there in
    slice_get_within (lists_of c.loop-place.tables).leads c.in-Some.place.0 (entry c.args.edge.end there.value) there.at

pub exit_at-exit-requires : goal.exit_at-exit-requires
exit_at-exit-requires c =
    let there = c.in-Some.ensures.there in
    let old = lists_of c.loop-place.tables in
    let within = slice_get_within old.leads c.in-Some.place.0 (entry c.args.edge.end there.value) there.at in
    let noted = c.loop-place.invariant.step.kept.right.shape.noted in
    omega (arith, within, noted)

pub take_edge-requires-clause-kept : goal.take_edge-requires-clause-kept
take_edge-requires-clause-kept c = c.loop-place.invariant.step.kept

pub take_edge-requires-clause-may : goal.take_edge-requires-clause-may
take_edge-requires-clause-may c =
    let q = c.args.work.question.now in
    let first = lists_of c.args.tables.now in
    let old = lists_of c.loop-place.tables in
    let before = c.loop-place.invariant in
    let right = before.step.kept.right in
    let b = c.args.edge.begin in
    let x = c.args.edge.end in
    let there = c.in-Some.ensures.there in
    let exit = c.exit_at-exit.result in
    let because = c.because_of-because.result in
    subst (λ (y : ℕ). MayTake q old b y because) (sym (c.value-end.ensures x there.value there.at))
    (take_by_lead q old c.args.number.0 b x there.value exit because c.because_of-because.ensures right (before.step.grows.edges c.args.number.0 (numbered b x) c.requires.there)
    (lead_may q old x there.value exit right (record { place = c.in-Some.place.0; at = there.at; by = c.exit_at-exit.ensures })))

pub loop-place-preserved : goal.loop-place-preserved
loop-place-preserved c =
    let q = c.args.work.question.now in
    let first = lists_of c.args.tables.now in
    let old = lists_of c.loop-place.tables in
    let new = lists_of c.take_edge.new.tables in
    let before = c.loop-place.invariant in
    let done = c.in_ok-take_edge.ensures in
    let b = c.args.edge.begin in
    let x = c.args.edge.end in
    record {
      step = step_more q first old new before.step done.step;
      stay = notes_more first old new before.stay done.stay;
      walked =
          walk_goes (λ (y : ℕ). HasEdge old b y) (λ (y : ℕ). HasEdge new b y) old.leads new.leads done.step.grows.leads (λ y was. edge_still old new done.step.grows b y was) x
          c.loop-place.last before.walked c.in-Some.place c.in-Some.ensures (λ y at. subst (HasEdge new b) (c.value-end.ensures x y at) done.there);
    }

pub loop-place-smaller : goal.loop-place-smaller
loop-place-smaller c =
    let there = c.in-Some.ensures.there in
    let within = slice_get_within (lists_of c.loop-place.tables).leads c.in-Some.place.0 (entry c.args.edge.end there.value) there.at in
    let same = ap (λ (es : List Entry). length es) c.in_ok-take_edge.ensures.stay.leads in
    let from = c.in-Some.ensures.from in
    omega (arith, within, same, from)

pub returns-clause-led : goal.returns-clause-led
returns-clause-led c =
    let new = lists_of c.loop-place.tables in
    walk_ends (λ (y : ℕ). HasEdge new c.args.edge.begin y) new.leads c.args.edge.end c.loop-place.last c.loop-place.invariant.walked c.in_default.ensures
