use Rattle.std.proofs.Common.{ℕ, List, length, sym, ap, subst, arith}
use Rattle.std.proofs.lemmas.Option.{slice_get_within}
use Rattle.list_laws.proofs.Places.{contains_at}
use Rattle.chained_lists.specs.Entries.{Entry, entry}
use Rattle.chained_lists.proofs.Walks.{walk_begins, walk_ends, walk_goes}
use Rattle.tabulation_tables.specs.Lists.{IsBegunBy, lists_of}
use Rattle.tabulation_tables.proofs.Still.{number_still}
use Rattle.tabulation.specs.Kept.{HasMetAll}
use Rattle.tabulation.proofs.Steps.{met_all_still, stay_more, stay_none, step_more, step_none}
use Rattle.tabulation.proofs.meeting.meet_exits.Goals as goal

pub loop-place-init : goal.loop-place-init
loop-place-init c =
    let q = c.args.work.question.now in
    let first = lists_of c.args.tables.now in
    record {
      step = step_none q first c.requires.kept;
      stay = stay_none first;
      walked = walk_begins (λ (n : ℕ). HasMetAll q first c.args.begin c.args.caller n) first.exits c.args.begin;
    }

pub value-requires : goal.value-requires
value-requires c =
    let there = c.in-Some.ensures.there in
    slice_get_within (lists_of c.loop-place.tables).exits c.in-Some.place.0 (entry c.args.begin there.value) there.at

pub meet-requires-clause-kept : goal.meet-requires-clause-kept
meet-requires-clause-kept c = c.loop-place.invariant.step.kept

pub meet-requires-clause-caller : goal.meet-requires-clause-caller
meet-requires-clause-caller c =
    number_still (lists_of c.args.tables.now) (lists_of c.loop-place.tables) c.loop-place.invariant.step.grows c.args.caller c.requires.caller

pub meet-requires-clause-exit : goal.meet-requires-clause-exit
meet-requires-clause-exit c =
    let old = lists_of c.loop-place.tables in
    let there = c.in-Some.ensures.there in
    subst (λ (k : ℕ). IsBegunBy old c.args.begin k) (sym (c.value.ensures c.args.begin there.value there.at))
    (c.loop-place.invariant.step.kept.right.shape.exits c.args.begin there.value (contains_at old.exits c.in-Some.place.0 (entry c.args.begin there.value) there.at))

pub loop-place-preserved : goal.loop-place-preserved
loop-place-preserved c =
    let q = c.args.work.question.now in
    let first = lists_of c.args.tables.now in
    let old = lists_of c.loop-place.tables in
    let new = lists_of c.meet.new.tables in
    let before = c.loop-place.invariant in
    let done = c.in_ok-meet.ensures in
    record {
      step = step_more q first old new before.step done.step;
      stay = stay_more first old new before.stay done.stay;
      walked =
          walk_goes (λ (n : ℕ). HasMetAll q old c.args.begin c.args.caller n) (λ (n : ℕ). HasMetAll q new c.args.begin c.args.caller n) old.exits new.exits done.step.grows.exits
          (λ n was. met_all_still q old new done.step.grows c.args.begin c.args.caller n was) c.args.begin c.loop-place.last before.walked c.in-Some.place c.in-Some.ensures
          (λ m at. subst (λ (n : ℕ). HasMetAll q new c.args.begin c.args.caller n) (c.value.ensures c.args.begin m at) done.met);
    }

pub loop-place-smaller : goal.loop-place-smaller
loop-place-smaller c =
    let there = c.in-Some.ensures.there in
    let within = slice_get_within (lists_of c.loop-place.tables).exits c.in-Some.place.0 (entry c.args.begin there.value) there.at in
    let same = ap (λ (es : List Entry). length es) c.in_ok-meet.ensures.stay.exits in
    let from = c.in-Some.ensures.from in
    omega (arith, within, same, from)

pub returns-clause-met : goal.returns-clause-met
returns-clause-met c =
    let new = lists_of c.loop-place.tables in
    walk_ends (λ (n : ℕ). HasMetAll c.args.work.question.now new c.args.begin c.args.caller n) new.exits c.args.begin c.loop-place.last c.loop-place.invariant.walked c.in_default.ensures
