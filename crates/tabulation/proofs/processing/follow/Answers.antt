use Rattle.std.proofs.Common.{[], None, not, refl}
use Rattle.std.proofs.lemmas.List.Elements.{All-weaker}
use Rattle.std.proofs.lemmas.Option.{slice_get_within}
use Rattle.std.proofs.lemmas.Result.{on_ok_weaker}
use Rattle.list_laws.proofs.Places.{contains_at}
use Rattle.end_numbers.specs.Ends.{end_of}
use Rattle.tabulation_tables.specs.Lists.{lists_of, numbered}
use Rattle.tabulation.specs.Kept.{LeadsToConclusion}
use Rattle.tabulation.proofs.Found.{concludes, followed, followed_none, found_at, may_begin, no_node_at, no_node_by}
use Rattle.tabulation.proofs.Steps.{may_begin_still, on_ok_both, step_more, step_none, to_conclusion_still}
use Rattle.tabulation.proofs.processing.follow.Goals as goal

pub end-reached-requires : goal.end-reached-requires
end-reached-requires c =
    let is = c.requires.kept.right.shape.edges c.requires.reached.begin c.args.caller.end
    (contains_at c.args.tables.now.edges c.args.caller.by.0 (numbered c.requires.reached.begin c.args.caller.end) c.requires.reached.at) in
    slice_get_within c.args.tables.now.ends c.args.caller.end is.end is.end_at

pub returns-in_default : goal.returns-in_default
returns-in_default c =
    let q = c.args.work.question.now in
    let t = lists_of c.args.tables.now in
    record {
      step = step_none q t c.requires.kept;
      followed = followed_none q t c.args.caller.end (end_of c.end-reached.result) c.end-reached.ensures (no_node_by q (end_of c.end-reached.result) c.in_default.not-Node);
      end = tt;
    }

pub returns-in_default-node-clause-step : goal.returns-in_default-node-clause-step
returns-in_default-node-clause-step c = step_none c.args.work.question.now (lists_of c.args.tables.now) c.requires.kept

pub returns-in_default-node-clause-followed : goal.returns-in_default-node-clause-followed
returns-in_default-node-clause-followed c =
    let q = c.args.work.question.now in
    followed_none q (lists_of c.args.tables.now) c.args.caller.end (end_of c.end-reached.result) c.end-reached.ensures
    (no_node_at q (end_of c.end-reached.result) c.in-Node.offset c.in-Node.is c.in_default-node.ensures.none)

pub lead_to_all-requires-clause-conclude : goal.lead_to_all-requires-clause-conclude
lead_to_all-requires-clause-conclude c = λ d there.
    let q = c.args.work.question.now in
    let t = lists_of c.args.tables.now in
    let a = end_of c.end-reached.result in
    let cs = c.after_node.new.following.within.items in
    let es = c.after_node.new.following.entered.items in
    concludes q t c.args.caller.end a c.end-reached.ensures [] cs es (found_at q a c.in-Node.offset c.in-Node.is c.in-Some.seen c.in-Some.ensures.found [] cs es c.in_ok-after_node.ensures) None (not c.is_empty.result) refl d
    (rw (← c.as_slice.ensures.value) there)

pub begin_all-requires-clause-may : goal.begin_all-requires-clause-may
begin_all-requires-clause-may c = λ b there.
    let q = c.args.work.question.now in
    let t = lists_of c.args.tables.now in
    let a = end_of c.end-reached.result in
    let cs = c.after_node.new.following.within.items in
    let es = c.after_node.new.following.entered.items in
    may_begin_still q t (lists_of c.lead_to_all.new.tables) c.in_ok-lead_to_all.ensures.step.grows c.requires.kept.right.shape c.args.caller.by.0 b
    (may_begin q t c.args.caller.end a c.end-reached.ensures cs es (found_at q a c.in-Node.offset c.in-Node.is c.in-Some.seen c.in-Some.ensures.found [] cs es c.in_ok-after_node.ensures)
    c.requires.kept.right.shape c.args.caller.by.0 c.requires.reached b (rw (← c.as_slice-entered.ensures.value) there))

pub returns-clause-step : goal.returns-clause-step
returns-clause-step c =
    on_ok_weaker c.begin_all.result (λ step.
    step_more c.args.work.question.now (lists_of c.args.tables.now) (lists_of c.lead_to_all.new.tables) (lists_of c.begin_all.new.tables) c.in_ok-lead_to_all.ensures.step step)
    c.begin_all.ensures.step

pub returns-clause-followed : goal.returns-clause-followed
returns-clause-followed c =
    let q = c.args.work.question.now in
    let first = lists_of c.args.tables.now in
    let one = lists_of c.lead_to_all.new.tables in
    let two = lists_of c.begin_all.new.tables in
    let a = end_of c.end-reached.result in
    let cs = c.after_node.new.following.within.items in
    let es = c.after_node.new.following.entered.items in
    let found = found_at q a c.in-Node.offset c.in-Node.is c.in-Some.seen c.in-Some.ensures.found [] cs es c.in_ok-after_node.ensures in
    on_ok_weaker c.begin_all.result (λ both.
    followed q two c.args.caller.end a (both.0.grows.ends c.args.caller.end a (c.in_ok-lead_to_all.ensures.step.grows.ends c.args.caller.end a c.end-reached.ensures)) cs es found
    (All-weaker (LeadsToConclusion one c.args.caller.end a.method) (LeadsToConclusion two c.args.caller.end a.method)
    (λ d was. to_conclusion_still q one two both.0.grows c.args.caller.end a.method d was) cs (rw (← c.as_slice.ensures.value) c.in_ok-lead_to_all.ensures.lead))
    (rw (← c.as_slice-entered.ensures.value) both.1))
    (on_ok_both c.begin_all.result _ _ c.begin_all.ensures.step c.begin_all.ensures.begun)
