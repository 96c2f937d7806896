use Rattle.std.proofs.Common.{refl}
use Rattle.points_to_calls.proofs.RightAnswers.{grown_right}
use Rattle.points_to_numbers.proofs.Adding.{adds_none, adds_same}
use Rattle.points_to.specs.Concluding.{IsCallItem}
use Rattle.points_to.proofs.GivenMethods.{start_leads_nowhere, call_items, caller_there, none_there, some_there}
use Rattle.points_to.proofs.conclude.call_target.Goals as goal

pub returns-then-is_none-clause-adds : goal.returns-then-is_none-clause-adds
returns-then-is_none-clause-adds c =
    let n = c.args.found.now.work.tables in
    adds_none n (IsCallItem c.args.program.now n c.args.call.0 c.args.target) c.args.found.now.work.steps.items
    (start_leads_nowhere c.args.program.now n c.args.call.0 c.args.target c.call_of.result.now c.call_of.ensures (none_there c.call_of.result.now.at.method c.if-is_none.ensures))

pub returns-clause-adds : goal.returns-clause-adds
returns-clause-adds c =
    let n = c.args.found.now.work.tables in
    let p = c.args.program.now in
    let caller = caller_there n c.args.call.0 c.call_of.result.now c.requires.call c.call_of.ensures c.call_of.result.now.at.method refl (some_there c.call_of.result.now.at.method c.if-is_none.ensures) in
    adds_same c.target_items.new.work.tables _ (IsCallItem p n c.args.call.0 c.args.target) c.args.found.now.work.steps.items c.target_items.new.work.steps.items
    (call_items p n c.args.call.0 c.args.target c.requires.call caller)
    (c.in_ok-target_items.ensures.adds c.requires.call.0 c.requires.call.1)

pub target_items-requires-clause-resolved : goal.target_items-requires-clause-resolved
target_items-requires-clause-resolved c = λ site stands.
    c.requires.resolved site stands
    (caller_there c.args.found.now.work.tables c.args.call.0 c.call_of.result.now (site, stands) c.call_of.ensures c.call_of.result.now.at.method refl (some_there c.call_of.result.now.at.method c.if-is_none.ensures))

pub returns-clause-answers : goal.returns-clause-answers
returns-clause-answers c =
    grown_right c.args.program.now c.args.found.now.work.tables c.target_items.new.work.tables c.args.found.now.answers
    c.in_ok-target_items.ensures.grows c.requires.answers
