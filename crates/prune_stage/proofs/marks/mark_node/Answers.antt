use Rattle.std.proofs.Common.{sym, arith}
use Rattle.slot_names.proofs.ListPlaces.{stands_below}
use Rattle.prune_stage.proofs.MarkedCalls.{call_marked, no_call, no_event, no_receiver, node_marked}
use Rattle.prune_stage.proofs.PrunedSites.{event_below}
use Rattle.prune_stage.proofs.marks.mark_node.Goals as goal

pub returns-in_default : goal.returns-in_default
returns-in_default g c =
    no_call c.args.automaton.now c.args.ground.now (g.M.Marking.stands c.args.marking.now) c.args.at c.node.result.now c.node.ensures
    (λ call is. c.in_default.not-Call call is) c.args.sets.now

pub returns-in_default-call_event : goal.returns-in_default-call_event
returns-in_default-call_event g c =
    let n = c.node.result.now in
    let there = c.node.ensures in
    let call = c.in-Call.call in
    let sets = c.args.sets.now in
    node_marked c.args.automaton.now c.args.ground.now (g.M.Marking.stands c.args.marking.now) c.args.at n there call c.in-Call.is sets sets
    (no_event c.args.automaton.now c.args.ground.now (g.M.Marking.stands c.args.marking.now) there.lowered n call (sym c.in_default-call_event.ensures) sets)

pub returns-in_default-receiver : goal.returns-in_default-receiver
returns-in_default-receiver g c =
    let n = c.node.result.now in
    let there = c.node.ensures in
    let call = c.in-Call.call in
    let sets = c.args.sets.now in
    node_marked c.args.automaton.now c.args.ground.now (g.M.Marking.stands c.args.marking.now) c.args.at n there call c.in-Call.is sets sets
    (no_receiver c.args.automaton.now c.args.ground.now (g.M.Marking.stands c.args.marking.now) there.lowered n call (sym c.in_default-receiver.ensures) sets)

pub mark-requires-clause-event : goal.mark-requires-clause-event
mark-requires-clause-event g c =
    let within = event_below c.args.automaton.now c.in-Call.call c.in-Some.event (sym c.in-Some.ensures) in
    omega (arith, within, c.requires.automaton.event_limit)

pub returns : goal.returns
returns g c =
    let n = c.node.result.now in
    let there = c.node.ensures in
    let call = c.in-Call.call in
    let f = c.args.ground.now in
    let found = c.sites_of_slot in
    let (h, of) = found.ensures.holder in
    node_marked c.args.automaton.now f (g.M.Marking.stands c.args.marking.now) c.args.at n there call c.in-Call.is c.args.sets.now c.mark.new.sets
    (call_marked c.args.automaton.now f (g.M.Marking.stands c.args.marking.now) c.args.at n there call c.in-Some.event c.in-Some-receiver.slot
    (sym c.in-Some.ensures) (sym c.in-Some-receiver.ensures) c.well_formed-2.ensures.sites h of found.result.now found.ensures.sites
    (λ site among. stands_below f.sites site.0 (found.ensures.within site among)) c.args.sets.now c.mark.new.sets c.mark.ensures)
