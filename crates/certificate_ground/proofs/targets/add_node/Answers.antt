use Rattle.std.proofs.Common.{sym, ap, ◌∙◌, subst}
use Rattle.std.proofs.lemmas.Option.{same_Some}
use Rattle.std.proofs.lemmas.Result.{on_ok_weaker}
use Rattle.op_model.specs.declared.node.Node.{Node}
use Rattle.slot_names.proofs.NotedArrivals.{stands_read}
use Rattle.certificate_ground.specs.Pairs.{AddsPairs}
use Rattle.certificate_ground.specs.Targets.{IsTargetOf}
use Rattle.certificate_ground.proofs.CallTargets.{no_targets, node_targets}
use Rattle.certificate_ground.proofs.targets.add_node.Goals as goal

pub returns-in_default : goal.returns-in_default
returns-in_default c = λ n at.
    let known = c.args.known.now in
    let l = c.args.method.now.method in
    let old = c.args.targets.now in
    let read = c.index-as_slice-place.result in
    let stands = stands_read l c.as_slice.result.now c.args.place read c.as_slice.ensures c.requires.there c.index-as_slice-place.is in
    let same = same_Some read n (sym stands ∙ at) in
    no_targets known.program.now known.sites.now known.held.now l n old.calls.keys old.targets.groups.items
    (λ call is. c.in_default.not-Call call (ap (λ (m : Node). m.op) same ∙ is))

pub add_selected-requires-clause-within : goal.add_selected-requires-clause-within
add_selected-requires-clause-within c = λ site there.
    let l = c.args.method.now.method in
    let read = c.index-as_slice-place.result in
    let stands = stands_read l c.as_slice.result.now c.args.place read c.as_slice.ensures c.requires.there c.index-as_slice-place.is in
    let receiver = (c.receivers.ensures read stands site).0 there in
    c.requires.held receiver.name site receiver.holds

pub returns : goal.returns
returns c =
    let known = c.args.known.now in
    let l = c.args.method.now.method in
    let old = c.args.targets.now in
    let middle = c.add_chosen.new.targets in
    let new = c.add_selected.new.targets in
    let read = c.index-as_slice-place.result in
    let stands = stands_read l c.as_slice.result.now c.args.place read c.as_slice.ensures c.requires.there c.index-as_slice-place.is in
    on_ok_weaker c.add_selected.result
    (λ added n at.
    let same = same_Some read n (sym stands ∙ at) in
    subst (λ (k : Node). AddsPairs (IsTargetOf known.program.now known.sites.now known.held.now l k) old.calls.keys old.targets.groups.items new.calls.keys new.targets.groups.items) same
    (node_targets known.program.now known.sites.now known.held.now l read old.calls.keys old.targets.groups.items c.in-Call.call c.in-Call.is c.receivers.result.now
    (c.receivers.ensures read stands) middle.calls.keys middle.targets.groups.items new.calls.keys new.targets.groups.items c.in_ok-add_chosen.ensures added))
    c.add_selected.ensures
