use Rattle.std.proofs.Common.{ℕ, sym, ap, ◌∙◌, subst}
use Rattle.list_laws.proofs.Places.{contains_at}
use Rattle.slot_names.specs.declared.variable.Variable.{Variable}
use Rattle.slot_names.specs.KeptNames.{name_table}
use Rattle.slot_names.specs.Variables.{IsVariable}
use Rattle.certificate_ground.proofs.CallTargets.{receivers_are}
use Rattle.certificate_ground.proofs.targets.receivers.Goals as goal

pub returns : goal.returns
returns c = λ n at.
    let l = c.args.method.now.method in
    let table = name_table c.args.method.now.names in
    let kept = c.variable.ensures ∙ ap (λ (k : ℕ). table.variable k c.in-Some.slot) c.place_number-node.ensures in
    let named = subst (λ (v : Variable). IsVariable l n c.in-Some.slot v) (sym kept) (c.requires.names.each c.args.place c.in-Some.slot n at) in
    receivers_are c.args.held.now l c.requires.reached n (contains_at l.nodes c.args.place n at) c.args.call.now c.in-Some.slot c.in-Some.ensures c.variable.result
    named c.at.result.now c.at.ensures
