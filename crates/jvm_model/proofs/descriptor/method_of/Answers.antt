use Rattle.std.proofs.Common.{◌-◌, length, take, drop}
use Rattle.jvm_model.proofs.MethodKinds.{behind_opening, method_of_kinds, outcome_found, outcome_of_found, outcome_some}
use Rattle.jvm_model.proofs.descriptor.method_of.Goals as goal

pub unwrap-outcome-requires : goal.unwrap-outcome-requires
unwrap-outcome-requires c =
    let text = c.args.text.now in
    let tail = take (length text - 1) (drop 1 text) in
    outcome_some text tail c.after_parameters.result (behind_opening text c.requires) c.requires c.after_parameters.ensures

pub outcome_of-requires : goal.outcome_of-requires
outcome_of-requires c =
    let text = c.args.text.now in
    let tail = take (length text - 1) (drop 1 text) in
    let ends = outcome_of_found tail c.after_parameters.result c.unwrap-outcome.result c.unwrap-outcome.ensures c.after_parameters.ensures in
    outcome_found text tail c.unwrap-outcome.result.now (behind_opening text c.requires) c.requires ends

pub returns : goal.returns
returns c =
    let text = c.args.text.now in
    let tail = take (length text - 1) (drop 1 text) in
    let ends = outcome_of_found tail c.after_parameters.result c.unwrap-outcome.result c.unwrap-outcome.ensures c.after_parameters.ensures in
    method_of_kinds text tail c.unwrap-outcome.result.now c.in_ok-kinds.kinds c.in_ok-outcome_of.field-0
    (behind_opening text c.requires) ends c.in_ok-kinds.ensures c.in_ok-outcome_of.ensures
