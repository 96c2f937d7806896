use Rattle.std.proofs.Common.{arith}
use Rattle.jvm_model.specs.Lookups.{lent_signature}
use Rattle.code_reader.proofs.ParameterUnits.{has_few}
use Rattle.flow_graph.proofs.DescriptorUnits.{few_spelled}
use Rattle.lowering_handlers.proofs.ParameterCounts.{method_descriptor, parameters_counted, few_counted, receiver_few}
use Rattle.lowering_handlers.proofs.parameters.parameter_units.Goals as goal

pub units_spelled-requires : goal.units_spelled-requires
units_spelled-requires c = has_few _ c.in_ok-descriptor.descriptor c.in_ok-descriptor.ensures.found

pub overflow_add-result : goal.overflow_add-result
overflow_add-result c =
    let few = few_counted c.in_ok-descriptor.descriptor 255 c.units_spelled.result c.units_spelled.ensures (few_spelled _ c.in_ok-descriptor.descriptor c.in_ok-descriptor.ensures.found) in
    let view = c.method-view.result in
    let receiver = receiver_few c.receiver_units-receiver.result view.flags (lent_signature view.signature) c.receiver_units-receiver.ensures in
    omega (arith, few, receiver)

pub returns : goal.returns
returns c = λ m stands.
    let p = c.args.program.now in
    let view = c.method-view.result in
    let is = c.method-view.ensures m stands in
    parameters_counted m view.flags (lent_signature view.signature) c.in_ok-descriptor.descriptor c.receiver_units-receiver.result c.units_spelled.result is.flags is.signature
    (method_descriptor p c.well_formed-2.ensures.program c.args.method.0 m stands) c.in_ok-descriptor.ensures.found c.in_ok-descriptor.ensures.none
    c.receiver_units-receiver.ensures c.units_spelled.ensures
