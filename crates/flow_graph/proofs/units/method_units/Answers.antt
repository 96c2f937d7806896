use Rattle.std.proofs.Common.{ap, arith}
use Rattle.code_reader.proofs.ParameterUnits.{has_few}
use Rattle.flow_graph.specs.declared.units.MethodUnits.{MethodUnits}
use Rattle.flow_graph.proofs.DescriptorUnits.{counts_spelled, few_spelled}
use Rattle.flow_graph.proofs.units.method_units.Goals as goal

pub spelled_units-requires : goal.spelled_units-requires
spelled_units-requires c = has_few c.args.descriptor.now c.in_ok-spelled.spelled c.in_ok-spelled.ensures.found

pub returns-clause-few : goal.returns-clause-few
returns-clause-few c =
    let few = few_spelled c.args.descriptor.now c.in_ok-spelled.spelled c.in_ok-spelled.ensures.found in
    let same = ap (λ (u : MethodUnits). u.parameters) c.spelled_units.ensures in
    omega (arith, few, same)

pub returns-clause-exact : goal.returns-clause-exact
returns-clause-exact c = counts_spelled c.args.descriptor.now c.in_ok-spelled.spelled c.spelled_units.result c.in_ok-spelled.ensures.found c.in_ok-spelled.ensures.none c.spelled_units.ensures
