use Rattle.code_reader.proofs.ParameterUnits.{takes_units, has_few}
use Rattle.code_reader.proofs.read.units_taken.Goals as goal

pub units_spelled-requires : goal.units_spelled-requires
units_spelled-requires c = has_few c.args.descriptor.now c.in_ok-spelled.spelled c.in_ok-spelled.ensures.found

pub returns-clause-exact : goal.returns-clause-exact
returns-clause-exact c =
    takes_units c.args.descriptor.now c.in_ok-spelled.spelled c.units_spelled.result c.in_ok-spelled.ensures.found c.in_ok-spelled.ensures.none c.units_spelled.ensures.exact
