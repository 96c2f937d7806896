use Rattle.bit_rows.proofs.Numbers.{ascending, listed, none_listed}
use Rattle.bit_rows.proofs.laws.numbers_are_listed.Goals as goal

pub returns-clause-listed : goal.returns-clause-listed
returns-clause-listed c = listed

pub returns-clause-ascending : goal.returns-clause-ascending
returns-clause-ascending c = ascending

pub returns-clause-none : goal.returns-clause-none
returns-clause-none c = none_listed
