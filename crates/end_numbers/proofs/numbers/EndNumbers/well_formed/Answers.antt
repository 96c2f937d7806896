use Rattle.std.proofs.Common.{List, arith, subst}
use Rattle.least_sets.specs.Rules.{IsWithoutDoubles}
use Rattle.end_numbers.specs.Ends.{End}
use Rattle.end_numbers.specs.KeyRows.{keys_from}
use Rattle.end_numbers.proofs.KeyRows.{keys_apart, length-keys}
use Rattle.end_numbers.proofs.OneEnd.{ends_apart}
use Rattle.end_numbers.proofs.ReadEnds.{ends_length}
use Rattle.end_numbers.proofs.numbers.EndNumbers.well_formed.Goals as goal

pub returns-clause-apart : goal.returns-clause-apart
returns-clause-apart c =
    let rows = c.self.inside.rows.rows in
    subst (λ (ends : List End). IsWithoutDoubles ends) c.self.view_is
    (ends_apart c.self.inside.facts.rows (keys_from rows) c.well_formed-3.ensures.distinct c.self.invariant.have
    (keys_apart rows c.self.invariant.keys c.well_formed-2.ensures.distinct))

pub returns-clause-few : goal.returns-clause-few
returns-clause-few c =
    let rows = c.self.inside.rows.rows in
    omega (arith, ends_length c.self.inside.facts.rows (keys_from rows) c.args.self.now c.self.view_is, length-keys rows, c.well_formed-2.ensures.few)
