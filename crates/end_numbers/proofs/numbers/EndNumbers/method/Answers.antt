use Rattle.std.proofs.Common.{arith, ap}
use Rattle.end_numbers.specs.Ends.{End}
use Rattle.end_numbers.specs.KeyRows.{keys_from}
use Rattle.end_numbers.proofs.KeyRows.{length-keys}
use Rattle.end_numbers.proofs.ReadEnds.{end_found, ends_length}
use Rattle.end_numbers.proofs.numbers.EndNumbers.method.Goals as goal

pub key_at-requires-clause-held : goal.key_at-requires-clause-held
key_at-requires-clause-held c =
    omega (arith, ends_length c.self.inside.facts.rows (keys_from c.self.inside.rows.rows) c.args.self.now c.self.view_is, length-keys c.self.inside.rows.rows, c.requires)

pub returns : goal.returns
returns c e found =
    ap (λ (x : End). x.method)
    (end_found c.self.inside.facts.rows (keys_from c.self.inside.rows.rows) c.args.self.now c.args.number c.key_at.result e c.self.view_is c.key_at.ensures found)
