use Rattle.std.proofs.Common.{◌≡◌, Some, arith, sym, ◌∙◌, ap}
use Rattle.stage_facts.specs.Plain.{fact_of}
use Rattle.end_numbers.specs.Ends.{end, end_of}
use Rattle.end_numbers.specs.Keys.{key_end}
use Rattle.end_numbers.proofs.OneEnd.{end_is}
use Rattle.end_numbers.specs.KeyRows.{keys_from}
use Rattle.end_numbers.proofs.KeyRows.{length-keys}
use Rattle.end_numbers.proofs.ReadEnds.{end_at, ends_length}
use Rattle.end_numbers.proofs.numbers.EndNumbers.end.Goals as goal

pub key_at-key-requires-clause-held : goal.key_at-key-requires-clause-held
key_at-key-requires-clause-held c =
    omega (arith, ends_length c.self.inside.facts.rows (keys_from c.self.inside.rows.rows) c.args.self.now c.self.view_is, length-keys c.self.inside.rows.rows, c.requires)

pub returns : goal.returns
returns c =
    let rows = c.self.inside.facts.rows in
    let key = c.key_at-key.result in
    let has = c.self.invariant.have c.args.number key c.key_at-key.ensures in
    let fact : fact_of c.unpack_fact.result ≡ has.0 = c.unpack_fact.ensures has.0 has.1 in
    let read : key_end rows key ≡ end_of (record { method = key.method; spot = key.spot; fact = c.unpack_fact.result }) =
    end_is rows key has.0 has.1 ∙ sym (λ i. end key.method key.spot (fact i)) in
    end_at rows (keys_from c.self.inside.rows.rows) c.args.self.now c.args.number key c.self.view_is c.key_at-key.ensures ∙ ap Some read
