use Rattle.std.proofs.Common.{refl}
use Rattle.stage_facts.specs.Plain.{fact_of}
use Rattle.end_numbers.specs.declared.key.EndKey.{EndKey}
use Rattle.end_numbers.specs.Ends.{end}
use Rattle.end_numbers.proofs.Adding.{got_number, GotNumber, on_err, rows_stay, same_ends}
use Rattle.end_numbers.proofs.numbers.EndNumbers.number.Goals as goal
use Rattle.end_numbers.proofs.numbers.EndNumbers.number.Goals.{In_ok-number}

-- the end got the number, once its key is a row
got : (c : In_ok-number) → GotNumber c.args.self.now c.pack_fact.new.pool.rows c.intern_key.new.rows.rows
    (end c.args.method c.args.spot (fact_of c.args.fact.now)) c.in_ok-number.number.0
got c =
    let key : EndKey = record { method = c.args.method; spot = c.args.spot; fact = c.in_ok-row.row.0 } in
    let fact = fact_of c.args.fact.now in
    got_number c.self.inside.facts.rows c.pack_fact.new.pool.rows c.self.inside.rows c.intern_key.new.rows c.args.self.now key
    (end c.args.method c.args.spot fact) fact c.in_ok-number.number.0 c.self.view_is c.self.invariant c.well_formed-2.ensures.distinct
    c.pack_fact.ensures.kept c.in_ok-row.ensures.row refl c.in_ok-number.ensures.interned c.in_ok-number.ensures.row

pub invariant_of-self-2 : goal.invariant_of-self-2
invariant_of-self-2 c = (got (goal.at.invariant_of-self-2 c).In_ok-number).sound

pub returns-clause-number : goal.returns-clause-number
returns-clause-number c = (got (goal.at.returns-clause-number c).In_ok-number).stands

pub returns-clause-numbered : goal.returns-clause-numbered
returns-clause-numbered c = (got (goal.at.returns-clause-numbered c).In_ok-number).numbered

-- ---- memory ran out

pub invariant_of-self-in_err-number : goal.invariant_of-self-in_err-number
invariant_of-self-in_err-number c =
    rows_stay c.self.inside.facts.rows c.pack_fact.new.pool.rows c.self.inside.rows c.intern_key.new.rows c.self.invariant
    c.pack_fact.ensures.kept c.in_err-number.ensures.err

pub returns-in_err-number-clause-err : goal.returns-in_err-number-clause-err
returns-in_err-number-clause-err c =
    on_err c.from_residual-in_err-number.result
    (same_ends c.self.inside.facts.rows c.pack_fact.new.pool.rows c.self.inside.rows c.intern_key.new.rows c.args.self.now c.self.view_is
    c.self.invariant c.pack_fact.ensures.kept c.in_err-number.ensures.err)
