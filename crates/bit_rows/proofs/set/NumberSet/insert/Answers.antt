use Rattle.std.proofs.Common.{sym, ◌∙◌}
use Rattle.std.proofs.lemmas.Bool.{false≢true}
use Rattle.bit_rows.proofs.Added.{count_inserted, inserted, on_err_given}
use Rattle.bit_rows.proofs.Sets.{same_by_words}
use Rattle.bit_rows.proofs.set.NumberSet.insert.Goals as goal

pub returns-in_err-add_number-clause-err : goal.returns-in_err-add_number-clause-err
returns-in_err-add_number-clause-err c =
    on_err_given c.from_residual.result (same_by_words c.args.self.now c.add_number.new.self c.in_err-add_number.ensures.err)

pub returns-clause-inserted : goal.returns-clause-inserted
returns-clause-inserted c = inserted c.args.self.now c.add_number.new.self c.args.number c.in_ok-add_number.ensures.united

pub returns-clause-count : goal.returns-clause-count
returns-clause-count c =
    count_inserted c.args.self.now c.add_number.new.self c.args.number c.in_ok-add_number.ensures.united
    (λ is. false≢true (sym c.if-contains.false ∙ c.contains.ensures.1 is))
