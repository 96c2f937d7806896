use Rattle.std.proofs.Common.{ℕ, ◌+◌, length, sym, ap, ◌∙◌}
use Rattle.bit_rows.specs.Sets.{IsInBoth, IsNew, numbers_of}
use Rattle.bit_rows.proofs.Added.{added_fitting, added_new, at_most_same, count_fitting, count_new, on_err_given}
use Rattle.bit_rows.proofs.Sets.{united}
use Rattle.bit_rows.proofs.set.NumberSet.add_fitting.Goals as goal

pub returns-in_err-unite-clause-err : goal.returns-in_err-unite-clause-err
returns-in_err-unite-clause-err c =
    on_err_given c.from_residual-in_err-unite.result
    (at_most_same c.args.self.now c.unite.new.self (IsInBoth c.args.other.now c.args.mask.now) c.in_err-unite.ensures.err)

pub returns-in_err-absorb-clause-err : goal.returns-in_err-absorb-clause-err
returns-in_err-absorb-clause-err c =
    let held = c.args.self.now in
    let new = c.in_ok-new.new in
    on_err_given c.from_residual-in_err-absorb.result
    (added_fitting held c.args.other.now c.args.mask.now new c.in_ok-new.ensures c.unite.new.self (united held new c.unite.new.self c.in_ok-unite.ensures.united)).at_most

pub returns-in_err-absorb-clause-fresh_err : goal.returns-in_err-absorb-clause-fresh_err
returns-in_err-absorb-clause-fresh_err c =
    on_err_given c.from_residual-in_err-absorb.result
    (at_most_same c.args.fresh.now c.absorb.new.self (IsNew c.args.self.now (IsInBoth c.args.other.now c.args.mask.now)) c.in_err-absorb.ensures.err)

pub returns-clause-added : goal.returns-clause-added
returns-clause-added c =
    let held = c.args.self.now in
    let new = c.in_ok-new.new in
    added_fitting held c.args.other.now c.args.mask.now new c.in_ok-new.ensures c.unite.new.self (united held new c.unite.new.self c.in_ok-unite.ensures.united)

pub returns-clause-fresh : goal.returns-clause-fresh
returns-clause-fresh c =
    let new = c.in_ok-new.new in
    added_new c.args.self.now c.args.other.now c.args.mask.now new c.in_ok-new.ensures c.args.fresh.now c.absorb.new.self
    (united c.args.fresh.now new c.absorb.new.self c.in_ok-absorb.ensures.united)

pub returns-clause-count : goal.returns-clause-count
returns-clause-count c =
    let held = c.args.self.now in
    let new = c.in_ok-new.new in
    count_fitting held c.args.other.now c.args.mask.now new c.in_ok-new.ensures c.unite.new.self (united held new c.unite.new.self c.in_ok-unite.ensures.united)
    ∙ ap (λ (k : ℕ). length (numbers_of held) + k) (sym c.count-count.ensures)

pub returns-clause-fresh_count : goal.returns-clause-fresh_count
returns-clause-fresh_count c nothing =
    let new = c.in_ok-new.new in
    count_new c.args.self.now c.args.other.now c.args.mask.now new c.in_ok-new.ensures c.args.fresh.now c.absorb.new.self
    (united c.args.fresh.now new c.absorb.new.self c.in_ok-absorb.ensures.united) nothing
    ∙ ap (λ (k : ℕ). length (numbers_of c.args.fresh.now) + k) (sym c.count-count.ensures)
