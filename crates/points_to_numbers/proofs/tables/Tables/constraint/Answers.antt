use Rattle.std.proofs.Common.{refl, arith}
use Rattle.std.proofs.lemmas.Result.{err_from_is_err_and}
use Rattle.points_to_numbers.specs.Kept.{kept}
use Rattle.points_to_numbers.proofs.FreshKeys.{failed_gives, failed_by, answered_by, constraints_are, constraint_full, constraint_only_new}
use Rattle.points_to_numbers.proofs.NewNumbers.{calls_stay, constraint_numbered}
use Rattle.points_to_numbers.proofs.tables.Tables.constraint.Goals as goal

pub invariant_of-self-2 : goal.invariant_of-self-2
invariant_of-self-2 c = (constraint_numbered (kept c.self.inside) c.args.self.now c.self.view_is c.self.invariant c.number_of.new.keys.keys c.args.constraint c.in_ok-number.number c.in_ok-number.ensures.keys c.in_ok-number.ensures.few c.in_ok-number.ensures.stored c.requires).sound

pub returns-clause-grows : goal.returns-clause-grows
returns-clause-grows c = (constraint_numbered (kept c.self.inside) c.args.self.now c.self.view_is c.self.invariant c.number_of.new.keys.keys c.args.constraint c.in_ok-number.number c.in_ok-number.ensures.keys c.in_ok-number.ensures.few c.in_ok-number.ensures.stored c.requires).grows

pub returns-clause-stands : goal.returns-clause-stands
returns-clause-stands c = (constraint_numbered (kept c.self.inside) c.args.self.now c.self.view_is c.self.invariant c.number_of.new.keys.keys c.args.constraint c.in_ok-number.number c.in_ok-number.ensures.keys c.in_ok-number.ensures.few c.in_ok-number.ensures.stored c.requires).stands

pub returns-clause-calls : goal.returns-clause-calls
returns-clause-calls c = calls_stay (kept c.self.inside) c.args.self.now c.self.view_is c.self.invariant (record (kept c.self.inside) { constraints = c.number_of.new.keys.keys }) refl

pub returns-in_err-number-clause-too_many : goal.returns-in_err-number-clause-too_many
returns-in_err-number-clause-too_many c =
    let long = constraints_are (kept c.self.inside) c.args.self.now c.self.view_is c.self.invariant in
    let e = err_from_is_err_and c.from_residual.result c.from_residual.ensures.1 in
    rw (e.1, e.2) (failed_gives c.in_err-number.field-0.0 c.in_err-number.ensures.too_many (λ (new, many). omega (arith, long, many)))

pub returns-in_err-number-clause-full : goal.returns-in_err-number-clause-full
returns-in_err-number-clause-full c = λ u at.
    let e = err_from_is_err_and c.from_residual.result c.from_residual.ensures.1 in
    rw (e.1, e.2) (failed_by c.in_err-number.field-0.0 c.in_err-number.ensures.too_many
    (constraint_full (kept c.self.inside) c.args.self.now c.self.view_is c.self.invariant c.args.constraint u at))

pub returns-in_err-number-clause-only_new : goal.returns-in_err-number-clause-only_new
returns-in_err-number-clause-only_new c = λ u at single.
    let e = err_from_is_err_and c.from_residual.result c.from_residual.ensures.1 in
    rw (e.1, e.2) (failed_gives c.in_err-number.field-0.0 c.in_err-number.ensures.too_many
    (λ (new, many). constraint_only_new (kept c.self.inside) c.args.self.now c.self.view_is c.self.invariant c.apart.ensures single c.args.constraint u at new))

pub returns-clause-full : goal.returns-clause-full
returns-clause-full c = λ u at.
    answered_by c.in_ok-number.number _ c.in_ok-number.ensures.too_many
    (constraint_full (kept c.self.inside) c.args.self.now c.self.view_is c.self.invariant c.args.constraint u at)
