use Rattle.std.proofs.Common.{refl}
use Rattle.std.proofs.lemmas.Result.{err_from_is_err_and}
use Rattle.points_to_numbers.specs.Kept.{kept, numbered}
use Rattle.points_to_numbers.proofs.Taking.{classes_sound}
use Rattle.points_to_numbers.proofs.FreshKeys.{failed_as, answered_as, name_full}
use Rattle.points_to_numbers.proofs.NewNumbers.{calls_stay, names_grow, longer_texts}
use Rattle.points_to_numbers.proofs.tables.Tables.class_name.Goals as goal

pub invariant_of-self-2 : goal.invariant_of-self-2
invariant_of-self-2 c = classes_sound (kept c.self.inside) c.self.invariant c.intern.new.self (longer_texts _ _ c.in_ok-number.ensures.extends)

pub returns-clause-grows : goal.returns-clause-grows
returns-clause-grows c = names_grow (kept c.self.inside) c.args.self.now c.self.view_is c.self.invariant c.intern.new.self (longer_texts _ _ c.in_ok-number.ensures.extends)

pub returns-clause-stands : goal.returns-clause-stands
unfolding numbered
returns-clause-stands c = c.in_ok-number.ensures.stands

pub returns-clause-calls : goal.returns-clause-calls
returns-clause-calls c = calls_stay (kept c.self.inside) c.args.self.now c.self.view_is c.self.invariant (record (kept c.self.inside) { classes = c.intern.new.self }) refl

pub returns-in_err-number-clause-too_many : goal.returns-in_err-number-clause-too_many
returns-in_err-number-clause-too_many c =
    let e = err_from_is_err_and c.from_residual.result c.from_residual.ensures.1 in
    rw (e.1, e.2) (failed_as c.in_err-number.field-0.0 c.in_err-number.ensures.too_many
    (name_full (kept c.self.inside) c.args.self.now c.self.view_is c.self.invariant c.args.name.now))

pub returns-clause-too_many : goal.returns-clause-too_many
returns-clause-too_many c =
    answered_as c.in_ok-number.number _ c.in_ok-number.ensures.too_many
    (name_full (kept c.self.inside) c.args.self.now c.self.view_is c.self.invariant c.args.name.now)
