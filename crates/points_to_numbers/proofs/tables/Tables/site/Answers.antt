use Rattle.std.proofs.Common.{refl}
use Rattle.std.proofs.lemmas.Result.{err_from_is_err_and}
use Rattle.points_to_numbers.specs.Kept.{kept}
use Rattle.points_to_numbers.proofs.FreshKeys.{failed_as, answered_as, site_full}
use Rattle.points_to_numbers.proofs.NewNumbers.{calls_stay, site_numbered}
use Rattle.points_to_numbers.proofs.tables.Tables.site.Goals as goal

pub invariant_of-self-2 : goal.invariant_of-self-2
invariant_of-self-2 c = (site_numbered (kept c.self.inside) c.args.self.now c.self.view_is c.self.invariant c.number_of.new.keys.keys c.args.key c.in_ok-number.number c.in_ok-number.ensures.keys c.in_ok-number.ensures.few c.in_ok-number.ensures.stored c.requires).sound

pub returns-clause-grows : goal.returns-clause-grows
returns-clause-grows c = (site_numbered (kept c.self.inside) c.args.self.now c.self.view_is c.self.invariant c.number_of.new.keys.keys c.args.key c.in_ok-number.number c.in_ok-number.ensures.keys c.in_ok-number.ensures.few c.in_ok-number.ensures.stored c.requires).grows

pub returns-clause-stands : goal.returns-clause-stands
returns-clause-stands c = (site_numbered (kept c.self.inside) c.args.self.now c.self.view_is c.self.invariant c.number_of.new.keys.keys c.args.key c.in_ok-number.number c.in_ok-number.ensures.keys c.in_ok-number.ensures.few c.in_ok-number.ensures.stored c.requires).stands

pub returns-clause-calls : goal.returns-clause-calls
returns-clause-calls c = calls_stay (kept c.self.inside) c.args.self.now c.self.view_is c.self.invariant (record (kept c.self.inside) { sites = c.number_of.new.keys.keys }) refl

pub returns-in_err-number-clause-too_many : goal.returns-in_err-number-clause-too_many
returns-in_err-number-clause-too_many c = λ s at.
    let e = err_from_is_err_and c.from_residual.result c.from_residual.ensures.1 in
    rw (e.1, e.2) (failed_as c.in_err-number.field-0.0 c.in_err-number.ensures.too_many
    (site_full (kept c.self.inside) c.args.self.now c.self.view_is c.self.invariant c.apart.ensures c.args.key s at))

pub returns-clause-too_many : goal.returns-clause-too_many
returns-clause-too_many c = λ s at.
    answered_as c.in_ok-number.number _ c.in_ok-number.ensures.too_many
    (site_full (kept c.self.inside) c.args.self.now c.self.view_is c.self.invariant c.apart.ensures c.args.key s at)
