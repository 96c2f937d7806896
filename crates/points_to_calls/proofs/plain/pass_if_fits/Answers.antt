use Rattle.std.proofs.Common.{refl, sym, ◌∙◌}
use Rattle.std.proofs.lemmas.Bool.{false≢true}
use Rattle.points_to_rules.specs.Facts.{may_hold}
use Rattle.points_to_constraints.specs.Items.{known}
use Rattle.points_to_numbers.specs.declared.item.Item.TheVariants.{Holds}
use Rattle.points_to_numbers.proofs.Making.{makes_none, makes_one}
use Rattle.points_to_calls.specs.Constraints.{FittingPassed}
use Rattle.points_to_calls.proofs.plain.pass_if_fits.Goals as goal

pub fits_kept-requires-clause-lower : goal.fits_kept-requires-clause-lower
fits_kept-requires-clause-lower c = let (s, there) = c.requires.site in (s.class, (c.site_of.ensures s there).class)

pub returns-in_ok-push-clause-made : goal.returns-in_ok-push-clause-made
returns-in_ok-push-clause-made c = λ name h s named held there.
    let p = c.args.program.now in let n = c.args.work.now.tables in let a = c.args.work.now.steps.items in let b = c.push.new.self.items in
    let fit = (c.in_ok-does_fit.ensures.fits name s.class named (c.site_of.ensures s there).class).0 c.if-does_fit.true in
    makes_one n (FittingPassed p name h s) a b (Holds c.args.filter.to c.args.site) (known (may_hold h s)) c.in_ok-push.ensures.items (h, s, held, there, refl) (fit, refl) (λ y q. q.1)

pub returns-else-does_fit-clause-made : goal.returns-else-does_fit-clause-made
returns-else-does_fit-clause-made c = λ name h s named held there.
    let p = c.args.program.now in let n = c.args.work.now.tables in let a = c.args.work.now.steps.items in
    makes_none n (FittingPassed p name h s) a (λ x both.
    false≢true (sym c.if-does_fit.false ∙ (c.in_ok-does_fit.ensures.fits name s.class named (c.site_of.ensures s there).class).1 both.0))
