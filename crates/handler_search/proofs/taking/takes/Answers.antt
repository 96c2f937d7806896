use Rattle.std.proofs.Common.{◌≡◌, ◌<◌, length, sym, subst, List, ℕ, Option, arith}
use Rattle.std.specs.Option.{IfSome}
use Rattle.jvm_model.specs.declared.number.ClassNo.{ClassNo}
use Rattle.jvm_model.specs.Subtypes.{Fits}
use Rattle.program_model.specs.Numbers.{name_at, IsClassNumber}
use Rattle.hierarchy.proofs.ClassPlaces.{class_of_number}
use Rattle.handler_search.proofs.TakenClasses.{takes_fitting, fits_taken, fits_above}
use Rattle.handler_search.proofs.taking.takes.Goals as goal

pub returns-in-Some-thrown : goal.returns-in-Some-thrown
returns-in-Some-thrown c =
    let p = c.args.program.now in
    let class = c.args.class.now in
    let program = c.well_formed-2.ensures.program in
    let caught = c.in-Some.caught in
    let number = c.in-Some-thrown.number in
    let within : caught.0 < length p.classes = omega arith in
    let known : IsClassNumber p number.0 × (name_at p number.0 ≡ class) =
    subst (λ (o : Option ClassNo). IfSome o (λ n. IsClassNumber p n.0 × (name_at p n.0 ≡ class))) c.in-Some-thrown.is c.requires in
    let (of_class, at) = class_of_number p program number.0 known.0 in
    let fits = fits_above p program (name_at p caught.0) (name_at p number.0) of_class at.named in (
      λ t. takes_fitting p c.args.handler caught class c.in-Some.is within (subst (λ (name : List ℕ). Fits p (name_at p caught.0) name) known.1 (fits.0 (c.is_at_or_above.ensures.0 t))),
      λ takes. c.is_at_or_above.ensures.1 (fits.1 (subst (λ (name : List ℕ). Fits p (name_at p caught.0) name) (sym known.1) (fits_taken p c.args.handler caught class c.in-Some.is takes))),
    )

pub returns-in-None : goal.returns-in-None
returns-in-None c =
    let p = c.args.program.now in
    let class = c.args.class.now in
    let within : c.in-Some.caught.0 < length p.classes = omega arith in (
      λ t. takes_fitting p c.args.handler c.in-Some.caught class c.in-Some.is within (subst (λ (name : List ℕ). Fits p name class) c.class_name.ensures (c.fits.ensures.0 t)),
      λ takes. c.fits.ensures.1 (subst (λ (name : List ℕ). Fits p name class) (sym c.class_name.ensures) (fits_taken p c.args.handler c.in-Some.caught class c.in-Some.is takes)),
    )
