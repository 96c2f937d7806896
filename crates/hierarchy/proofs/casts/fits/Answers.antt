use Rattle.std.proofs.Common.{refl, sym, ◌∙◌}
use Rattle.std.proofs.lemmas.Bool.{false≢true, iff_false}
use Rattle.jvm_model.specs.Subtypes.{by_itself}
use Rattle.hierarchy.proofs.FitSteps.{fit_class, fit_super, no_lower_array, no_upper_array, stand_elements}
use Rattle.hierarchy.proofs.casts.fits.Goals as goal

pub returns-then-is_same_array : goal.returns-then-is_same_array
returns-then-is_same_array c =
    let same = c.is_same_array.ensures.0 c.if-is_same_array.true in (λ _. by_itself c.args.upper.now c.args.lower.now same.0 same.1, λ _. refl)

pub returns-then-is_array_super : goal.returns-then-is_array_super
returns-then-is_array_super c =
    let array = sym c.is_array.ensures ∙ c.loop-over-test.true in
    let super = c.is_array_super.ensures.0 c.if-is_array_super.true in
    (λ _. fit_super c.args.program.now c.well_formed-2.ensures.program _ _ _ _ c.loop-over.invariant array super, λ _. refl)

pub returns-in_default : goal.returns-in_default
returns-in_default c =
    let array = sym c.is_array.ensures ∙ c.loop-over-test.true in
    let other = iff_false c.is_array_super.ensures c.if-is_array_super.false in (
      λ never. absurd (false≢true never),
      λ h. absurd (no_upper_array c.args.program.now c.well_formed-2.ensures.program _ _ _ _ c.loop-over.invariant array other c.in_default.ensures.none h),
    )

pub returns-in_default-element : goal.returns-in_default-element
returns-in_default-element c =
    let array = sym c.is_array.ensures ∙ c.loop-over-test.true in
    let other = iff_false c.is_array_super.ensures c.if-is_array_super.false in (
      λ never. absurd (false≢true never),
      λ h. absurd (no_lower_array c.args.program.now c.well_formed-2.ensures.program _ _ _ _ c.loop-over.invariant array other c.in_default-element.ensures.none h),
    )

pub loop-over-preserved : goal.loop-over-preserved
loop-over-preserved c =
    let array = sym c.is_array.ensures ∙ c.loop-over-test.true in
    let other = iff_false c.is_array_super.ensures c.if-is_array_super.false in
    stand_elements c.args.program.now c.well_formed-2.ensures.program _ _ _ _ c.loop-over.invariant _ _ array other c.in-Some.ensures.of c.in-Some-element.ensures.of

pub returns : goal.returns
returns c =
    let plain = sym c.is_array.ensures ∙ c.loop-over-test.false in
    fit_class c.args.program.now c.well_formed-2.ensures.program _ _ _ _ c.loop-over.invariant plain c.is_class_below.result c.is_class_below.ensures
