use Rattle.std.proofs.lemmas.Bool.{false≢true}
use Rattle.hierarchy.proofs.ClassNames.{below_by_numbers, below_nowhere, nowhere_above}
use Rattle.hierarchy.proofs.casts.is_class_below.Goals as goal

pub returns-in_default : goal.returns-in_default
returns-in_default c = (
  λ never. absurd (false≢true never),
  λ h. absurd (below_nowhere c.args.program.now c.args.upper.now c.args.lower.now c.in_default.ensures.none h),
)

pub returns-in_default-find_class : goal.returns-in_default-find_class
returns-in_default-find_class c = (
  λ never. absurd (false≢true never),
  λ h. absurd (nowhere_above c.args.program.now c.well_formed-2.ensures.program c.args.upper.now c.args.lower.now c.in_default-find_class.ensures.none h),
)

pub returns : goal.returns
returns c =
    let upper = c.in-Some-find_class.ensures.found in
    let lower = c.in-Some.ensures.found in
    below_by_numbers c.args.program.now c.well_formed-2.ensures.program c.args.upper.now c.args.lower.now c.in-Some-find_class.upper_class.0 c.in-Some.lower_class.0
    c.is_subtype.result lower.0 upper.1 lower.1 c.is_subtype.ensures
