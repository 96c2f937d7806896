use Rattle.std.proofs.Common.{sym, ◌∙◌}
use Rattle.std.proofs.lemmas.Bool.{false≢true}
use Rattle.lowering_reasons.proofs.ArrayElements.{array_there, array_other}
use Rattle.lowering_reasons.proofs.absent.is_not_there.Goals as goal

pub returns-in-Some : goal.returns-in-Some
returns-in-Some c =
    array_there c.args.program.now c.args.name.now c.in-Some.class.now c.is_missing-in-Some.result (sym c.is_array.ensures ∙ c.if-not-is_array.false) c.in-Some.ensures
    c.is_missing-in-Some.ensures

pub returns-in-None : goal.returns-in-None
returns-in-None c = (
  λ never. absurd (false≢true never),
  λ h. absurd (array_other c.args.program.now c.args.name.now (sym c.is_array.ensures ∙ c.if-not-is_array.false) c.in-None.ensures h),
)
