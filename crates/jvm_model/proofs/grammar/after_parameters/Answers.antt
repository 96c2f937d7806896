use Rattle.std.proofs.Common.{◌≡◌, ◌+◌, take, drop, List, ℕ, ◌∷◌, [], sym, ◌∙◌, subst, arith}
use Rattle.std.proofs.lemmas.Bool.Decides.{Decides-eqb}
use Rattle.std.proofs.lemmas.List.{take-append-drop}
use Rattle.std.proofs.lemmas.Slice.Eq.{strip_prefix_is}
use Rattle.jvm_model.specs.Descriptors.{IsFieldDescriptor, units_of}
use Rattle.jvm_model.proofs.Parameters.{HasRead, read_nothing, read_more, over_limit, ends_by_strip}
use Rattle.jvm_model.proofs.grammar.after_parameters.Goals as goal

-- One more parameter is read, where its slices and its units are known by equations.
step : (text rest front after : List ℕ) (units n k : ℕ) → HasRead text rest units → IsFieldDescriptor (take n rest) → front ≡ take n rest → after ≡ drop n rest → k ≡ units_of front → HasRead text after (units + k)
step text rest front after units n k read is front_is after_is units_are =
    subst (λ u. HasRead text after (units + u)) (sym units_are)
    (read_more text rest front after units read (subst IsFieldDescriptor (sym front_is) is) (sym (take-append-drop n rest) ∙ cc (front_is, after_is)))

pub loop-length-init : goal.loop-length-init
loop-length-init c = (read_nothing c.args.text.now, omega arith)

pub returns-then-units-gt-MOST_UNITS : goal.returns-then-units-gt-MOST_UNITS
returns-then-units-gt-MOST_UNITS c = λ outcome ends.
    let read = step c.args.text.now c.loop-length.rest.now c.split_at.result.0.now c.split_at.result.1.now c.loop-length.units c.in-Some.length c.units_of-units.result
    c.loop-length.invariant.0 c.in-Some.ensures.1 c.split_at.ensures.front c.split_at.ensures.back c.units_of-units.ensures in
    over_limit c.args.text.now c.split_at.result.1.now outcome (c.loop-length.units + c.units_of-units.result) read c.if-units-gt-MOST_UNITS.true ends

pub loop-length-preserved : goal.loop-length-preserved
loop-length-preserved c = (
  step c.args.text.now c.loop-length.rest.now c.split_at.result.0.now c.split_at.result.1.now c.loop-length.units c.in-Some.length c.units_of-units.result
      c.loop-length.invariant.0 c.in-Some.ensures.1 c.split_at.ensures.front c.split_at.ensures.back c.units_of-units.ensures,
  c.if-units-gt-MOST_UNITS.false,
)

pub returns : goal.returns
returns c =
    let rest = c.loop-length.rest.now in
    ends_by_strip c.args.text.now rest c.loop-length.units c.strip_prefix.result c.loop-length.invariant.0 c.loop-length.invariant.1 c.in_default.ensures
    (strip_prefix_is Decides-eqb rest (41 ∷ []) c.strip_prefix.result c.strip_prefix.ensures.cases)
