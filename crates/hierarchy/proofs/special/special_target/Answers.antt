use Rattle.std.proofs.Common.{◌∙◌, refl, sym}
use Rattle.jvm_model.specs.Selection.{selected, no_code, nothing}
use Rattle.hierarchy.proofs.ClassPlaces.{method_there}
use Rattle.hierarchy.proofs.special.special_target.Goals as goal

pub returns-in_default-clause-selection : goal.returns-in_default-clause-selection
returns-in_default-clause-selection c = λ m stands. nothing (c.in_default.ensures.search m stands) refl

pub returns-then-is_abstract-clause-selection : goal.returns-then-is_abstract-clause-selection
returns-then-is_abstract-clause-selection c = λ m stands.
    let target = method_there c.args.program.now c.in-Some.target.0 c.in-Some.ensures.below in
    no_code c.in-Some.target.0 target.0 (c.in-Some.ensures.search m stands) target.1 (sym (c.is_abstract.ensures target.0 target.1) ∙ c.if-is_abstract.true) refl

pub returns-clause-selection : goal.returns-clause-selection
returns-clause-selection c = λ m stands.
    let target = method_there c.args.program.now c.in-Some.target.0 c.in-Some.ensures.below in
    selected c.in-Some.target.0 target.0 (c.in-Some.ensures.search m stands) target.1 (sym (c.is_abstract.ensures target.0 target.1) ∙ c.if-is_abstract.false) refl
