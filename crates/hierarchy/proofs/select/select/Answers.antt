use Rattle.std.proofs.Common.{◌∙◌, refl, sym}
use Rattle.std.proofs.lemmas.Bool.{false≢true}
use Rattle.jvm_model.specs.Selection.{selected, no_code, hidden}
use Rattle.program_model.specs.Numbers.{name_at}
use Rattle.hierarchy.proofs.ClassPlaces.{method_there}
use Rattle.hierarchy.proofs.Selecting.{selects_within}
use Rattle.hierarchy.proofs.select.select.Goals as goal

pub is_abstract-requires : goal.is_abstract-requires
is_abstract-requires c =
    let p = c.args.program.now in
    selects_within p c.args.interface (name_at p c.args.receiver.0) c.args.resolved.0 c.in-One.target.0 c.in-One.ensures

pub returns-then-is_abstract-clause-selection : goal.returns-then-is_abstract-clause-selection
returns-then-is_abstract-clause-selection c =
    let p = c.args.program.now in
    let within = selects_within p c.args.interface (name_at p c.args.receiver.0) c.args.resolved.0 c.in-One.target.0 c.in-One.ensures in
    let m = method_there p c.in-One.target.0 within in
    no_code c.in-One.target.0 m.0 c.in-One.ensures m.1 (sym (c.is_abstract.ensures m.0 m.1) ∙ c.if-is_abstract.true) refl

pub returns-then-is_package_overridden-clause-selection : goal.returns-then-is_package_overridden-clause-selection
returns-then-is_package_overridden-clause-selection c =
    let p = c.args.program.now in
    let within = selects_within p c.args.interface (name_at p c.args.receiver.0) c.args.resolved.0 c.in-One.target.0 c.in-One.ensures in
    let m = method_there p c.in-One.target.0 within in
    hidden c.in-One.target.0 m.0 c.in-One.ensures m.1 (sym (c.is_abstract.ensures m.0 m.1) ∙ c.if-is_abstract.false)
    (c.is_package_overridden.ensures.0 c.if-is_package_overridden.true) refl

pub returns-else-is_package_overridden-clause-selection : goal.returns-else-is_package_overridden-clause-selection
returns-else-is_package_overridden-clause-selection c =
    let p = c.args.program.now in
    let within = selects_within p c.args.interface (name_at p c.args.receiver.0) c.args.resolved.0 c.in-One.target.0 c.in-One.ensures in
    let m = method_there p c.in-One.target.0 within in
    selected c.in-One.target.0 m.0 c.in-One.ensures m.1 (sym (c.is_abstract.ensures m.0 m.1) ∙ c.if-is_abstract.false)
    (λ h. false≢true (sym c.if-is_package_overridden.false ∙ c.is_package_overridden.ensures.1 h)) refl

pub returns-else-is_package_overridden-clause-below : goal.returns-else-is_package_overridden-clause-below
returns-else-is_package_overridden-clause-below c =
    selects_within c.args.program.now c.args.interface (name_at c.args.program.now c.args.receiver.0) c.args.resolved.0 c.in-One.target.0 c.in-One.ensures
