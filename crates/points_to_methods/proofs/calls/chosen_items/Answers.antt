use Rattle.std.proofs.Common.{refl, sym, ap, subst, ◌∙◌}
use Rattle.std.proofs.lemmas.Option.{none-some, same_Some}
use Rattle.jvm_model.specs.declared.number.MethodNo.{MethodNo}
use Rattle.points_to_rules.specs.Facts.{may_call}
use Rattle.points_to_constraints.specs.Items.{known}
use Rattle.points_to_numbers.specs.declared.item.Item.TheVariants.{Calls}
use Rattle.points_to_numbers.specs.Steps.{Adds}
use Rattle.points_to_numbers.proofs.Adding.{adds_none, adds_only}
use Rattle.points_to_methods.specs.CallParts.{ChosenItem}
use Rattle.points_to_methods.proofs.calls.chosen_items.Goals as goal

pub returns-in_default : goal.returns-in_default
returns-in_default c = λ n site stands.
    adds_none n (ChosenItem site.at c.args.chosen) c.args.steps.now.items (λ x (target, is, e). none-some target (sym c.in_default.is ∙ is))

pub returns : goal.returns
returns c = λ n site stands.
    let target = c.in-Some.target in
    let before = c.args.steps.now.items in
    subst (Adds n (ChosenItem site.at c.args.chosen) before) (sym c.in_ok-push.ensures.items)
    (adds_only n (ChosenItem site.at c.args.chosen) before (Calls c.args.number target) (known (may_call site.at target)) (site, stands, refl) (target, c.in-Some.is, refl)
    (λ y (other, is, e). e ∙ ap (λ (t : MethodNo). known (may_call site.at t)) (same_Some other target (sym is ∙ c.in-Some.is))))
