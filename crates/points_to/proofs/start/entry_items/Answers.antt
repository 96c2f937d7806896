use Rattle.std.proofs.Common.{sym, ◌∙◌, ap, subst, List, ◌++◌, ◌∷◌, []}
use Rattle.points_to_numbers.specs.declared.item.Item.{Item}
use Rattle.points_to_numbers.specs.declared.item.Item.TheVariants.{Calls}
use Rattle.points_to_numbers.specs.Steps.{Adds}
use Rattle.points_to.specs.Starting.{EntryItem}
use Rattle.points_to.proofs.StartParts.{entry_added}
use Rattle.points_to.proofs.start.entry_items.Goals as goal

pub returns-clause-adds : goal.returns-clause-adds
returns-clause-adds c =
    let entry = c.args.entry in
    let call = c.in_ok-call.call in
    let steps = c.args.work.now.steps.items in
    let n = c.start_call.new.tables in
    let items = c.in_ok-push-2.ensures.items ∙ ap (λ (xs : List Item). xs ++ Calls call entry ∷ []) c.in_ok-push.ensures.items in
    subst (λ (xs : List Item). Adds n (EntryItem entry) steps xs) (sym items) (entry_added n entry call steps c.in_ok-call.ensures.number)
