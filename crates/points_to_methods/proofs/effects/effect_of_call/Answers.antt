use Rattle.std.proofs.Common.{ℕ, Bool, nat_eq, cond, option_to_list, sym, ap, ◌∙◌, ◌||◌}
use Rattle.std.specs.List.{list_any}
use Rattle.std.proofs.lemmas.List.Folds.{list_any-append}
use Rattle.machine_nodes.specs.Slots.{argument_slots}
use Rattle.slot_names.specs.Variables.{keeps, writes}
use Rattle.points_to_methods.proofs.FoundMoves.{among_arguments}
use Rattle.points_to_methods.proofs.effects.effect_of_call.Goals as goal

pub returns-then-is_in : goal.returns-then-is_in
returns-then-is_in c =
    let call = c.args.call.now in
    let slot = c.args.slot in
    sym (ap (λ (b : Bool). cond b writes keeps)
    (list_any-append (λ (y : ℕ). nat_eq y slot) (option_to_list call.result) (argument_slots call.arguments)
    ∙ ap (λ (b : Bool). b || list_any (λ (y : ℕ). nat_eq y slot) (argument_slots call.arguments)) (sym c.is_in.ensures ∙ c.if-is_in.true)))

pub returns : goal.returns
returns c =
    let call = c.args.call.now in
    let slot = c.args.slot in
    c.effect_of_writes.ensures ∙ sym (ap (λ (b : Bool). cond b writes keeps)
    (list_any-append (λ (y : ℕ). nat_eq y slot) (option_to_list call.result) (argument_slots call.arguments)
    ∙ ap (λ (b : Bool). b || list_any (λ (y : ℕ). nat_eq y slot) (argument_slots call.arguments)) (sym c.is_in.ensures ∙ c.if-is_in.false)
    ∙ among_arguments slot call.arguments ∙ cc))
