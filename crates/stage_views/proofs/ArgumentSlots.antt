-- The slots of a call's arguments.
use Rattle.std.proofs.Common.{◌≡◌, ℕ, ◌<◌, nat_eq, Bool, true, ◌||◌, List, [], ◌∷◌, length, get_or, Option, option_to_list, refl, sym, ◌∙◌, ap}
use Rattle.std.specs.List.{list_any}
use Rattle.std.proofs.lemmas.List.Folds.{list_any-append, list_any_at}
use Rattle.machine_nodes.specs.Slots.{argument_slots}
use Rattle.stage_transfer.specs.Settings.{among}

abbrev has : (slot : ℕ) → Option ℕ → Bool
has slot a = list_any (nat_eq slot) (option_to_list a)

among_each : (slot : ℕ) (arguments : List (Option ℕ)) → among (argument_slots arguments) slot ≡ list_any (has slot) arguments
among_each slot [] = refl
among_each slot (a ∷ rest) =
    list_any-append (nat_eq slot) (option_to_list a) (argument_slots rest) ∙ ap (λ (b : Bool). has slot a || b) (among_each slot rest)

pub among_one : (slot : ℕ) (arguments : List (Option ℕ)) (i : ℕ) (d : Option ℕ) → i < length arguments → has slot (get_or arguments i d) ≡ true
    → true ≡ among (argument_slots arguments) slot
among_one slot arguments i d within here = sym (among_each slot arguments ∙ list_any_at (has slot) arguments i d within here)
