-- The units of a call: each is the value of a slot that the call reads, or a primitive.
use Rattle.std.proofs.Common.{◌≡◌, ℕ, zero, suc, List, [], ◌∷◌, Option, Some, None, Contains, option_to_list, refl, sym, subst}
use Rattle.std.specs.Prelude.{slice_get}
use Rattle.std.proofs.lemmas.List.Elements.{Contains-append_left, Contains-append_right}
use Rattle.std.proofs.lemmas.Option.{same_Some, none-some}
use Rattle.list_laws.proofs.Members.{contains_first}
use Rattle.machine_bytecode.specs.States.{Value, primitive_value, slot_at}
use Rattle.machine_nodes.specs.Slots.{argument_values, argument_slots}

-- what a unit of a call is
pub data IsUnit (arguments : List (Option ℕ)) (slots : List Value) (unit : ℕ) : Type 0 where
  of_slot : (z : ℕ) → slice_get arguments unit ≡ Some (Some z) → slot_at (argument_values arguments slots) unit ≡ slot_at slots z → IsUnit arguments slots unit
  of_none : slot_at (argument_values arguments slots) unit ≡ primitive_value → IsUnit arguments slots unit

pub unit_is : (arguments : List (Option ℕ)) (slots : List Value) (unit : ℕ) → IsUnit arguments slots unit
unit_is [] slots unit = of_none refl
unit_is (None ∷ arguments) slots zero = of_none refl
unit_is (Some z ∷ arguments) slots zero = of_slot z refl refl
unit_is (a ∷ arguments) slots (suc unit) = by (unit_is arguments slots unit)
  where
    by : IsUnit arguments slots unit → IsUnit (a ∷ arguments) slots (suc unit)
    by (of_slot z at e) = of_slot z at e
    by (of_none e) = of_none e

pub argument_there : (arguments : List (Option ℕ)) (unit z : ℕ) → slice_get arguments unit ≡ Some (Some z) → Contains (argument_slots arguments) z
argument_there [] unit z e = absurd (none-some (Some z) e)
argument_there (a ∷ arguments) zero z e =
    Contains-append_left (option_to_list a) (argument_slots arguments) z
    (subst (λ (o : Option ℕ). Contains (option_to_list o) z) (sym (same_Some a (Some z) e)) (contains_first z []))
argument_there (a ∷ arguments) (suc unit) z e = Contains-append_right (option_to_list a) (argument_slots arguments) z (argument_there arguments unit z e)
