-- What an instruction leaves in each slot.
use Rattle.std.proofs.Common.{◌≡◌, ◌≢◌, ℕ, suc, ◌+◌, ◌-◌, ◌<◌, ◌≤◌, ◌⊎◌, inl, inr, ⊎_elim, List, [], ◌∷◌, ◌++◌, length, map, Some, set, sym, ap, ◌∙◌, refl, arith, length-append}
use Rattle.std.specs.Prelude.{slice_get}
use Rattle.std.proofs.lemmas.Bool.{cases_eq}
use Rattle.std.proofs.lemmas.List.{length-map, get_or_past, length-set, get_or-set_same, get_or-set_other, get_or_append_left, get_or-append_right, get_or-map}
use Rattle.std.proofs.lemmas.Option.{slice_get_within, get_or_from_slice_get}
use Rattle.jvm_model.specs.Table.{Row, UnitSource, a_primitive}
use Rattle.machine_bytecode.specs.States.{Value, primitive_value, slot_at}
use Rattle.machine_bytecode.specs.Machine.{value_of, written, effect}

-- ---- values that are written from a slot on

pub length-written : (slots : List Value) (from : ℕ) (vs : List Value) → length (written slots from vs) ≡ length slots
length-written slots from [] = refl
length-written slots from (v ∷ vs) = length-written (set slots from v) (from + 1) vs ∙ length-set slots from v

written_elsewhere : (slots : List Value) (from : ℕ) (vs : List Value) (z : ℕ) → (z < from) ⊎ (from + length vs ≤ z) → slot_at (written slots from vs) z ≡ slot_at slots z
written_elsewhere slots from [] z out = refl
written_elsewhere slots from (v ∷ vs) z out =
    let other : z ≢ from = ⊎_elim (λ lt e. absurd (omega arith)) (λ le e. absurd (omega arith)) out in
    let rest : (z < from + 1) ⊎ (from + 1 + length vs ≤ z) = ⊎_elim (λ lt. inl (omega arith)) (λ le. inr (omega arith)) out in
    written_elsewhere (set slots from v) (from + 1) vs z rest ∙ get_or-set_other slots from z v primitive_value other

written_here : (slots : List Value) (from : ℕ) (vs : List Value) (z : ℕ) → from + length vs ≤ length slots → from ≤ z → z < from + length vs → slot_at (written slots from vs) z ≡ slot_at vs (z - from)
written_here slots from [] z fits low high = absurd (omega arith)
written_here slots from (v ∷ vs) z fits low high =
    ⊎_elim
    (λ e.
    let out : (z < from + 1) ⊎ (from + 1 + length vs ≤ z) = inl (omega arith) in
    let first : z - from ≡ 0 = omega arith in
    written_elsewhere (set slots from v) (from + 1) vs z out
    ∙ ap (λ k. slot_at (set slots from v) k) e ∙ get_or-set_same slots from v primitive_value (omega arith)
    ∙ ap (λ k. slot_at (v ∷ vs) k) (sym first))
    (λ ne.
    let next : z - from ≡ suc (z - (from + 1)) = omega arith in
    written_here (set slots from v) (from + 1) vs z (omega (arith, length-set slots from v)) (omega arith) (omega arith)
    ∙ ap (λ k. slot_at (v ∷ vs) k) (sym next))
    (cases_eq z from)

-- ---- the slots after an instruction

module _ (r : Row) (operand : ℕ) (made : Value) (kept units : List Value) (stores_fit : 0 < length r.stores → operand + length r.stores ≤ length kept) where
  value : UnitSource → Value
  value = value_of made (slot_at (kept ++ units) operand) units

  stored : List Value
  stored = written kept operand (map value r.stores)

  length-stored : length stored ≡ length kept
  unfolding stored
  length-stored = length-written kept operand (map value r.stores)

  -- the value of a unit of a list
  unit_value : (us : List UnitSource) (place : ℕ) (u : UnitSource) → slice_get us place ≡ Some u → slot_at (map value us) place ≡ value u
  unit_value us place u is =
      let inside = slice_get_within us place u is in
      get_or-map value us place a_primitive primitive_value inside ∙ ap value (get_or_from_slice_get us place u a_primitive is)

  effect_below : (z : ℕ) → z < length kept → slot_at (effect r operand made kept units) z ≡ slot_at stored z
  unfolding stored value
  effect_below z lt = get_or_append_left stored (map value r.pushes) primitive_value z (omega (arith, length-stored))

  effect_above : (z : ℕ) → length kept ≤ z → slot_at (effect r operand made kept units) z ≡ slot_at (map value r.pushes) (z - length kept)
  unfolding stored value
  effect_above z le = get_or-append_right stored (map value r.pushes) (length kept) z primitive_value length-stored le

  -- a local variable that is stored
  pub at_store : (place : ℕ) (u : UnitSource) → slice_get r.stores place ≡ Some u → slot_at (effect r operand made kept units) (operand + place) ≡ value_of made (slot_at (kept ++ units) operand) units u
  unfolding stored value
  at_store place u is =
      let inside = slice_get_within r.stores place u is in
      let fits = stores_fit (omega arith) in
      let long = length-map r.stores value in
      let back : operand + place - operand ≡ place = omega arith in
      effect_below (operand + place) (omega (arith, fits, inside))
      ∙ written_here kept operand (map value r.stores) (operand + place) (omega (arith, fits, long)) (omega arith) (omega (arith, inside, long))
      ∙ ap (slot_at (map value r.stores)) back
      ∙ unit_value r.stores place u is

  -- a unit that is pushed
  pub at_push : (place : ℕ) (u : UnitSource) → slice_get r.pushes place ≡ Some u → slot_at (effect r operand made kept units) (length kept + place) ≡ value_of made (slot_at (kept ++ units) operand) units u
  unfolding value
  at_push place u is =
      let back : length kept + place - length kept ≡ place = omega arith in
      effect_above (length kept + place) (omega arith) ∙ ap (slot_at (map value r.pushes)) back ∙ unit_value r.pushes place u is

  -- past those
  pub past_pushes : (z : ℕ) → length kept + length r.pushes ≤ z → slot_at (effect r operand made kept units) z ≡ primitive_value
  past_pushes z le = effect_above z (omega arith) ∙ get_or_past (map value r.pushes) (z - length kept) primitive_value (omega (arith, length-map r.pushes value))

  -- a kept slot that is not stored
  pub not_stored : (z : ℕ) → z < length kept → (z < operand) ⊎ (operand + length r.stores ≤ z) → slot_at (effect r operand made kept units) z ≡ slot_at (kept ++ units) z
  unfolding stored
  not_stored z lt out =
      effect_below z lt
      ∙ written_elsewhere kept operand (map value r.stores) z (⊎_elim (λ less. inl less) (λ le. inr (omega (arith, le, length-map r.stores value))) out)
      ∙ sym (get_or_append_left kept units primitive_value z lt)

-- so many slots are left
pub length_after : (r : Row) (operand : ℕ) (made : Value) (kept units : List Value) → length (effect r operand made kept units) ≡ length kept + length r.pushes
length_after r operand made kept units =
    let value = value_of made (slot_at (kept ++ units) operand) units in
    length-append (written kept operand (map value r.stores)) (map value r.pushes)
    ∙ ap (λ n. n + length (map value r.pushes)) (length-written kept operand (map value r.stores))
    ∙ ap (λ n. length kept + n) (length-map r.pushes value)
