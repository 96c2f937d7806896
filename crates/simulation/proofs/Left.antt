-- What a node that is no assignment leaves in the slots.
use Rattle.std.proofs.Common.{◌≡◌, ◌≢◌, ⊎_elim, ℕ, ◌+◌, ◌-◌, ◌≤◌, List, [], ◌∷◌, ◌++◌, length, replicate, Option, Some, None, sym, ap, ◌∙◌, refl, subst, arith, length-append}
use Rattle.std.specs.Prelude.{Contains}
use Rattle.std.proofs.lemmas.Bool.{cases_lt}
use Rattle.std.proofs.lemmas.List.{get_or_append_left, get_or_past, get_or_at, get_or-append_right, get_or-replicate, length-replicate, append-nil}
use Rattle.std.proofs.lemmas.Option.{same_Some, none-some}
use Rattle.machine_bytecode.specs.States.{Value, primitive_value, slot_at}
use Rattle.machine_nodes.specs.Slots.{AreLeft, AreSame}

-- these list the slots of what was popped, but for some that read as primitives
pub record ArePopped (kept units : List Value) (operands : List ℕ) : Type 0 where
  pub above : (z : ℕ) → Contains operands z → length kept ≤ z
  pub each : (i : ℕ) → (Contains operands (length kept + i) → ⊥) → slot_at units i ≡ primitive_value

-- a slot that is neither kept nor listed
reads_clear : (kept units : List Value) (operands : List ℕ) → ArePopped kept units operands → (z : ℕ) → length kept ≤ z → (Contains operands z → ⊥) → slot_at (kept ++ units) z ≡ primitive_value
reads_clear kept units operands are z le free =
    let at : length kept + (z - length kept) ≡ z = omega arith in
    get_or-append_right kept units (length kept) z primitive_value refl le ∙ are.each (z - length kept) (λ held. free (subst (Contains operands) at held))

above : (kept : List Value) (v : Value) (z : ℕ) → length kept ≤ z → ◌≢◌ {A = Option ℕ} (Some (length kept)) (Some z) → length (kept ++ v ∷ []) ≤ z
above kept v z le other =
    let ne : length kept ≢ z = λ e. other (ap Some e) in
    omega (arith, length-append kept (v ∷ []))

-- one unit in place of what was popped
pub left_one : (kept units : List Value) (operands : List ℕ) (v : Value) → ArePopped kept units operands → AreLeft operands (Some (length kept)) v (kept ++ units) (kept ++ v ∷ [])
left_one kept units operands v are = record {
  given = λ z e. get_or_at kept v [] primitive_value z (same_Some (length kept) z e);
  cleared = λ z held other. let past : length (kept ++ v ∷ []) ≤ z = above kept v z (are.above z held) other in get_or_past (kept ++ v ∷ []) z primitive_value past;
  kept = λ z free other. ⊎_elim
      (λ lt. get_or_append_left kept (v ∷ []) primitive_value z lt ∙ sym (get_or_append_left kept units primitive_value z lt))
      (λ le. get_or_past (kept ++ v ∷ []) z primitive_value (above kept v z le other) ∙ sym (reads_clear kept units operands are z le free))
      (cases_lt z (length kept));
}

-- a list that reads as primitives
abbrev pub AllPrimitive : List Value → Type 0
AllPrimitive vs = (i : ℕ) → slot_at vs i ≡ primitive_value

-- primitives in place of what was popped
pub left_primitives : (kept units pushed : List Value) (operands : List ℕ) (v : Value) → ArePopped kept units operands → AllPrimitive pushed → AreLeft operands None v (kept ++ units) (kept ++ pushed)
left_primitives kept units pushed operands v are clear = record {
  given = λ z e. absurd (none-some z e);
  cleared = λ z held other. reads_past z (are.above z held);
  kept = λ z free other. ⊎_elim
      (λ lt. get_or_append_left kept pushed primitive_value z lt ∙ sym (get_or_append_left kept units primitive_value z lt))
      (λ le. reads_past z le ∙ sym (reads_clear kept units operands are z le free))
      (cases_lt z (length kept));
}
  where
    reads_past : (z : ℕ) → length kept ≤ z → slot_at (kept ++ pushed) z ≡ primitive_value
    reads_past z le = get_or-append_right kept pushed (length kept) z primitive_value refl le ∙ clear (z - length kept)

nothing_clear : AllPrimitive []
nothing_clear i = refl

-- nothing in place of what was popped
pub left_none : (kept units : List Value) (operands : List ℕ) (v : Value) → ArePopped kept units operands → AreLeft operands None v (kept ++ units) kept
left_none kept units operands v are = subst (λ (new : List Value). AreLeft operands None v (kept ++ units) new) (append-nil kept) (left_primitives kept units [] operands v are nothing_clear)

-- local variables past the arguments
pub past_arguments : (vs : List Value) (n i : ℕ) → length vs ≤ i → slot_at (vs ++ replicate n primitive_value) i ≡ primitive_value
past_arguments vs n i le =
    ⊎_elim
    (λ lt. get_or-append_right vs (replicate n primitive_value) (length vs) i primitive_value refl le ∙ get_or-replicate n (i - length vs) primitive_value primitive_value lt)
    (λ out. get_or_past (vs ++ replicate n primitive_value) i primitive_value (omega (arith, length-append vs (replicate n primitive_value), length-replicate n primitive_value)))
    (cases_lt (i - length vs) n)

-- the new frame's slots read as its arguments do
pub arguments_same : (vs : List Value) (n : ℕ) → AreSame vs (vs ++ replicate n primitive_value)
arguments_same vs n z =
    ⊎_elim
    (λ lt. get_or_append_left vs (replicate n primitive_value) primitive_value z lt)
    (λ le. past_arguments vs n z le ∙ sym (get_or_past vs z primitive_value le))
    (cases_lt z (length vs))
