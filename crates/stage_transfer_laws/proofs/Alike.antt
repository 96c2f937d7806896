-- The slots that the transfer takes for those of one variable are alike.
use Rattle.std.proofs.Common.{List, ◌≡◌, ℕ, ◌+◌, nat_eq, nat_lt, Bool, true, false, cond, ◌&&◌, [], ◌∷◌, refl, sym, subst, arith}
use Rattle.std.specs.List.{Contains, filter, range_with_len}
use Rattle.std.proofs.lemmas.Bool.{and_from, and_parts, eq-eqb, eqb-true, false≢true, ltb-true}
use Rattle.list_laws.proofs.Members.{contains_first, contains_only}
use Rattle.op_model.specs.declared.lowered.LoweredMethod.{LoweredMethod}
use Rattle.op_model.specs.declared.node.Node.{Node}
use Rattle.slot_names.specs.declared.variable.Variable.{Variable}
use Rattle.slot_names.specs.declared.variable.Variable.TheVariants.{Parameter, At}
use Rattle.slot_names.specs.Variables.{AreReachedNodes, IsVariable}
use Rattle.stage_transfer.specs.Settings.{Setting, alike, same_variable}
use Rattle.stage_relations.specs.Roots.{AreAlike, same, of_one, HasVariables, of_method, of_start}
use Rattle.stage_transfer_laws.proofs.Members.{in_filter, in_range, of_filter, of_range}

-- The setting knows the variables of slots.
abbrev pub Knows : Setting → Type 0
Knows w = (l : LoweredMethod) (n : Node) (z : ℕ) → AreReachedNodes l → Contains l.nodes n → IsVariable l n z (w.answers.variable_at l n z)

pub variable_is : (v u : Variable) → same_variable v u ≡ true → v ≡ u
variable_is (Parameter m y) (Parameter n z) is =
    let parts = and_parts (nat_eq m.0 n.0) (nat_eq y z) is in
    let method = eqb-true m.0 n.0 parts.0 in
    let slot = eqb-true y z parts.1 in
    λ i. Parameter (record { 0 = method i }) (slot i)
variable_is (Parameter m y) (At n offset z) is = absurd (false≢true is)
variable_is (At m offset y) (Parameter n z) is = absurd (false≢true is)
variable_is (At m offset y) (At n other z) is =
    let parts = and_parts (nat_eq m.0 n.0) (nat_eq offset other && nat_eq y z) is in
    let more = and_parts (nat_eq offset other) (nat_eq y z) parts.1 in
    let method = eqb-true m.0 n.0 parts.0 in
    let place = eqb-true offset other more.0 in
    let slot = eqb-true y z more.1 in
    λ i. At (record { 0 = method i }) (place i) (slot i)

is_variable : (v : Variable) → same_variable v v ≡ true
is_variable (Parameter m y) = and_from (nat_eq m.0 m.0) (nat_eq y y) (eq-eqb m.0 m.0 refl) (eq-eqb y y refl)
is_variable (At m offset y) =
    and_from (nat_eq m.0 m.0) (nat_eq offset offset && nat_eq y y) (eq-eqb m.0 m.0 refl)
    (and_from (nat_eq offset offset) (nat_eq y y) (eq-eqb offset offset refl) (eq-eqb y y refl))

-- The test whether a slot has the variable of another one, and the slots of the method.
abbrev like : Setting → LoweredMethod → Node → ℕ → ℕ → Bool
like w l n z y = same_variable (w.answers.variable_at l n y) (w.answers.variable_at l n z)

abbrev slots_of : LoweredMethod → List ℕ
slots_of l = range_with_len 0 (l.slots + l.stack)

pub are_alike : (w : Setting) → Knows w → (l : LoweredMethod) (n : Node) (z y : ℕ) → HasVariables l n → Contains (alike w l n z) y → AreAlike l n y z
are_alike w knows l n z y has there = by (nat_lt z (l.slots + l.stack)) refl there has
  where
    by : (b : Bool) → nat_lt z (l.slots + l.stack) ≡ b → Contains (cond b (filter (λ (k : ℕ). like w l n z k) (slots_of l)) (z ∷ [])) y → HasVariables l n
        → AreAlike l n y z
    by true below there (of_method reached stands) =
        let found = of_filter (λ (k : ℕ). like w l n z k) (slots_of l) y there in
        let one = variable_is (w.answers.variable_at l n y) (w.answers.variable_at l n z) found.1 in
        let inside = of_range 0 (l.slots + l.stack) y found.0 in
        of_one (w.answers.variable_at l n z) (omega (arith, inside)) (ltb-true z (l.slots + l.stack) below)
        (subst (λ (v : Variable). IsVariable l n y v) one (knows l n y reached stands)) (knows l n z reached stands)
    by true below there (of_start slots stack) = absurd (omega (arith, ltb-true z (l.slots + l.stack) below, slots, stack))
    by false above there has = same (sym (contains_only z y there))

pub alike_itself : (w : Setting) (l : LoweredMethod) (n : Node) (z : ℕ) → Contains (alike w l n z) z
alike_itself w l n z = by (nat_lt z (l.slots + l.stack)) refl
  where
    by : (b : Bool) → nat_lt z (l.slots + l.stack) ≡ b → Contains (cond b (filter (λ (k : ℕ). like w l n z k) (slots_of l)) (z ∷ [])) z
    by true below =
        in_filter (λ (k : ℕ). like w l n z k) (slots_of l) z
        (in_range 0 (l.slots + l.stack) z (omega arith) (omega (arith, ltb-true z (l.slots + l.stack) below))) (is_variable (w.answers.variable_at l n z))
    by false above = contains_first z []

pub alike_back : (l : LoweredMethod) (n : Node) (y z : ℕ) → AreAlike l n y z → AreAlike l n z y
alike_back l n y z (same e) = same (sym e)
alike_back l n y z (of_one v first second one other) = of_one v second first other one
