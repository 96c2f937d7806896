-- Slots of one variable, by tests of two slots.
use Rattle.std.proofs.Common.{◌≡◌, ℕ, ◌+◌, ◌<◌, ◌≤◌, nat_lt, Bool, true, false, cond, List, [], ◌∷◌, sym, ◌∙◌, ap, arith}
use Rattle.std.specs.List.{Contains, filter, range_with_len}
use Rattle.std.proofs.lemmas.Bool.{lt-ltb}
use Rattle.op_model.specs.declared.lowered.LoweredMethod.{LoweredMethod}
use Rattle.op_model.specs.declared.node.Node.{Node}
use Rattle.stage_transfer.specs.Settings.{Setting, alike, among}
use Rattle.stage_calls.specs.Testing.{is_like}
use Rattle.stage_transfer_laws.proofs.Members.{among_those, in_filter, in_range, is_among, none_among, of_filter, of_range}
use Rattle.stage_views.proofs.Gathered.{one_test}

abbrev those : (ℕ → Bool) → (count : ℕ) → List ℕ
those p count = filter p (range_with_len 0 count)

among_those_of : (p : ℕ → Bool) (count y : ℕ) → y < count → p y ≡ among (those p count) y
among_those_of p count y within =
    let inside : y < 0 + count = omega arith in
    one_test (p y) (among (those p count) y)
    (λ passes. among_those (those p count) y (in_filter p (range_with_len 0 count) y (in_range 0 count y (omega arith) inside) passes))
    (λ there. (of_filter p (range_with_len 0 count) y (is_among (those p count) y there)).1)

absent_from : (p : ℕ → Bool) (count y : ℕ) → count ≤ y → false ≡ among (those p count) y
absent_from p count y outside = sym (none_among (those p count) y absent)
  where
    absent : Contains (those p count) y → ⊥
    absent there = let inside = of_range 0 count y (of_filter p (range_with_len 0 count) y there).0 in absurd (omega arith)

-- ---- the slots of the method

shape : (w : Setting) (l : LoweredMethod) (n : Node) (z : ℕ) (b : Bool) → nat_lt z (l.slots + l.stack) ≡ b
    → cond b (those (is_like w l n z) (l.slots + l.stack)) (z ∷ []) ≡ alike w l n z
shape w l n z b is = ap (λ (c : Bool). cond c (those (is_like w l n z) (l.slots + l.stack)) (z ∷ [])) (sym is)

pub alike_slots : (w : Setting) (l : LoweredMethod) (n : Node) (z : ℕ) → z < l.slots + l.stack → those (is_like w l n z) (l.slots + l.stack) ≡ alike w l n z
alike_slots w l n z inside = shape w l n z true (lt-ltb z (l.slots + l.stack) inside)

pub alike_within : (w : Setting) (l : LoweredMethod) (n : Node) (z y : ℕ) → z < l.slots + l.stack → y < l.slots + l.stack → is_like w l n z y ≡ among (alike w l n z) y
alike_within w l n z y inside within =
    among_those_of (is_like w l n z) (l.slots + l.stack) y within
    ∙ ap (λ (zs : List ℕ). among zs y) (shape w l n z true (lt-ltb z (l.slots + l.stack) inside))

pub alike_absent : (w : Setting) (l : LoweredMethod) (n : Node) (z y : ℕ) → z < l.slots + l.stack → l.slots + l.stack ≤ y → false ≡ among (alike w l n z) y
alike_absent w l n z y inside outside =
    absent_from (is_like w l n z) (l.slots + l.stack) y outside
    ∙ ap (λ (zs : List ℕ). among zs y) (shape w l n z true (lt-ltb z (l.slots + l.stack) inside))
