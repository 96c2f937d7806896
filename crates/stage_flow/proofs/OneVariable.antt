-- The test whether a slot has the variable of another one.
use Rattle.std.proofs.Common.{◌≡◌, ℕ, ◌+◌, nat_eq, nat_lt, Bool, true, false, cond, ◌&&◌, [], ◌∷◌, arith}
use Rattle.std.specs.List.{filter, range_with_len}
use Rattle.std.proofs.Math.Bool.{or-false}
use Rattle.std.proofs.lemmas.Bool.{and_from, and_parts, lt-ltb, ltb-true}
use Rattle.op_model.specs.declared.lowered.LoweredMethod.{LoweredMethod}
use Rattle.op_model.specs.declared.node.Node.{Node}
use Rattle.stage_transfer.specs.Settings.{Setting, alike, among, same_variable}
use Rattle.stage_transfer_laws.proofs.Members.{among_those, in_filter, in_range, is_among, of_filter, of_range}
use Rattle.stage_views.proofs.Gathered.{one_test}
use Rattle.stage_flow.specs.Shapes.{is_like}

among_range : (p : ℕ → Bool) (all y : ℕ) → among (filter p (range_with_len 0 all)) y ≡ (nat_lt y all && p y)
among_range p all y =
    one_test (among (filter p (range_with_len 0 all)) y) (nat_lt y all && p y)
    (λ is.
    let found = of_filter p (range_with_len 0 all) y (is_among (filter p (range_with_len 0 all)) y is) in
    and_from (nat_lt y all) (p y) (lt-ltb y all (omega (arith, of_range 0 all y found.0))) found.1)
    (λ is.
    let parts = and_parts (nat_lt y all) (p y) is in
    among_those (filter p (range_with_len 0 all)) y
    (in_filter p (range_with_len 0 all) y (in_range 0 all y (omega arith) (omega (arith, ltb-true y all parts.0))) parts.1))

pub like_is : (w : Setting) (l : LoweredMethod) (n : Node) (z y : ℕ) → among (alike w l n z) y ≡ is_like w l n z y
like_is w l n z y = by (nat_lt z (l.slots + l.stack))
  where
    by : (b : Bool)
        → among (cond b (filter (λ (k : ℕ). same_variable (w.answers.variable_at l n k) (w.answers.variable_at l n z)) (range_with_len 0 (l.slots + l.stack))) (z ∷ [])) y
        ≡ cond b (nat_lt y (l.slots + l.stack) && same_variable (w.answers.variable_at l n y) (w.answers.variable_at l n z)) (nat_eq y z)
    by true = among_range (λ (k : ℕ). same_variable (w.answers.variable_at l n k) (w.answers.variable_at l n z)) (l.slots + l.stack) y
    by false = or-false (nat_eq y z)
