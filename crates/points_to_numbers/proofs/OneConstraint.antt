-- Where names, places, catch chains and calls have one number each, a constraint has one key.
use Rattle.std.proofs.Common.{◌≡◌, Some, sym, ◌∙◌, ap}
use Rattle.points_to_constraints.specs.Items.{Constraint as ItemConstraint}
use Rattle.points_to_numbers.specs.declared.keys.Constraint.{Constraint}
use Rattle.points_to_numbers.specs.declared.keys.Constraint.TheVariants as constraints
use Rattle.points_to_numbers.specs.Numbered.{Numbered, IsConstraintAt, AreApart, AreSingle}
use Rattle.points_to_numbers.specs.Kept.{constraint_from}
use Rattle.points_to_numbers.proofs.Standing.{constraint_stands}

-- constraints of different kinds stand for constraints of different kinds
by_kind : (n : Numbered) → AreApart n → AreSingle n → (a b : Constraint) (u : ItemConstraint)
    → constraint_from n.classes n.holders n.catch_chains n.calls a ≡ constraint_from n.classes n.holders n.catch_chains n.calls b → IsConstraintAt n a u → IsConstraintAt n b u → a ≡ b
by_kind n apart single (constraints.CopyTo a) (constraints.CopyTo b) u e (h, at, first) (i, there, second) =
    let same : h ≡ i = cc (first, second) in
    let numbers = apart.holders h a.0 b.0 at (there ∙ ap Some (sym same)) in
    (λ j. constraints.CopyTo (record { 0 = numbers j }))
by_kind n apart single (constraints.FilterTo a c) (constraints.FilterTo b d) u e (name, h, named, at, first) (other, i, called, there, second) =
    let names : name ≡ other = cc (first, second) in
    let same : h ≡ i = cc (first, second) in
    let classes = apart.classes name a.0 b.0 named (called ∙ ap Some (sym names)) in
    let numbers = apart.holders h c.0 d.0 at (there ∙ ap Some (sym same)) in
    (λ j. constraints.FilterTo (record { 0 = classes j }) (record { 0 = numbers j }))
by_kind n apart single (constraints.LoadField a c) (constraints.LoadField b d) u e (h, at, first) (i, there, second) =
    let fields : a ≡ b = cc (first, second) in
    let same : h ≡ i = cc (first, second) in
    let numbers = apart.holders h c.0 d.0 at (there ∙ ap Some (sym same)) in
    (λ j. constraints.LoadField (fields j) (record { 0 = numbers j }))
by_kind n apart single (constraints.StoreField a c) (constraints.StoreField b d) u e (h, at, first) (i, there, second) =
    let fields : a ≡ b = cc (first, second) in
    let same : h ≡ i = cc (first, second) in
    let numbers = apart.holders h c.0 d.0 at (there ∙ ap Some (sym same)) in
    (λ j. constraints.StoreField (fields j) (record { 0 = numbers j }))
by_kind n apart single (constraints.LoadElements a) (constraints.LoadElements b) u e (h, at, first) (i, there, second) =
    let same : h ≡ i = cc (first, second) in
    let numbers = apart.holders h a.0 b.0 at (there ∙ ap Some (sym same)) in
    (λ j. constraints.LoadElements (record { 0 = numbers j }))
by_kind n apart single (constraints.StoreElements a) (constraints.StoreElements b) u e (h, at, first) (i, there, second) =
    let same : h ≡ i = cc (first, second) in
    let numbers = apart.holders h a.0 b.0 at (there ∙ ap Some (sym same)) in
    (λ j. constraints.StoreElements (record { 0 = numbers j }))
by_kind n apart single (constraints.ThrowTo a) (constraints.ThrowTo b) u e (l, at, first) (k, there, second) =
    let same : l ≡ k = cc (first, second) in
    let numbers = single.catch_chains l a.0 b.0 at (there ∙ ap Some (sym same)) in
    (λ j. constraints.ThrowTo (record { 0 = numbers j }))
by_kind n apart single (constraints.RethrowTo a) (constraints.RethrowTo b) u e (l, at, first) (k, there, second) =
    let same : l ≡ k = cc (first, second) in
    let numbers = single.catch_chains l a.0 b.0 at (there ∙ ap Some (sym same)) in
    (λ j. constraints.RethrowTo (record { 0 = numbers j }))
by_kind n apart single (constraints.Dispatch a) (constraints.Dispatch b) u e (c, at, first) (d, there, second) =
    let same : c ≡ d = cc (first, second) in
    let numbers = single.calls c a.0 b.0 at (there ∙ ap Some (sym same)) in
    (λ j. constraints.Dispatch (record { 0 = numbers j }))
by_kind _ _ _ _ _ _ e _ _ = absurd (cc e)

pub one_constraint_key : (n : Numbered) → AreApart n → AreSingle n → (a b : Constraint) (u : ItemConstraint) → IsConstraintAt n a u → IsConstraintAt n b u → a ≡ b
one_constraint_key n apart single a b u first second = by_kind n apart single a b u (constraint_stands n a u first ∙ sym (constraint_stands n b u second)) first second
