use Rattle.std.proofs.Common.{◌≡◌, ℕ, List, refl, sym, ◌∙◌, subst}
use Rattle.std.specs.Prelude.{codes}
use Rattle.std.proofs.lemmas.Bool.{false≢true}
use Rattle.std.proofs.lemmas.Result.{IfOk-weaker}
use Rattle.jvm_model.specs.Subtypes.{Fits}
use Rattle.points_to_rules.specs.Facts.{field_of, elements_of, may_hold}
use Rattle.points_to_constraints.specs.ItemRules.{LandsAs}
use Rattle.points_to_constraints.specs.Items.{Constraint as ItemConstraint, Item as RuleItem, copy_to, throw_to, known, constrained}
use Rattle.points_to_numbers.specs.declared.item.Item.TheVariants.{Holds}
use Rattle.points_to_rules.specs.declared.place.Place.TheVariants as places
use Rattle.points_to_numbers.specs.declared.keys.Constraint.{Constraint}
use Rattle.points_to_numbers.specs.declared.keys.Constraint.TheVariants as constraints
use Rattle.points_to_numbers.specs.Numbered.{IsConstraintAt}
use Rattle.points_to_numbers.specs.Steps.{Makes}
use Rattle.points_to_calls.specs.Constraints.{PlainPassed}
use Rattle.points_to_numbers.proofs.Making.{makes_none, makes_one, makes_same, makes_grown, makes_constrained, on_ok_three}
use Rattle.points_to_calls.proofs.plain.pass_plain.Goals as goal

pub add_constraint-requires-clause-place : goal.add_constraint-requires-clause-place
add_constraint-requires-clause-place c = let (s, there) = c.requires.site in (field_of s c.in-LoadField.field, (s, there, refl))

pub place-requires : goal.place-requires
place-requires c = let (s, there) = c.requires.site in (field_of s c.in-StoreField.field, (s, there, refl))

pub add_constraint-requires-in-LoadElements-clause-place : goal.add_constraint-requires-in-LoadElements-clause-place
add_constraint-requires-in-LoadElements-clause-place c = let (s, there) = c.requires.site in (elements_of s, (s, there, refl))

pub place-requires-in-StoreElements : goal.place-requires-in-StoreElements
place-requires-in-StoreElements c = let (s, there) = c.requires.site in (elements_of s, (s, there, refl))

pub add_constraint-requires-clause-constraint : goal.add_constraint-requires-clause-constraint
add_constraint-requires-clause-constraint c =
    let (u, is) = c.requires.constraint in let (h, held, e) = (subst (λ (w : Constraint). IsConstraintAt c.args.work.now.tables w u) c.in-LoadField.is is) in
    (copy_to h, (h, held, refl))

pub add_constraint-requires-in-LoadElements-clause-constraint : goal.add_constraint-requires-in-LoadElements-clause-constraint
add_constraint-requires-in-LoadElements-clause-constraint c =
    let (u, is) = c.requires.constraint in let (h, held, e) = (subst (λ (w : Constraint). IsConstraintAt c.args.work.now.tables w u) c.in-LoadElements.is is) in
    (copy_to h, (h, held, refl))

pub add_constraint_at-requires-clause-constraint : goal.add_constraint_at-requires-clause-constraint
add_constraint_at-requires-clause-constraint c =
    let (s, there) = c.requires.site in let h = field_of s c.in-StoreField.field in
    (copy_to h, (h, c.in_ok-to-in-StoreField.ensures.stands h (s, there, refl), refl))

pub add_constraint_at-requires-in-StoreElements-clause-constraint : goal.add_constraint_at-requires-in-StoreElements-clause-constraint
add_constraint_at-requires-in-StoreElements-clause-constraint c =
    let (s, there) = c.requires.site in let h = elements_of s in
    (copy_to h, (h, c.in_ok-to-in-StoreElements.ensures.stands h (s, there, refl), refl))

pub returns-in_ok-push-in-CopyTo-clause-made : goal.returns-in_ok-push-in-CopyTo-clause-made
returns-in_ok-push-in-CopyTo-clause-made c = λ u s is there.
    let p = c.args.program.now in let n = c.args.work.now.tables in let a = c.args.work.now.steps.items in let b = c.push.new.self.items in
    let (h, held, e) = (subst (λ (w : Constraint). IsConstraintAt c.args.work.now.tables w u) c.in-CopyTo.is is) in
    subst (λ (v : ItemConstraint). Makes n n (PlainPassed p v s) a b) (sym e)
    (makes_one n (λ (x : RuleItem). x ≡ known (may_hold h s)) a b (Holds c.in-CopyTo.to c.args.site) (known (may_hold h s)) c.in_ok-push-in-CopyTo.ensures.items (h, s, held, there, refl) refl (λ y q. q))

pub returns-in-FilterTo-clause-made : goal.returns-in-FilterTo-clause-made
returns-in-FilterTo-clause-made c =
    IfOk-weaker c.pass_if_fits.result _ _
    (λ done made u s is there.
    let p = c.args.program.now in let n = c.args.work.now.tables in let a = c.args.work.now.steps.items in let m = c.pass_if_fits.new.work.tables in let b = c.pass_if_fits.new.work.steps.items in
    let (name, h, named, held, e) = (subst (λ (w : Constraint). IsConstraintAt c.args.work.now.tables w u) c.in-FilterTo.is is) in
    subst (λ (v : ItemConstraint). Makes n m (PlainPassed p v s) a b) (sym e) (made name h s named held there))
    c.pass_if_fits.ensures.made

pub returns-in-LoadField-clause-made : goal.returns-in-LoadField-clause-made
returns-in-LoadField-clause-made c =
    on_ok_three c.add_constraint.result c.add_constraint.ensures.grows c.add_constraint.ensures.calls c.add_constraint.ensures.adds
    (λ grows calls adds u s is there.
    let p = c.args.program.now in let n = c.args.work.now.tables in let m = c.add_constraint.new.self.tables in let a = c.args.work.now.steps.items in let b = c.add_constraint.new.self.steps.items in
    let (h, held, e) = (subst (λ (w : Constraint). IsConstraintAt c.args.work.now.tables w u) c.in-LoadField.is is) in
    subst (λ (v : ItemConstraint). Makes n m (PlainPassed p v s) a b) (sym e)
    (makes_constrained n m (places.Field c.args.site c.in-LoadField.field) (constraints.CopyTo c.in-LoadField.to) (field_of s c.in-LoadField.field) (copy_to h) a b (s, there, refl) (h, held, refl) grows calls adds))

pub returns-in-LoadElements-clause-made : goal.returns-in-LoadElements-clause-made
returns-in-LoadElements-clause-made c =
    on_ok_three c.add_constraint-in-LoadElements.result c.add_constraint-in-LoadElements.ensures.grows c.add_constraint-in-LoadElements.ensures.calls c.add_constraint-in-LoadElements.ensures.adds
    (λ grows calls adds u s is there.
    let p = c.args.program.now in let n = c.args.work.now.tables in let m = c.add_constraint-in-LoadElements.new.self.tables in let a = c.args.work.now.steps.items in let b = c.add_constraint-in-LoadElements.new.self.steps.items in
    let (h, held, e) = (subst (λ (w : Constraint). IsConstraintAt c.args.work.now.tables w u) c.in-LoadElements.is is) in
    subst (λ (v : ItemConstraint). Makes n m (PlainPassed p v s) a b) (sym e)
    (makes_constrained n m (places.Elements c.args.site) (constraints.CopyTo c.in-LoadElements.to) (elements_of s) (copy_to h) a b (s, there, refl) (h, held, refl) grows calls adds))

pub returns-in_ok-to-in-StoreField-clause-made : goal.returns-in_ok-to-in-StoreField-clause-made
returns-in_ok-to-in-StoreField-clause-made c =
    IfOk-weaker c.add_constraint_at.result _ _
    (λ done made u s is there.
    let p = c.args.program.now in let n = c.args.work.now.tables in let m = c.place.new.self in let o = c.add_constraint_at.new.work.tables in let a = c.args.work.now.steps.items in let b = c.add_constraint_at.new.work.steps.items in
    let (h, held, e) = (subst (λ (w : Constraint). IsConstraintAt c.args.work.now.tables w u) c.in-StoreField.is is) in
    let to = field_of s c.in-StoreField.field in let placed = c.in_ok-to-in-StoreField.ensures in
    subst (λ (w : ItemConstraint). Makes n o (PlainPassed p w s) a b) (sym e)
    (makes_grown n m o (λ (x : RuleItem). x ≡ constrained h (copy_to to)) a b placed.grows placed.calls
    (made h (copy_to to) (placed.grows.holders c.in-StoreField.from.0 h held) (to, placed.stands to (s, there, refl), refl))))
    c.add_constraint_at.ensures

pub returns-in_ok-to-in-StoreElements-clause-made : goal.returns-in_ok-to-in-StoreElements-clause-made
returns-in_ok-to-in-StoreElements-clause-made c =
    IfOk-weaker c.add_constraint_at-in-StoreElements.result _ _
    (λ done made u s is there.
    let p = c.args.program.now in let n = c.args.work.now.tables in let m = c.place-in-StoreElements.new.self in let o = c.add_constraint_at-in-StoreElements.new.work.tables in let a = c.args.work.now.steps.items in let b = c.add_constraint_at-in-StoreElements.new.work.steps.items in
    let (h, held, e) = (subst (λ (w : Constraint). IsConstraintAt c.args.work.now.tables w u) c.in-StoreElements.is is) in
    let to = elements_of s in let placed = c.in_ok-to-in-StoreElements.ensures in
    subst (λ (w : ItemConstraint). Makes n o (PlainPassed p w s) a b) (sym e)
    (makes_grown n m o (λ (x : RuleItem). x ≡ constrained h (copy_to to)) a b placed.grows placed.calls
    (made h (copy_to to) (placed.grows.holders c.in-StoreElements.from.0 h held) (to, placed.stands to (s, there, refl), refl))))
    c.add_constraint_at-in-StoreElements.ensures

pub returns-then-fits-clause-made : goal.returns-then-fits-clause-made
returns-then-fits-clause-made c =
    IfOk-weaker c.land.result _ _
    (λ done made u s is there.
    let p = c.args.program.now in let n = c.args.work.now.tables in let a = c.args.work.now.steps.items in let b = c.land.new.steps.items in
    let (l, at, e) = (subst (λ (w : Constraint). IsConstraintAt c.args.work.now.tables w u) c.in-ThrowTo.is is) in
    let fits = subst (λ (k : List ℕ). Fits p (codes "java/lang/Throwable") k) (c.class_of.ensures s there) (c.fits.ensures.0 c.if-fits.true) in
    subst (λ (v : ItemConstraint). Makes n n (PlainPassed p v s) a b) (sym e)
    (makes_same n n (LandsAs p l s) (PlainPassed p (throw_to l) s) a b (λ x. (λ lands. (fits, lands), λ both. both.1)) (made l s at there)))
    c.land.ensures

pub returns-else-fits-clause-made : goal.returns-else-fits-clause-made
returns-else-fits-clause-made c = λ u s is there.
    let p = c.args.program.now in let n = c.args.work.now.tables in let a = c.args.work.now.steps.items in
    let (l, at, e) = (subst (λ (w : Constraint). IsConstraintAt c.args.work.now.tables w u) c.in-ThrowTo.is is) in
    subst (λ (v : ItemConstraint). Makes n n (PlainPassed p v s) a a) (sym e)
    (makes_none n (PlainPassed p (throw_to l) s) a (λ x both.
    false≢true (sym c.if-fits.false ∙ c.fits.ensures.1 (subst (λ (k : List ℕ). Fits p (codes "java/lang/Throwable") k) (sym (c.class_of.ensures s there)) both.0))))

pub returns-in-RethrowTo-clause-made : goal.returns-in-RethrowTo-clause-made
returns-in-RethrowTo-clause-made c =
    IfOk-weaker c.land-in-RethrowTo.result _ _
    (λ done made u s is there.
    let p = c.args.program.now in let n = c.args.work.now.tables in let a = c.args.work.now.steps.items in let b = c.land-in-RethrowTo.new.steps.items in
    let (l, at, e) = (subst (λ (w : Constraint). IsConstraintAt c.args.work.now.tables w u) c.in-RethrowTo.is is) in
    subst (λ (v : ItemConstraint). Makes n n (PlainPassed p v s) a b) (sym e) (made l s at there))
    c.land-in-RethrowTo.ensures
