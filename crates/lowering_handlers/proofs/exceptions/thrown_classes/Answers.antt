use Rattle.std.proofs.Common.{◌≡◌, Vec, List, map, refl, sym, ◌∙◌, subst, true, false}
use Rattle.std.specs.Global.{Global}
use Rattle.std.proofs.lemmas.Option.{none-some, same_Some}
use Rattle.jvm_model.specs.declared.number.ClassNo.{ClassNo}
use Rattle.jvm_model.specs.RowViews.{raise_view}
use Rattle.jvm_model.specs.Table.{Raise}
use Rattle.program_model.specs.Numbers.{name_at}
use Rattle.machine_nodes.specs.Nodes.{HasInitialiser, AreThrownAt}
use Rattle.lowering_handlers.proofs.AddedClasses.{raised_alone, raised_and_errors, trigger_name, no_trigger_name}
use Rattle.lowering_handlers.specs.Exceptions.{IsThrownList}
use Rattle.lowering_handlers.proofs.OrderedClasses.{alone, and_errors}
use Rattle.lowering_handlers.proofs.exceptions.thrown_classes.Goals as goal
use Rattle.lowering_handlers.proofs.exceptions.thrown_classes.Goals.{then-has_initialiser+in_ok-add_class+in_ok-add_class-2, else-has_initialiser}

pub returns-in_default-clause-thrown : goal.returns-in_default-clause-thrown
returns-in_default-clause-thrown c = λ name is.
    let p = c.args.program.now in
    let raises : List Raise = map raise_view c.args.raises.now in
    let none = no_trigger_name p c.args.trigger name c.in_default.is is in
    raised_alone p raises c.in_ok-thrown.thrown.items c.in_ok-thrown.ensures.raised name (λ class some has. none-some class (sym none ∙ some))

pub returns-clause-thrown : goal.returns-clause-thrown
returns-clause-thrown c = λ name is.
    let p = c.args.program.now in
    let raises : List Raise = map raise_view c.args.raises.now in
    let n = c.in-Some.class in
    let named = trigger_name p c.args.trigger n name c.in-Some.is is in
    elim c.if-has_initialiser.branch [
      | then-has_initialiser+in_ok-add_class+in_ok-add_class-2 w ↦
          let has : HasInitialiser p (name_at p n.0) = w.if-has_initialiser.ensures.0 refl in
          subst (λ (v : Vec ClassNo Global). AreThrownAt p raises name v.items) (sym w.thrown-is)
          (raised_and_errors p raises c.in_ok-thrown.thrown.items c.in_ok-thrown.ensures.raised name (name_at p n.0) named has w.add_class.new.classes.items
          w.add_class-then-has_initialiser.new.classes.items w.in_ok-add_class.ensures.added w.in_ok-add_class-2.ensures.added)
      | else-has_initialiser w ↦
          let none : HasInitialiser p (name_at p n.0) → ⊥ = λ has. let both : false ≡ true = sym w.if-has_initialiser.false ∙ c.has_initialiser.ensures.1 has in cc in
          subst (λ (v : Vec ClassNo Global). AreThrownAt p raises name v.items) (sym w.thrown-is)
          (raised_alone p raises c.in_ok-thrown.thrown.items c.in_ok-thrown.ensures.raised name
          (λ class some has. none (subst (HasInitialiser p) (same_Some class (name_at p n.0) (sym some ∙ named)) has)))
    ]

pub returns-in_default-clause-order : goal.returns-in_default-clause-order
returns-in_default-clause-order c = λ name is.
    let p = c.args.program.now in
    let raises : List Raise = map raise_view c.args.raises.now in
    let none = no_trigger_name p c.args.trigger name c.in_default.is is in
    alone p raises c.in_ok-thrown.thrown.items c.in_ok-thrown.ensures.order name (λ class some has. none-some class (sym none ∙ some))

pub returns-clause-order : goal.returns-clause-order
returns-clause-order c = λ name is.
    let p = c.args.program.now in
    let raises : List Raise = map raise_view c.args.raises.now in
    let n = c.in-Some.class in
    let named = trigger_name p c.args.trigger n name c.in-Some.is is in
    elim c.if-has_initialiser.branch [
      | then-has_initialiser+in_ok-add_class+in_ok-add_class-2 w ↦
          let has : HasInitialiser p (name_at p n.0) = w.if-has_initialiser.ensures.0 refl in
          subst (λ (v : Vec ClassNo Global). IsThrownList p raises name v.items) (sym w.thrown-is)
          (and_errors p raises c.in_ok-thrown.thrown.items c.in_ok-thrown.ensures.order name (name_at p n.0) named has w.add_class.new.classes.items
          w.add_class-then-has_initialiser.new.classes.items w.in_ok-add_class.ensures.order w.in_ok-add_class-2.ensures.order)
      | else-has_initialiser w ↦
          let none : HasInitialiser p (name_at p n.0) → ⊥ = λ has. let both : false ≡ true = sym w.if-has_initialiser.false ∙ c.has_initialiser.ensures.1 has in cc in
          subst (λ (v : Vec ClassNo Global). IsThrownList p raises name v.items) (sym w.thrown-is)
          (alone p raises c.in_ok-thrown.thrown.items c.in_ok-thrown.ensures.order name
          (λ class some has. none (subst (HasInitialiser p) (same_Some class (name_at p n.0) (sym some ∙ named)) has)))
    ]
