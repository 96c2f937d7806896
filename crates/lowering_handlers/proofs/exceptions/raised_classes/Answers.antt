use Rattle.std.proofs.Common.{ℕ, ◌++◌, List, map, take, get_or, sym, ap, ◌∙◌, subst}
use Rattle.jvm_model.specs.declared.opcode.Raise.{Raise as Given}
use Rattle.jvm_model.specs.declared.opcode.Raise.TheVariants.{NullPointer}
use Rattle.jvm_model.specs.RowViews.{raise_view}
use Rattle.jvm_model.specs.Table.{Raise}
use Rattle.lowering_handlers.specs.Exceptions.{AddsClass, AreRaised, number_named}
use Rattle.lowering_handlers.proofs.AddedClasses.{raised_more, views_push}
use Rattle.lowering_handlers.proofs.OrderedClasses.{named_more}
use Rattle.lowering_handlers.proofs.exceptions.raised_classes.Goals as goal

pub loop-raise-preserved : goal.loop-raise-preserved
loop-raise-preserved c =
    let p = c.args.program.now in
    let raises = c.args.raises.now in
    let i = c.loop-raise.raise-index in
    let old = c.loop-raise.raised.items in
    let new = c.add_class.new.classes.items in
    let r : Given = get_or raises i NullPointer in
    let adds = subst (λ name. AddsClass p name old new) c.class_of.ensures c.in_ok-add_class.ensures.added in
    record {
      so_far = subst (λ (rs : List Raise). AreRaised p rs new) (sym (views_push raises i NullPointer c.loop-raise-test.true))
          (raised_more p (map raise_view (take i raises)) (raise_view r) old new c.loop-raise.invariant.so_far adds);
      ordered = named_more p (map raise_view (take i raises)) (raise_view r) _ old new (views_push raises i NullPointer c.loop-raise-test.true) c.loop-raise.invariant.ordered
          (c.in_ok-add_class.ensures.order ∙ ap (λ (name : List ℕ). old ++ number_named p name) c.class_of.ensures);
    }
