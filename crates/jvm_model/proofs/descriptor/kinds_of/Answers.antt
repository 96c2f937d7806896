use Rattle.std.proofs.Common.{◌≡◌, ℕ, List, ◌∷◌, ◌++◌, [], take, drop, sym, ◌∙◌, subst}
use Rattle.std.proofs.lemmas.List.{take-append-drop}
use Rattle.jvm_model.specs.declared.descriptor.Kind.{Kind}
use Rattle.jvm_model.specs.DescriptorValues.{BeginsWithKinds, IsKind}
use Rattle.jvm_model.proofs.MethodKinds.{kinds_more}
use Rattle.jvm_model.proofs.descriptor.kinds_of.Goals as goal

-- One more kind is read, where its slices and the new list are known by equations.
step : (text rest front after : List ℕ) (kinds all : List Kind) (kind : Kind) (n : ℕ) → BeginsWithKinds text rest kinds → IsKind front kind → front ≡ take n rest → after ≡ drop n rest → all ≡ kinds ++ kind ∷ [] → BeginsWithKinds text after all
step text rest front after kinds all kind n begins is front_is after_is all_is =
    subst (BeginsWithKinds text after) (sym all_is)
    (kinds_more text rest front after kinds kind begins is (sym (take-append-drop n rest) ∙ cc (front_is, after_is)))

pub loop-length-preserved : goal.loop-length-preserved
loop-length-preserved c =
    step c.args.text.now c.loop-length.rest.now c.split_at.result.0.now c.split_at.result.1.now c.loop-length.kinds.items c.push.new.self.items c.in_ok-kind_of.field-0 c.in-Some.length
    c.loop-length.invariant c.in_ok-kind_of.ensures c.split_at.ensures.front c.split_at.ensures.back c.in_ok-push.ensures.items
