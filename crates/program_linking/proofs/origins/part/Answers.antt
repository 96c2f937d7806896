use Rattle.std.proofs.Common.{◌≡◌, Bool, true, false, not, cond, List, [], ◌∷◌, ◌++◌, filter, refl, sym, ◌∙◌, ap}
use Rattle.std.proofs.lemmas.List.Elements.{filter-append}
use Rattle.jvm_model.specs.declared.stub.StubClass.{StubClass}
use Rattle.jvm_model.specs.Linking.{own_classes}
use Rattle.program_linking.specs.Patching.{is_patch_stub, own_one}
use Rattle.program_linking.proofs.origins.part.Goals as goal

own_last : (c : StubClass) → own_one c ≡ own_classes (c ∷ [])
own_last c = by c.is_patch
  where
    by : (b : Bool) → cond b [] (c ∷ []) ≡ cond (not b) (c ∷ []) []
    by true = refl
    by false = refl

pub loop-c-init : goal.loop-c-init
loop-c-init c = record { own = c.new-own.ensures.items; patches = c.new-patches.ensures.items }

pub loop-c-preserved : goal.loop-c-preserved
loop-c-preserved c =
    let done = c.loop-c.yielded in
    let x = c.in-Some.c in
    record {
      own = c.in_ok-put.ensures.own ∙ (λ i. c.loop-c.invariant.own i ++ own_last x i) ∙ sym (filter-append (λ (s : StubClass). not s.is_patch) done (x ∷ []));
      patches = c.in_ok-put.ensures.patches ∙ ap (λ (ps : List StubClass). ps ++ filter is_patch_stub (x ∷ [])) c.loop-c.invariant.patches ∙ sym (filter-append is_patch_stub done (x ∷ []));
    }
