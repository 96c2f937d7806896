-- What an allocation does, by whether the site is that of the facts; and what a store to an array does.
use Rattle.std.proofs.Common.{◌≡◌, ℕ, true, false, [], ◌∷◌, Some, refl, sym, ◌∙◌, ap}
use Rattle.std.proofs.lemmas.Bool.{cond-false, cond-true}
use Rattle.jvm_model.specs.declared.site.Site.{Site}
use Rattle.op_model.specs.declared.lowered.LoweredMethod.{LoweredMethod}
use Rattle.op_model.specs.declared.node.Node.{Node}
use Rattle.stage_facts.specs.Facts.{SiteFact, Tuple, none_yet, some_yet, of_object}
use Rattle.stage_transfer.specs.Changes.{changed, writing}
use Rattle.stage_transfer.specs.Operations.{after_new, beside_new, on_tuples, puts_away}
use Rattle.stage_transfer.specs.Settings.{Setting, same_site}
use Rattle.stage_flow.specs.Allocations.{allocated, put_into}
use Rattle.stage_flow.proofs.Drafted.{with_none}

module _ (w : Setting) (l : LoweredMethod) (n : Node) (site : Site) (target : ℕ) (fact : SiteFact) where
  nothing_put : (f : SiteFact)
      → after_new w (Some target) (λ (t : Tuple). changed (writing w l n (target ∷ [])) (puts_away [] t)) f
      ≡ after_new w (Some target) (changed (writing w l n (target ∷ []))) f
  nothing_put none_yet = refl
  nothing_put some_yet = refl
  nothing_put (of_object t) =
      ap (λ (u : Tuple). of_object (beside_new (Some target) (changed (writing w l n (target ∷ [])) u)) ∷ []) (with_none t)

  pub own_allocated : same_site site w.site ≡ true
      → after_new w (Some target) (λ (t : Tuple). changed (writing w l n (target ∷ [])) (puts_away [] t)) fact ≡ allocated w l n site target fact
  own_allocated own =
      nothing_put fact
      ∙ sym (cond-true (same_site site w.site) (after_new w (Some target) (changed (writing w l n (target ∷ []))) fact)
      (on_tuples (changed (writing w l n (target ∷ []))) fact) own)

  pub other_allocated : same_site site w.site ≡ false → on_tuples (changed (writing w l n (target ∷ []))) fact ≡ allocated w l n site target fact
  other_allocated other =
      sym (cond-false (same_site site w.site) (after_new w (Some target) (changed (writing w l n (target ∷ []))) fact)
      (on_tuples (changed (writing w l n (target ∷ []))) fact) other)

pub put_is : (w : Setting) (l : LoweredMethod) (n : Node) (array value : ℕ) (fact : SiteFact)
    → on_tuples (λ (t : Tuple). changed (writing w l n (array ∷ value ∷ [])) (puts_away (value ∷ []) t)) fact ≡ on_tuples (put_into w l n array value) fact
put_is w l n array value none_yet = refl
put_is w l n array value some_yet = refl
put_is w l n array value (of_object t) = refl
