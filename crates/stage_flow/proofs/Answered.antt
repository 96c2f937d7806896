-- What a described method does, by its answer.
use Rattle.std.proofs.Common.{◌≡◌, inl, inr, ℕ, true, false, List, sym, ◌∙◌, ap, ◌⊎◌}
use Rattle.std.proofs.lemmas.Bool.{cond-false, cond-true}
use Rattle.jvm_model.specs.declared.site.Site.{Site}
use Rattle.op_model.specs.declared.lowered.LoweredMethod.{LoweredMethod}
use Rattle.op_model.specs.declared.node.Node.{Node}
use Rattle.op_model.specs.declared.op.Call.{Call as NodeCall}
use Rattle.stage_facts.specs.Facts.{SiteFact, Tuple}
use Rattle.stage_transfer.specs.Calls.{after_answer, giving, written_by, Result, an_argument, a_new_object, another}
use Rattle.stage_transfer.specs.Changes.{changed, writing}
use Rattle.stage_transfer.specs.Operations.{after_new, on_tuples, puts_away}
use Rattle.stage_transfer.specs.Settings.{Setting, same_site}

module _ (w : Setting) (l : LoweredMethod) (n : Node) (call : NodeCall) (kept : List ℕ) (r : Result) (fact : SiteFact) where
  pub gives_argument : (z : ℕ) → r ≡ an_argument z
      → on_tuples (λ (t : Tuple). changed (giving w l n call z) (puts_away kept t)) fact ≡ after_answer w l n call kept r fact
  gives_argument z is = ap (λ (q : Result). after_answer w l n call kept q fact) (sym is)

  pub gives_new : (made : Site) → r ≡ a_new_object made → same_site made w.site ≡ true
      → after_new w call.result (λ (t : Tuple). changed (writing w l n (written_by call)) (puts_away kept t)) fact ≡ after_answer w l n call kept r fact
  gives_new made is own =
      sym (cond-true (same_site made w.site)
      (after_new w call.result (λ (t : Tuple). changed (writing w l n (written_by call)) (puts_away kept t)) fact)
      (on_tuples (λ (t : Tuple). changed (writing w l n (written_by call)) (puts_away kept t)) fact) own)
      ∙ ap (λ (q : Result). after_answer w l n call kept q fact) (sym is)

  pub gives_other : (r ≡ another) ⊎ ((made : Site) × (r ≡ a_new_object made) × (same_site made w.site ≡ false))
      → on_tuples (λ (t : Tuple). changed (writing w l n (written_by call)) (puts_away kept t)) fact ≡ after_answer w l n call kept r fact
  gives_other (inl is) = ap (λ (q : Result). after_answer w l n call kept q fact) (sym is)
  gives_other (inr (made, is, other)) =
      sym (cond-false (same_site made w.site)
      (after_new w call.result (λ (t : Tuple). changed (writing w l n (written_by call)) (puts_away kept t)) fact)
      (on_tuples (λ (t : Tuple). changed (writing w l n (written_by call)) (puts_away kept t)) fact) other)
      ∙ ap (λ (q : Result). after_answer w l n call kept q fact) (sym is)
