-- What follows where a method is given, where it is refused, and where it is not served; and what a call leads to.
use Rattle.std.proofs.Common.{◌≡◌, ◌↔◌, ℕ, Option, Some, None, Result, Ok, Err, OnOk, is_some, true, false, refl, sym, ◌∙◌, ap, subst}
use Rattle.std.specs.List.{slice_get}
use Rattle.std.proofs.lemmas.Option.{same_Some, none-some}
use Rattle.jvm_model.specs.declared.number.MethodNo.{MethodNo}
use Rattle.jvm_model.specs.declared.reason.Refusal.{Refusal}
use Rattle.jvm_model.specs.Programs.{Program}
use Rattle.op_model.specs.declared.lowered.LoweredMethod.{LoweredMethod}
use Rattle.op_model.specs.declared.node.NodeRef.{NodeRef}
use Rattle.op_model.specs.Supplies.{GivenAs}
use Rattle.points_to_constraints.specs.CallItems.{CallItem}
use Rattle.points_to_constraints.specs.Items.{CallSite, Item as RuleItem}
use Rattle.points_to_constraints.specs.ItemRules.{MethodItem}
use Rattle.points_to_numbers.specs.declared.entries.CallSite.{CallSite as Entry}
use Rattle.points_to_numbers.specs.Numbered.{Numbered, IsCallAt}
use Rattle.points_to.specs.declared.refusals.RefusedMethod.{RefusedMethod}
use Rattle.points_to.specs.Concluding.{HasCaller, IsCallItem, IsGivenItem, IsRefusedAs}

-- what holds, holds where the answer is given
pub on_always : {T E : Type 0} (r : Result T E) (P : Type 0) → P → OnOk r P
on_always (Ok x) P h = h
on_always (Err e) P h = tt

-- A method is given as one thing.
abbrev pub GivesOne : GivenAs → Type 0
GivesOne gives = (number : ℕ) (a b : Result LoweredMethod Refusal) → gives number a → gives number b → a ≡ b

module _ (gives : GivenAs) (one : GivesOne gives) (method : MethodNo) where
  -- its items are those of its nodes
  pub given_items : (p : Program) (l : LoweredMethod) → gives method.0 (Ok l) → (x : RuleItem) → MethodItem p l x ↔ IsGivenItem p gives method.0 x
  given_items p l given x = (
    (λ item. record { method = l; given = given; item = item }),
    (λ h.
        let both = one method.0 (Ok h.method) (Ok l) h.given given in
        let same : h.method ≡ l = cc in
        subst (λ (m : LoweredMethod). MethodItem p m x) same h.item),
  )

  -- a method that is given is not refused
  pub given_unrefused : (l : LoweredMethod) → gives method.0 (Ok l) → (r : RefusedMethod) → IsRefusedAs gives method r → ⊥
  given_unrefused l given r h = let both = one method.0 (Ok l) (Err r.refusal) given h.refused in cc

  -- one that is refused is not given
  pub refused_ungiven : (p : Program) (refusal : Refusal) → gives method.0 (Err refusal) → (x : RuleItem) → IsGivenItem p gives method.0 x → ⊥
  refused_ungiven p refusal refused x h = let both = one method.0 (Ok h.method) (Err refusal) h.given refused in cc

  pub one_refusal : (refusal : Refusal) → gives method.0 (Err refusal) → (r : RefusedMethod) → IsRefusedAs gives method r → ◌≡◌ {A = RefusedMethod} (record { method = method; refusal = refusal }) r
  one_refusal refusal refused r h =
      let both = one method.0 (Err refusal) (Err r.refusal) refused h.refused in
      let same : refusal ≡ r.refusal = cc in
      let here : method ≡ r.method = sym h.is in
      (λ i. record { method = here i; refusal = same i })

-- ---- calls

pub none_there : {T : Type 0} (o : Option T) → is_some o ≡ false → o ≡ None
none_there None e = refl
none_there (Some x) e = cc

pub some_there : {T : Type 0} (o : Option T) → is_some o ≡ true → o ≡ None → ⊥
some_there None t e = cc
some_there (Some x) t e = cc

-- the call of the start leads to nothing
pub start_leads_nowhere : (p : Program) (n : Numbered) (number : ℕ) (target : MethodNo) (entry : Entry) → ((c : CallSite) → slice_get n.calls number ≡ Some c → IsCallAt n entry c)
    → entry.at.method ≡ None → (x : RuleItem) → IsCallItem p n number target x → ⊥
start_leads_nowhere p n number target entry shows none x h =
    let at = (shows h.call h.stands).at in
    none-some h.caller.0 (sym none ∙ ap (λ (at : NodeRef). at.method) (sym at) ∙ h.caller.1)

-- another call leads to what it does
pub call_items : (p : Program) (n : Numbered) (number : ℕ) (target : MethodNo) (known : (c : CallSite) × (slice_get n.calls number ≡ Some c)) → HasCaller known.0 → (x : RuleItem)
    → CallItem p known.0 target x ↔ IsCallItem p n number target x
call_items p n number target known caller x = (
  (λ item. record { call = known.0; stands = known.1; caller = caller; item = item }),
  (λ h. subst (λ (c : CallSite). CallItem p c target x) (same_Some h.call known.0 (sym h.stands ∙ known.1)) h.item),
)

-- a call whose node has a method
pub caller_there : (n : Numbered) (number : ℕ) (entry : Entry) (known : (c : CallSite) × (slice_get n.calls number ≡ Some c)) → ((c : CallSite) → slice_get n.calls number ≡ Some c → IsCallAt n entry c)
    → (o : Option MethodNo) → entry.at.method ≡ o → (o ≡ None → ⊥) → HasCaller known.0
caller_there n number entry known shows None e some = absurd (some refl)
caller_there n number entry known shows (Some m) e some = (m, ap (λ (at : NodeRef). at.method) (shows known.0 known.1).at ∙ e)
