-- What an object leads to that selects the target of a call: what it selects is one thing, and what is added by it.
use Rattle.std.proofs.Common.{◌≡◌, ◌↔◌, ℕ, false, Some, None, Result, Ok, Err, refl, sym, ap, ◌∙◌, subst, inl, inr, ◌⊎◌}
use Rattle.std.specs.List.{slice_get, Contains}
use Rattle.std.proofs.lemmas.Option.{same_Some}
use Rattle.jvm_model.specs.declared.number.MethodNo.{MethodNo}
use Rattle.jvm_model.specs.declared.reason.Reason.{Reason}
use Rattle.jvm_model.specs.declared.reason.Reason.TheVariants.{NoStub}
use Rattle.jvm_model.specs.declared.site.Site.{Site}
use Rattle.jvm_model.specs.declared.stub.StubMethod.{StubMethod}
use Rattle.jvm_model.specs.declared.stub.StubResult.{StubResult}
use Rattle.jvm_model.specs.declared.stub.StubResult.TheVariants.{Primitive, Void, Null, Given, New, Kept}
use Rattle.jvm_model.specs.Programs.{Program, Method, described, IsUndescribed}
use Rattle.points_to_rules.specs.Calls.{IsDescribedBy, SelectsFor}
use Rattle.points_to_rules.specs.Facts.{kept_objects}
use Rattle.points_to_rules.specs.Refusals.{not_selected, not_described}
use Rattle.points_to_constraints.specs.CallItems.{SelectItem, called, received, kept, given}
use Rattle.points_to_constraints.specs.Items.{CallSite, Item as RuleItem}
use Rattle.points_to_calls.specs.Describing.{ReceiverItem}
use Rattle.points_to_calls.specs.Lacks.{CallLacks}
use Rattle.points_to_calls.specs.Parts.{RuleOrigin, made, Gets, ResultsGet, ResultGives, KeptItem, GotItem}
use Rattle.points_to_calls.specs.Selecting.{DescribedItem, TargetItem}

-- ---- what a described target keeps and gives

pub receiver_described : (p : Program) (site : CallSite) (s : Site) (target : MethodNo) (stub : StubMethod) (m : Method) → slice_get p.methods target.0 ≡ Some m → m.body ≡ described stub
    → (x : RuleItem) → ReceiverItem p site stub s x ↔ DescribedItem p site s target x
receiver_described p site s target stub m stands body x = (
  λ (concrete, part). (stub, record { method = m; stands = stands; of_stub = body; concrete = concrete }, part),
  λ (other, by, part).
      let e : described other ≡ described stub = sym by.of_stub ∙ ap (λ (k : Method). k.body) (same_Some by.method m (sym by.stands ∙ stands)) ∙ body in
      let same : other ≡ stub = cc e in
      (subst (λ (k : StubMethod). k.is_abstract ≡ false) same by.concrete, subst (λ (k : StubMethod). KeptItem p site k (Some s) x ⊎ GotItem p site k (Some s) x) same part),
)

-- ---- what the object leads to

module _ (p : Program) (site : CallSite) (s : Site) (target : MethodNo) (selects : SelectsFor site.kind p site.resolved s (Ok target.0))
    (only : (outcome : Result ℕ Reason) → SelectsFor site.kind p site.resolved s outcome → outcome ≡ Ok target.0) where
  of_result : (x : RuleItem) (stub : StubMethod) (result : StubResult) (g : RuleOrigin) → IsDescribedBy p target stub → Contains stub.returns result → ResultGives result stub site (Some s) g
      → ResultsGet p site g x → SelectItem p site s x
  of_result x stub Primitive g by there gives gets = absurd gives
  of_result x stub Void g by there gives gets = absurd gives
  of_result x stub Null g by there gives gets = absurd gives
  of_result x stub (Given argument) g by there (is, e) gets =
      let (to, among, got) = subst (λ (k : RuleOrigin). ResultsGet p site k x) e gets in given target stub argument to selects by there is among got
  of_result x stub (New class) g by there (alone, e) gets = cc alone
  of_result x stub Kept g by there (class, alone, is, e) gets = cc alone

  of_target : (x : RuleItem) → TargetItem p site s target x → SelectItem p site s x
  of_target x (inl (inl e)) = called target selects e
  of_target x (inl (inr e)) = received target selects e
  of_target x (inr (stub, by, inl (argument, there, (g, (is, e), gets)))) = kept target stub argument selects by there is (subst (λ (k : RuleOrigin). Gets p site k kept_objects x) e gets)
  of_target x (inr (stub, by, inr (result, there, (g, gives, gets)))) = of_result x stub result g by there gives gets

  same_target : (t : MethodNo) → SelectsFor site.kind p site.resolved s (Ok t.0) → t ≡ target
  same_target t is = (let e : Ok t.0 ≡ Ok target.0 = only (Ok t.0) is in let same : t.0 ≡ target.0 = cc e in ap (λ (k : ℕ). record { 0 = k }) same)

  in_target : (x : RuleItem) → SelectItem p site s x → TargetItem p site s target x
  in_target x (called t is e) = subst (λ (k : MethodNo). TargetItem p site s k x) (same_target t is) (inl (inl e))
  in_target x (received t is e) = subst (λ (k : MethodNo). TargetItem p site s k x) (same_target t is) (inl (inr e))
  in_target x (kept t stub argument is by there unit e) =
      subst (λ (k : MethodNo). TargetItem p site s k x) (same_target t is) (inr (stub, by, inl (argument, there, (made s, (unit, refl), e))))
  in_target x (given t stub argument to is by there unit among e) =
      subst (λ (k : MethodNo). TargetItem p site s k x) (same_target t is) (inr (stub, by, inr (Given argument, there, (made s, (unit, refl), (to, among, e)))))

  pub by_target : (x : RuleItem) → TargetItem p site s target x ↔ SelectItem p site s x
  by_target x = (of_target x, in_target x)

  -- what it lacks
  pub lacks_none : (IsUndescribed p target.0 → ⊥) → CallLacks p site s None
  lacks_none well reason (not_selected is) = (let e : Err reason ≡ Ok target.0 = only (Err reason) is in cc e)
  lacks_none well reason (not_described t is native e) = (let same : Ok t ≡ Ok target.0 = only (Ok t) is in let one : t ≡ target.0 = cc same in well (subst (λ (k : ℕ). IsUndescribed p k) one native))

  pub lacks_stub : IsUndescribed p target.0 → CallLacks p site s (Some NoStub)
  lacks_stub native = not_described target.0 selects native refl

-- ---- a reason is selected
selects_target : (p : Program) (site : CallSite) (s : Site) (x : RuleItem) → SelectItem p site s x → (t : MethodNo) × SelectsFor site.kind p site.resolved s (Ok t.0)
selects_target p site s x (called t is e) = (t, is)
selects_target p site s x (received t is e) = (t, is)
selects_target p site s x (kept t stub argument is by there unit e) = (t, is)
selects_target p site s x (given t stub argument to is by there unit among e) = (t, is)

module _ (p : Program) (site : CallSite) (s : Site) where
  pub reason_selected : (r : Reason) → ((outcome : Result ℕ Reason) → SelectsFor site.kind p site.resolved s outcome → outcome ≡ Err r) → (x : RuleItem) → SelectItem p site s x → ⊥
  reason_selected r only x item = (let (t, is) = selects_target p site s x item in let e : Ok t.0 ≡ Err r = only (Ok t.0) is in cc e)

  -- nothing is selected
  pub none_selected : ((outcome : Result ℕ Reason) → SelectsFor site.kind p site.resolved s outcome → ⊥) → (x : RuleItem) → SelectItem p site s x → ⊥
  none_selected none x item = let (t, is) = selects_target p site s x item in none (Ok t.0) is

  pub none_lacks : ((outcome : Result ℕ Reason) → SelectsFor site.kind p site.resolved s outcome → ⊥) → CallLacks p site s None
  none_lacks none reason (not_selected is) = none (Err reason) is
  none_lacks none reason (not_described t is native e) = none (Ok t) is
