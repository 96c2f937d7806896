-- What a call leads to, by its parts: the target runs, units are passed, and what the body of the target gives, keeps and throws.
use Rattle.std.proofs.Common.{◌≡◌, ◌↔◌, Some, None, false, refl, sym, ap, ◌∙◌, subst, inl, inr, ◌⊎◌}
use Rattle.std.specs.List.{slice_get, Contains}
use Rattle.std.proofs.lemmas.Option.{same_Some}
use Rattle.jvm_model.specs.declared.number.MethodNo.{MethodNo}
use Rattle.jvm_model.specs.declared.site.SiteKind.TheVariants as kinds
use Rattle.jvm_model.specs.declared.stub.StubMethod.{StubMethod}
use Rattle.jvm_model.specs.declared.stub.StubResult.{StubResult}
use Rattle.jvm_model.specs.declared.stub.StubResult.TheVariants.{Primitive, Void, Null, Given, New, Kept}
use Rattle.jvm_model.specs.Programs.{Program, Method, in_file, described}
use Rattle.points_to_rules.specs.Calls.{IsOfFile, IsDescribedBy}
use Rattle.points_to_rules.specs.Facts.{kept_objects, may_run}
use Rattle.points_to_rules.proofs.TargetBodies.{not_both}
use Rattle.points_to_constraints.specs.CallItems.{call_allocates, CallItem, runs, pass, receive, target_throws, keep_argument, give_argument, give_new, give_kept, described_throws}
use Rattle.points_to_constraints.specs.Items.{CallSite, Item as RuleItem, known}
use Rattle.points_to_calls.specs.Describing.{StubPart, StubItem, BodyItem}
use Rattle.points_to_calls.specs.Parts.{RuleOrigin, unit, made, fitting, Gets, ResultsGet, ResultGives, FileItem, UnitPassed}

-- ---- the body of a target

one_stub : (p : Program) (target : MethodNo) (a b : StubMethod) → IsDescribedBy p target a → IsDescribedBy p target b → a ≡ b
one_stub p target a b first second =
    let e : described a ≡ described b = sym first.of_stub ∙ ap (λ (m : Method). m.body) (same_Some first.method second.method (sym first.stands ∙ second.stands)) ∙ second.of_stub in
    cc e

pub file_body : (p : Program) (site : CallSite) (target : MethodNo) → IsOfFile p target → (x : RuleItem) → FileItem site target x ↔ BodyItem p site target x
file_body p site target of x = (
  λ item. inl (of, item),
  λ body. elim body [ inl (also, item) ↦ item | inr (stub, by, part) ↦ absurd (not_both p target stub of by) ],
)

pub stub_body : (p : Program) (site : CallSite) (target : MethodNo) (stub : StubMethod) (m : Method) → slice_get p.methods target.0 ≡ Some m → m.body ≡ described stub
    → (x : RuleItem) → StubItem p site stub x ↔ BodyItem p site target x
stub_body p site target stub m stands body x = (
  λ (concrete, part). inr (stub, record { method = m; stands = stands; of_stub = body; concrete = concrete }, part),
  λ item. elim item [
    | inl (of, file) ↦
        (let e : in_file of.file of.place of.member ≡ described stub = sym of.of_file ∙ ap (λ (k : Method). k.body) (same_Some of.method m (sym of.stands ∙ stands)) ∙ body in cc e)
    | inr (other, by, part) ↦
        (let e : described other ≡ described stub = sym by.of_stub ∙ ap (λ (k : Method). k.body) (same_Some by.method m (sym by.stands ∙ stands)) ∙ body in
        let same : other ≡ stub = cc e in
        (subst (λ (s : StubMethod). s.is_abstract ≡ false) same by.concrete, subst (λ (s : StubMethod). StubPart p site s x) same part))
  ],
)

-- ---- the whole call

-- What a call leads to, by its parts.
abbrev pub PartedItem : Program → CallSite → MethodNo → RuleItem → Type 0
PartedItem p site target x = ((x ≡ known (may_run target)) ⊎ UnitPassed site target x) ⊎ BodyItem p site target x

module _ (p : Program) (site : CallSite) (target : MethodNo) (x : RuleItem) where
  of_result : (stub : StubMethod) (result : StubResult) (g : RuleOrigin) → IsDescribedBy p target stub → Contains stub.returns result → ResultGives result stub site None g → ResultsGet p site g x
      → CallItem p site target x
  of_result stub Primitive g by there gives gets = absurd gives
  of_result stub Void g by there gives gets = absurd gives
  of_result stub Null g by there gives gets = absurd gives
  of_result stub (Given argument) g by there (u, is, e) gets =
      let (to, among, got) = subst (λ (k : RuleOrigin). ResultsGet p site k x) e gets in
      give_argument stub argument u got.from to got.constraint by there (record { is_unit = is; passed = got.stands }) among got.gives got.is
  of_result stub (New class) g by there (alone, e) gets =
      let (to, among, got) = subst (λ (k : RuleOrigin). ResultsGet p site k x) e gets in give_new stub class to by there among got
  of_result stub Kept g by there (class, alone, is, e) gets =
      let (to, among, got) = subst (λ (k : RuleOrigin). ResultsGet p site k x) e gets in give_kept stub class to by there is among got

  of_body : BodyItem p site target x → CallItem p site target x
  of_body (inl (of, inl (to, among, e))) = receive to of among e
  of_body (inl (of, inr e)) = target_throws of e
  of_body (inr (stub, by, inl (inl (argument, there, (g, (u, is, e), gets))))) =
      let got = subst (λ (k : RuleOrigin). Gets p site k kept_objects x) e gets in
      keep_argument stub argument u got.from got.constraint by there (record { is_unit = is; passed = got.stands }) got.gives got.is
  of_body (inr (stub, by, inl (inr (result, there, (g, gives, gets))))) = of_result stub result g by there gives gets
  of_body (inr (stub, by, inr (class, there, thrown))) = described_throws stub class thrown.to by there thrown.lands thrown.is

  of_parts : PartedItem p site target x → CallItem p site target x
  of_parts (inl (inl e)) = runs e
  of_parts (inl (inr (u, passes))) = pass u passes.from passes.stands passes.passed passes.is
  of_parts (inr body) = of_body body

  in_parts : CallItem p site target x → PartedItem p site target x
  in_parts (runs e) = inl (inl e)
  in_parts (pass u from stands passed e) = inl (inr (u, record { from = from; stands = stands; passed = passed; is = e }))
  in_parts (receive to of among e) = inr (inl (of, inl (to, among, e)))
  in_parts (target_throws of e) = inr (inl (of, inr e))
  in_parts (keep_argument stub argument u from constraint by there is gives e) =
      inr (inr (stub, by, inl (inl (argument, there, (unit u, (u, is.is_unit, refl), record { from = from; constraint = constraint; stands = is.passed; gives = gives; is = e })))))
  in_parts (give_argument stub argument u from to constraint by there is among gives e) =
      inr (inr (stub, by, inl (inr (Given argument, there, (unit u, (u, is.is_unit, refl), (to, among, record { from = from; constraint = constraint; stands = is.passed; gives = gives; is = e }))))))
  in_parts (give_new stub class to by there among e) = inr (inr (stub, by, inl (inr (New class, there, (made (call_allocates kinds.Result site class), (refl, refl), (to, among, e))))))
  in_parts (give_kept stub class to by there is among e) = inr (inr (stub, by, inl (inr (Kept, there, (fitting class, (class, refl, is, refl), (to, among, e))))))
  in_parts (described_throws stub class to by there lands e) = inr (inr (stub, by, inr (class, there, record { to = to; lands = lands; is = e })))

  pub parted : PartedItem p site target x ↔ CallItem p site target x
  parted = (of_parts, in_parts)
