-- The class whose initialisation an access to a static field, or a static call, may start.
use Rattle.std.proofs.Common.{◌≡◌, ◌⊎◌, inl, inr, ℕ, Bool, true, false, List, Option, Some, Result, Ok, refl, sym, ap, ◌∙◌, subst}
use Rattle.std.specs.List.{slice_get}
use Rattle.std.proofs.lemmas.Bool.{false≢true}
use Rattle.jvm_model.specs.declared.number.ClassNo.{ClassNo}
use Rattle.jvm_model.specs.declared.opcode.Action.{Action as CodeAction}
use Rattle.jvm_model.specs.declared.opcode.Action.TheVariants as actions
use Rattle.jvm_model.specs.declared.reason.Reason.{Reason}
use Rattle.jvm_model.specs.Instructions.{member_at}
use Rattle.jvm_model.specs.Lookups.{MemberReference}
use Rattle.jvm_model.specs.Programs.{Class as ProgramClass}
use Rattle.jvm_model.specs.Resolution.{FindsField, FieldResolution, MethodResolution, found, other_kind, not_found, Resolves}
use Rattle.jvm_model.specs.RowViews.{action_view, row_view}
use Rattle.jvm_model.specs.Table.{Action, get_static, put_static, invoke_static, is_call, is_field_access, is_trigger}
use Rattle.hierarchy.proofs.ClassPlaces.{number_named, place_there}
use Rattle.hierarchy.proofs.Resolving.{resolves_within}
use Rattle.machine_bytecode.specs.Machine.{NamesField, NamesMethod, Concerns, of_field, of_method}
use Rattle.lowering_reasons.specs.declared.judgement.NamedMember.{NamedMember}
use Rattle.lowering_reasons.specs.declared.judgement.NamedMember.TheVariants as members
use Rattle.lowering_reasons.specs.Judgements.{IsNamedMember}
use Rattle.lowering_reasons.specs.Reasons.{Judged, wants_static, LooksUpField, LooksUpMethod}
use Rattle.lowering.specs.Bodies.{judged_step, NamesOwner, TriggersAt, a_class}
use Rattle.lowering.specs.declared.body.JudgedStep.{JudgedStep}
use Rattle.lowering.specs.declared.body.MethodCode.{MethodCode}

-- ---- the table

pub is_static : (a : CodeAction) → (a ≡ actions.GetStatic) ⊎ ((a ≡ actions.PutStatic) ⊎ (a ≡ actions.InvokeStatic)) → wants_static (action_view a) ≡ true
is_static a (inl e) = ap (λ (x : CodeAction). wants_static (action_view x)) e
is_static a (inr (inl e)) = ap (λ (x : CodeAction). wants_static (action_view x)) e
is_static a (inr (inr e)) = ap (λ (x : CodeAction). wants_static (action_view x)) e

wants_triggers : (a : Action) → wants_static a ≡ true → is_trigger a ≡ true
wants_triggers get_static e = refl
wants_triggers put_static e = refl
wants_triggers invoke_static e = refl
wants_triggers _ e = absurd (false≢true e)

names_member : (a : Action) → wants_static a ≡ true → is_call a ≡ false → is_field_access a ≡ false → ⊥
names_member get_static e call access = false≢true (sym access)
names_member put_static e call access = false≢true (sym access)
names_member invoke_static e call access = false≢true (sym call)
names_member _ e call access = false≢true e

-- ---- the member that is named

record FieldThere (j : Judged) (n : ℕ) : Type 0 where
  pub names : NamesField j.program j.pool j.operand (wants_static j.action)
  pub number : names.number ≡ n

resolved_field : (j : Judged) (m : MemberReference) (c : ProgramClass) (n : ℕ) (o : Result ℕ Reason) → member_at j.pool j.operand ≡ Some m → c.name ≡ m.class → o ≡ Ok n
    → FieldResolution j.program c m.signature (wants_static j.action) o → FieldThere j n
resolved_field j m c n o named name e (found k field finds stands kind is) = record {
  names = record {
    named = m;
    is_named = named;
    number = k;
    found = subst (λ (x : List ℕ). FindsField j.program m.signature x (Some k)) name finds;
    field = field;
    stands = stands;
    kind = kind;
  };
  number = cc (e, is);
}
resolved_field j m c n o named name e (other_kind k field finds stands kind is) = absurd (cc (e, is))
resolved_field j m c n o named name e (not_found finds is) = absurd (cc (e, is))

field_there : (j : Judged) (n : ℕ) → LooksUpField j (Ok n) → FieldThere j n
field_there j n l = resolved_field j l.field l.class n (Ok n) l.accesses.1 (number_named j.program l.field.class l.class l.named).2 refl l.is

record MethodThere (j : Judged) (n : ℕ) : Type 0 where
  pub names : NamesMethod j.program j.pool j.operand
  pub number : names.resolved ≡ n

resolved_method : (j : Judged) (m : MemberReference) (c : ProgramClass) (by_interface : Bool) (n : ℕ) (o : Result ℕ Reason) → member_at j.pool j.operand ≡ Some m → c.name ≡ m.class → o ≡ Ok n
    → MethodResolution j.program c by_interface m.signature o → MethodThere j n
resolved_method j m c by_interface n o named name e (found k resolves kind is) =
    let there = place_there j.program.methods k (resolves_within j.program c.name m.signature k resolves) in
    record {
      names = record {
        called = m;
        named = named;
        resolved = k;
        resolves = subst (λ (x : List ℕ). Resolves j.program (record { class = x; signature = m.signature }) k) name resolves;
        method = there.0;
        stands = there.1;
      };
      number = cc (e, is);
    }
resolved_method j m c by_interface n o named name e (other_kind k resolves kind is) = absurd (cc (e, is))
resolved_method j m c by_interface n o named name e (not_found none is) = absurd (cc (e, is))

method_there : (j : Judged) (n : ℕ) → LooksUpMethod j (Ok n) → MethodThere j n
method_there j n l = resolved_method j l.method l.class l.by_interface n (Ok n) l.calls.1 (number_named j.program l.method.class l.class l.named).2 refl l.is

-- ---- its class

concerns : (j : Judged) (n : NamesField j.program j.pool j.operand (wants_static j.action)) → wants_static j.action ≡ true → Concerns j.program j.pool j.operand n.field.class
concerns j n e =
    of_field (record { named = n.named; is_named = n.is_named; number = n.number; found = n.found; field = n.field; stands = n.stands; kind = n.kind ∙ e }) refl

module _ (b : MethodCode) (j : JudgedStep) (static : wants_static (row_view j.row.now).action ≡ true) where
  triggers : is_trigger (row_view j.row.now).action ≡ true
  triggers = wants_triggers (row_view j.row.now).action static

  by_member : (m : NamedMember) (owner : Option ClassNo) → IsNamedMember (judged_step b j) m → NamesOwner b.program.now m owner → TriggersAt b j owner
  by_member members.NoMember owner is owns = absurd (names_member (row_view j.row.now).action static is.0 is.1)
  by_member (members.Field field) owner is owns =
      let there = field_there (judged_step b j) field.0 is in
      let stands = sym (ap (slice_get b.program.now.fields) there.number) ∙ there.names.stands in
      a_class triggers there.names.field.class owns.0 (concerns (judged_step b j) there.names static) (owns.2 there.names.field stands) owns.1
  by_member (members.Method resolved target) owner is owns =
      let there = method_there (judged_step b j) resolved.0 is.0 in
      let stands = sym (ap (slice_get b.program.now.methods) there.number) ∙ there.names.stands in
      a_class triggers there.names.method.class owns.0 (of_method there.names refl) (owns.2 there.names.method stands) owns.1

  pub static_trigger : (owner : Option ClassNo) → IsNamedMember (judged_step b j) j.member → NamesOwner b.program.now j.member owner → TriggersAt b j owner
  static_trigger owner is owns = by_member j.member owner is owns
