-- What the reference of an instruction names: a field, or the methods of a call.
use Rattle.std.proofs.Common.{◌≡◌, ℕ, Bool, List, length, Option, Some, None, Result, Ok, refl, sym, ap, ◌∙◌, subst}
use Rattle.std.specs.List.{slice_get}
use Rattle.std.proofs.lemmas.Option.{same_Some, none-some}
use Rattle.list_laws.proofs.Places.{stands_below}
use Rattle.jvm_model.specs.declared.number.FieldNo.{FieldNo}
use Rattle.jvm_model.specs.declared.number.MethodNo.{MethodNo}
use Rattle.jvm_model.specs.declared.reason.Reason.{Reason}
use Rattle.jvm_model.specs.declared.access.AccessFlag.TheVariants.{Static}
use Rattle.jvm_model.specs.Access.{has_flag}
use Rattle.jvm_model.specs.Instructions.{member_at, kinds_of}
use Rattle.jvm_model.specs.Lookups.{Signature, MemberReference}
use Rattle.jvm_model.specs.Programs.{Program, Field, Class as ProgramClass}
use Rattle.jvm_model.specs.Resolution.{FindsField, FindsAmong, itself, above, nowhere, first, later, FieldResolution, MethodResolution, found, other_kind, not_found, Resolves}
use Rattle.jvm_model.specs.RowViews.{row_view}
use Rattle.jvm_model.specs.Selection.{SelectsSpecial}
use Rattle.jvm_model.specs.Table.{Action, invoke_virtual, invoke_special, invoke_static, invoke_interface}
use Rattle.machine_bytecode.specs.Machine.{NamesField, NamesMethod}
use Rattle.machine_bytecode.specs.States.{is_reference_type}
use Rattle.hierarchy.proofs.ClassPlaces.{number_named}
use Rattle.hierarchy.proofs.Resolving.{resolves_within}
use Rattle.lowering_reasons.specs.declared.judgement.NamedMember.{NamedMember}
use Rattle.lowering_reasons.specs.declared.judgement.NamedMember.TheVariants as members
use Rattle.lowering_reasons.specs.Judgements.{IsNamedMember, IsKnownTarget}
use Rattle.lowering_reasons.specs.Reasons.{Judged, LooksUpField, LooksUpMethod, HasTarget, special, static, wants_static}
use Rattle.program_model.specs.declared.member_view.MemberView.{MemberView}
use Rattle.program_model.specs.Whole.{IsFieldView}
use Rattle.lowering_operations.specs.declared.placement.Placement.{Placement}
use Rattle.lowering_operations.specs.ByAction.{AccessesField, IsCallee, call_kind, resolved_method}
use Rattle.lowering_operations.specs.Placements.{judged_at}

-- ---- fields

-- the field that is found has the name and the descriptor that are looked for
mutual
  pub found_signature : (p : Program) (s : Signature) (class : List ℕ) (o : Option ℕ) (n : ℕ) (f : Field) → FindsField p s class o → o ≡ Some n → slice_get p.fields n ≡ Some f → f.signature ≡ s
  found_signature p s class o n f (itself _ k d) e at =
      let number : k ≡ n = same_Some k n e in
      let same : d.field ≡ f = same_Some d.field f (sym d.stands ∙ ap (slice_get p.fields) number ∙ at) in
      sym (ap (λ (x : Field). x.signature) same) ∙ d.is
  found_signature p s class o n f (above _ _ c named none among) e at = among_signature p s _ o n f among e at

  among_signature : (p : Program) (s : Signature) (classes : List (List ℕ)) (o : Option ℕ) (n : ℕ) (f : Field) → FindsAmong p s classes o → o ≡ Some n → slice_get p.fields n ≡ Some f → f.signature ≡ s
  among_signature p s classes o n f nowhere e at = absurd (none-some n e)
  among_signature p s classes o n f (first class others k d) e at = found_signature p s class (Some k) n f d e at
  among_signature p s classes o n f (later class others _ none d) e at = among_signature p s others o n f d e at

record Finds (p : Program) (m : MemberReference) (wants : Bool) (n : ℕ) : Type 0 where
  pub field : Field
  pub is_found : FindsField p m.signature m.class (Some n)
  pub stands : slice_get p.fields n ≡ Some field
  pub kind : has_flag field.flags Static ≡ wants

resolved_field : (p : Program) (m : MemberReference) (c : ProgramClass) (wants : Bool) (n : ℕ) (o : Result ℕ Reason) → c.name ≡ m.class → o ≡ Ok n → FieldResolution p c m.signature wants o → Finds p m wants n
resolved_field p m c wants n o name e (found k field finds stands kind is) =
    let number : k ≡ n = cc (e, is) in
    record {
      field = field;
      is_found = subst (λ (x : List ℕ). FindsField p m.signature x (Some n)) name (subst (λ (x : ℕ). FindsField p m.signature c.name (Some x)) number finds);
      stands = sym (ap (slice_get p.fields) number) ∙ stands;
      kind = kind;
    }
resolved_field p m c wants n o name e (other_kind k field finds stands kind is) = absurd (cc (e, is))
resolved_field p m c wants n o name e (not_found finds is) = absurd (cc (e, is))

-- the field of an instruction
record FieldThere (j : Judged) (n : ℕ) : Type 0 where
  pub names : NamesField j.program j.pool j.operand (wants_static j.action)
  pub number : names.number ≡ n
  pub as_named : names.field.signature ≡ names.named.signature

field_there : (j : Judged) (n : ℕ) → LooksUpField j (Ok n) → FieldThere j n
field_there j n l =
    let f = resolved_field j.program l.field l.class (wants_static j.action) n (Ok n) (number_named j.program l.field.class l.class l.named).2 refl l.is in
    record {
      names = record { named = l.field; is_named = l.accesses.1; number = n; found = f.is_found; field = f.field; stands = f.stands; kind = f.kind };
      number = refl;
      as_named = found_signature j.program l.field.signature l.field.class (Some n) n f.field f.is_found refl f.stands;
    }

pub accesses : (at : Placement) (field : FieldNo) (v : MemberView) (is_reference : Bool) (units : ℕ) → at.member ≡ members.Field field → IsNamedMember (judged_at at) at.member
    → ((f : Field) → slice_get at.program.now.fields field.0 ≡ Some f → IsFieldView at.program.now f v) → is_reference ≡ is_reference_type v.signature.descriptor.now → units ≡ length (kinds_of v.signature.descriptor.now)
    → AccessesField at (wants_static (row_view at.row.now).action) (record { field = field; is_reference = is_reference; units = units })
accesses at field v is_reference units is member shown refers counted =
    let l : LooksUpField (judged_at at) (Ok field.0) = subst (λ (m : NamedMember). IsNamedMember (judged_at at) m) is member in
    let there = field_there (judged_at at) field.0 l in
    let stands : slice_get at.program.now.fields field.0 ≡ Some there.names.field = sym (ap (slice_get at.program.now.fields) there.number) ∙ there.names.stands in
    let view = shown there.names.field stands in
    let descriptor : there.names.field.signature.descriptor ≡ v.signature.descriptor.now = ap (λ (s : Signature). s.descriptor) view.signature in
    record {
      names = there.names;
      number = there.number;
      as_named = there.as_named;
      is_reference = refers ∙ sym (ap is_reference_type descriptor);
      units = counted ∙ sym (ap (λ (d : List ℕ). length (kinds_of d)) descriptor);
    }

-- ---- methods

-- the reference resolves to the method
record MethodThere (j : Judged) (l : MemberReference) (n : ℕ) : Type 0 where
  pub names : NamesMethod j.program j.pool j.operand
  pub number : names.resolved ≡ n
  pub as_called : names.called ≡ l

resolves_to : (p : Program) (c : ProgramClass) (by_interface : Bool) (m : MemberReference) (n : ℕ) (o : Result ℕ Reason) → c.name ≡ m.class → o ≡ Ok n → MethodResolution p c by_interface m.signature o → Resolves p m n
resolves_to p c by_interface m n o name e (found k resolves kind is) =
    let number : k ≡ n = cc (e, is) in
    subst (λ (x : List ℕ). Resolves p (record { class = x; signature = m.signature }) n) name (subst (λ (x : ℕ). Resolves p (record { class = c.name; signature = m.signature }) x) number resolves)
resolves_to p c by_interface m n o name e (other_kind k resolves kind is) = absurd (cc (e, is))
resolves_to p c by_interface m n o name e (not_found none is) = absurd (cc (e, is))

method_there : (j : Judged) (n : ℕ) (l : LooksUpMethod j (Ok n)) → MethodThere j l.method n
method_there j n l =
    let resolves = resolves_to j.program l.class l.by_interface l.method n (Ok n) (number_named j.program l.method.class l.class l.named).2 refl l.is in
    let there = stands_below j.program.methods n (resolves_within j.program l.method.class l.method.signature n resolves) in
    record { names = record { called = l.method; named = l.calls.1; resolved = n; resolves = resolves; method = there.0; stands = there.1 }; number = refl; as_called = refl }

special_target : (j : Judged) (target : ℕ) (m : MemberReference) → j.action ≡ invoke_special → member_at j.pool j.operand ≡ Some m → HasTarget j target → SelectsSpecial j.program j.current m target
special_target j target m a named (special number is l fits selects) =
    subst (λ (x : MemberReference). SelectsSpecial j.program j.current x target) (same_Some l.method m (sym l.calls.1 ∙ named)) selects
special_target j target m a named (static is l fits) = absurd (cc (a, is))

static_target : (j : Judged) (target : ℕ) → j.action ≡ invoke_static → HasTarget j target → LooksUpMethod j (Ok target)
static_target j target a (special number is l fits selects) = absurd (cc (a, is))
static_target j target a (static is l fits) = l

-- the methods of a call, by its action
callee_by : (at : Placement) (a : Action) (resolved : MethodNo) (target : Option MethodNo) → (row_view at.row.now).action ≡ a → LooksUpMethod (judged_at at) (Ok resolved.0) → IsKnownTarget (judged_at at) a target
    → IsCallee at (call_kind a) (record { resolved = resolved_method a resolved target; chosen = target })
callee_by at invoke_virtual resolved None is l known = let t = method_there (judged_at at) resolved.0 l in record { names = t.names; number = t.number; chosen = refl }
callee_by at invoke_interface resolved None is l known = let t = method_there (judged_at at) resolved.0 l in record { names = t.names; number = t.number; chosen = refl }
callee_by at invoke_special resolved (Some target) is l known =
    let t = method_there (judged_at at) resolved.0 l in
    record { names = t.names; number = t.number; chosen = (target.0, special_target (judged_at at) target.0 t.names.called is t.names.named known, refl) }
callee_by at invoke_static resolved (Some target) is l known =
    let t = method_there (judged_at at) target.0 (static_target (judged_at at) target.0 is known) in
    record { names = t.names; number = t.number; chosen = ap (λ (n : ℕ). Some (record { 0 = n })) (sym t.number) }
callee_by at _ resolved _ is l known = absurd known

pub callee : (at : Placement) (resolved : MethodNo) (target : Option MethodNo) (r : MethodNo) → at.member ≡ members.Method resolved target → IsNamedMember (judged_at at) at.member
    → r ≡ resolved_method (row_view at.row.now).action resolved target → IsCallee at (call_kind (row_view at.row.now).action) (record { resolved = r; chosen = target })
callee at resolved target r is member resolved_is =
    let known = subst (λ (m : NamedMember). IsNamedMember (judged_at at) m) is member in
    let all = callee_by at (row_view at.row.now).action resolved target refl known.0 known.1 in
    subst (λ (m : MethodNo). IsCallee at (call_kind (row_view at.row.now).action) (record { resolved = m; chosen = target })) (sym resolved_is) all
