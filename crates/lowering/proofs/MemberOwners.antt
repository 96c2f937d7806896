-- The member that an instruction names, and the class that declares it, by their numbers.
use Rattle.std.proofs.Common.{◌≡◌, ℕ, Bool, List, Some, Result, Ok, refl, sym, ◌∙◌, subst}
use Rattle.std.specs.List.{slice_get}
use Rattle.std.proofs.lemmas.Option.{slice_get_within}
use Rattle.jvm_model.specs.declared.number.ClassNo.{ClassNo}
use Rattle.jvm_model.specs.declared.reason.Reason.{Reason}
use Rattle.jvm_model.specs.Lookups.{Signature}
use Rattle.jvm_model.specs.Programs.{Class, Field, Method, Program}
use Rattle.jvm_model.specs.Resolution.{FieldResolution, MethodResolution, found, other_kind, not_found}
use Rattle.program_model.specs.Numbers.{name_at, IsClassNumber, IsFieldNumber, IsMethodNumber}
use Rattle.program_model.specs.Whole.{IsFieldView, IsMethodView}
use Rattle.program_model.specs.declared.member_view.MemberView.{MemberView}
use Rattle.hierarchy.proofs.ClassPlaces.{class_there, name_at-at, place_there}
use Rattle.hierarchy.proofs.Resolving.{resolves_within}
use Rattle.lowering_reasons.specs.declared.judgement.NamedMember.{NamedMember}
use Rattle.lowering_reasons.specs.declared.judgement.NamedMember.TheVariants as members
use Rattle.lowering_reasons.specs.Judgements.{IsNamedMember}
use Rattle.lowering_reasons.specs.Reasons.{Judged, wants_static}
use Rattle.machine_nodes.specs.Nodes.{IsClassNumber as IsClassNumberOf}
use Rattle.lowering.specs.Bodies.{IsMemberNumber}

-- a number of the program is that of the class of its name
pub class_number : (p : Program) (n : ClassNo) (name : List ℕ) → IsClassNumber p n.0 → name_at p n.0 ≡ name → IsClassNumberOf p n name
class_number p n name within is =
    let there = class_there p n.0 within in
    record { class = there.0; stands = there.1; named = sym (name_at-at p n.0 there.0 there.1) ∙ is }

-- ---- the numbers of members

field_number : (p : Program) (c : Class) (s : Signature) (wants : Bool) (n : ℕ) (o : Result ℕ Reason) → o ≡ Ok n → FieldResolution p c s wants o → IsFieldNumber p n
field_number p c s wants n o e (found k field finds stands kind is) =
    let number : k ≡ n = cc (e, is) in
    subst (λ (x : ℕ). IsFieldNumber p x) number (slice_get_within p.fields k field stands)
field_number p c s wants n o e (other_kind k field finds stands kind is) = absurd (cc (e, is))
field_number p c s wants n o e (not_found finds is) = absurd (cc (e, is))

method_number : (p : Program) (c : Class) (by_interface : Bool) (s : Signature) (n : ℕ) (o : Result ℕ Reason) → o ≡ Ok n → MethodResolution p c by_interface s o → IsMethodNumber p n
method_number p c by_interface s n o e (found k resolves kind is) =
    let number : k ≡ n = cc (e, is) in
    subst (λ (x : ℕ). IsMethodNumber p x) number (resolves_within p c.name s k resolves)
method_number p c by_interface s n o e (other_kind k resolves kind is) = absurd (cc (e, is))
method_number p c by_interface s n o e (not_found none is) = absurd (cc (e, is))

-- the member that an instruction names is one of the program
pub member_number : (j : Judged) (m : NamedMember) → IsNamedMember j m → IsMemberNumber j.program m
member_number j members.NoMember is = tt
member_number j (members.Field field) is = field_number j.program is.class is.field.signature (wants_static j.action) field.0 (Ok field.0) refl is.is
member_number j (members.Method resolved target) is =
    let l = is.0 in
    method_number j.program l.class l.by_interface l.method.signature resolved.0 (Ok resolved.0) refl l.is

-- ---- the class that declares a member

pub field_class : (p : Program) (n : ℕ) (v : MemberView) → IsFieldNumber p n → ((f : Field) → slice_get p.fields n ≡ Some f → IsFieldView p f v) → IsClassNumber p v.class.0
field_class p n v within shown =
    let there = place_there p.fields n within in
    (shown there.0 there.1).below

pub method_class : (p : Program) (n : ℕ) (v : MemberView) → IsMethodNumber p n → ((m : Method) → slice_get p.methods n ≡ Some m → IsMethodView p m v) → IsClassNumber p v.class.0
method_class p n v within shown =
    let there = place_there p.methods n within in
    (shown there.0 there.1).below

pub field_owner : (p : Program) (n : ℕ) (v : MemberView) → ((f : Field) → slice_get p.fields n ≡ Some f → IsFieldView p f v) → (f : Field) → slice_get p.fields n ≡ Some f → IsClassNumberOf p v.class f.class
field_owner p n v shown f stands =
    let view = shown f stands in
    class_number p v.class f.class view.below (sym view.class)

pub method_owner : (p : Program) (n : ℕ) (v : MemberView) → ((m : Method) → slice_get p.methods n ≡ Some m → IsMethodView p m v) → (m : Method) → slice_get p.methods n ≡ Some m → IsClassNumberOf p v.class m.class
method_owner p n v shown m stands =
    let view = shown m stands in
    class_number p v.class m.class view.below (sym view.class)
