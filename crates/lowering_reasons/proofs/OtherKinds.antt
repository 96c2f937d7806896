-- Members of another kind than an instruction asks for, in parts.
use Rattle.std.proofs.Common.{◌≡◌, ◌⊎◌, inl, inr, ℕ, Bool, Option, Some, None, Result, Ok, Err, sym, ◌∙◌, ap, subst}
use Rattle.std.specs.Prelude.{◌↔◌, IsTrue, is_ok, option_map, slice_get}
use Rattle.std.proofs.lemmas.Bool.{true≢false}
use Rattle.jvm_model.specs.declared.number.MethodNo.{MethodNo}
use Rattle.jvm_model.specs.declared.reason.Reason.{Reason}
use Rattle.jvm_model.specs.declared.reason.Reason.TheVariants as reasons
use Rattle.jvm_model.specs.Lookups.{MemberReference, Signature}
use Rattle.jvm_model.specs.Programs.{Class, Method, Program}
use Rattle.jvm_model.specs.Resolution.{MethodResolution, found, other_kind, not_found, Resolves}
use Rattle.program_model.specs.Numbers.{IsMethodNumber, method_number}
use Rattle.hierarchy.proofs.ClassPlaces.{method_there}
use Rattle.hierarchy.proofs.Resolving.{resolves_within}
use Rattle.lowering_reasons.specs.Looked.{CallsOtherKind, other_reference, other_method, IsInternal, constructor_elsewhere, initialiser, IsOnly, IsOtherKind, other_static, private_call, HasSuch}
use Rattle.lowering_reasons.specs.Reasons.{Judged, Calls, IsMismatched, by_field, by_reference, by_static, by_private, by_constructor, by_initialiser, LooksUpField, LooksUpMethod}
use Rattle.lowering_reasons.proofs.Only.{IsEither, only_here, only_same}

-- ---- outcomes

abbrev number_in : Result ℕ Reason → ℕ
number_in (Ok n) = n
number_in (Err r) = 0

abbrev reason_in : Result ℕ Reason → Reason
reason_in (Ok n) = reasons.KindMismatch
reason_in (Err r) = r

pub plain_ok : ℕ → Result ℕ Reason
plain_ok n = Ok n

pub plain_err : Reason → Result ℕ Reason
plain_err r = Err r

pub same_ok : (m n : ℕ) → ◌≡◌ {A = Result ℕ Reason} (Ok m) (Ok n) → m ≡ n
same_ok m n e = ap number_in e

pub same_err : (r s : Reason) → ◌≡◌ {A = Result ℕ Reason} (Err r) (Err s) → r ≡ s
same_err r s e = ap reason_in e

pub ok_or_err : (n : ℕ) (r : Reason) → ◌≡◌ {A = Result ℕ Reason} (Ok n) (Err r) → ⊥
ok_or_err n r e = true≢false (ap is_ok e)

pub at_outcome : (P : Result ℕ Reason → Type 0) (m : Option (Result MethodNo Reason)) (f r : Result MethodNo Reason) → m ≡ Some f → f ≡ r → IsOnly P (option_map method_number m)
    → IsOnly P (Some (method_number r))
at_outcome P m f r e is only =
    subst (λ (x : Result MethodNo Reason). IsOnly P (Some (method_number x))) is (subst (λ (o : Option (Result MethodNo Reason)). IsOnly P (option_map method_number o)) e only)

pub at_nothing : (P : Result ℕ Reason → Type 0) (m : Option (Result MethodNo Reason)) → m ≡ None → IsOnly P (option_map method_number m) → IsOnly P None
at_nothing P m e only = subst (λ (o : Option (Result MethodNo Reason)). IsOnly P (option_map method_number o)) e only

-- what was found resolves
pub resolution_found : (p : Program) (c : Class) (b : Bool) (s : Signature) (n : ℕ) → MethodResolution p c b s (Ok n) → Resolves p (record { class = c.name; signature = s }) n
resolution_found p c b s n (found number resolves kind e) = subst (λ (k : ℕ). Resolves p (record { class = c.name; signature = s }) k) (sym (same_ok n number e)) resolves
resolution_found p c b s n (other_kind number resolves kind e) = absurd (ok_or_err n reasons.KindMismatch e)
resolution_found p c b s n (not_found none e) = absurd (ok_or_err n _ e)

pub method_within : (j : Judged) (n : ℕ) → LooksUpMethod j (Ok n) → IsMethodNumber j.program n
method_within j n l = resolves_within j.program l.class.name l.method.signature n (resolution_found j.program l.class l.by_interface l.method.signature n l.is)

-- ---- methods of another kind

abbrev ToldOfKind : Judged → ℕ → Bool → Type 0
ToldOfKind j n b = (m : Method) → slice_get j.program.methods n ≡ Some m → IsTrue b ↔ IsOtherKind j.action m

pub other_found : (j : Judged) (n : ℕ) (b : Bool) → IsOnly (LooksUpMethod j) (Some (Ok n)) → ToldOfKind j n b → IsTrue b ↔ CallsOtherKind j
other_found j n b only tells = (
  λ passed.
      let looked = only_here (LooksUpMethod j) (Ok n) only in
      let there = method_there j.program n (method_within j n looked) in
      other_method n there.0 looked there.1 ((tells there.0 there.1).0 passed),
  by,
)
  where
    by : CallsOtherKind j → IsTrue b
    by (other_reference l) = absurd (ok_or_err n reasons.KindMismatch (only_same (LooksUpMethod j) (Ok n) (Err reasons.KindMismatch) only l))
    by (other_method number m l stands kind) =
        let same = same_ok n number (only_same (LooksUpMethod j) (Ok n) (Ok number) only l) in
        (tells m (subst (λ (k : ℕ). slice_get j.program.methods k ≡ Some m) (sym same) stands)).1 kind

pub other_failed : (j : Judged) (r : Reason) (b : Bool) → IsOnly (LooksUpMethod j) (Some (Err r)) → (IsTrue b ↔ (r ≡ reasons.KindMismatch)) → IsTrue b ↔ CallsOtherKind j
other_failed j r b only test = (
  λ passed. other_reference (subst (λ (x : Reason). LooksUpMethod j (Err x)) (test.0 passed) (only_here (LooksUpMethod j) (Err r) only)),
  by,
)
  where
    by : CallsOtherKind j → IsTrue b
    by (other_reference l) = test.1 (same_err r reasons.KindMismatch (only_same (LooksUpMethod j) (Err r) (Err reasons.KindMismatch) only l))
    by (other_method number m l stands kind) = absurd (ok_or_err number r (sym (only_same (LooksUpMethod j) (Err r) (Ok number) only l)))

pub other_never : (j : Judged) → ((outcome : Result ℕ Reason) → LooksUpMethod j outcome → ⊥) → CallsOtherKind j → ⊥
other_never j none (other_reference l) = none (Err reasons.KindMismatch) l
other_never j none (other_method number m l stands kind) = none (Ok number) l

-- ---- all parts

abbrev CallsInternal : Judged → Type 0
CallsInternal j = HasSuch (Calls j) (λ (m : MemberReference). IsInternal j.action m.signature.name)

mismatch_cases : (j : Judged) → IsMismatched j → LooksUpField j (Err reasons.KindMismatch) ⊎ (CallsOtherKind j ⊎ CallsInternal j)
mismatch_cases j (by_field l) = inl l
mismatch_cases j (by_reference l) = inr (inl (other_reference l))
mismatch_cases j (by_static number m l stands other) = inr (inl (other_method number m l stands (other_static other)))
mismatch_cases j (by_private number m action l stands secret) = inr (inl (other_method number m l stands (private_call action secret)))
mismatch_cases j (by_constructor m other calls named) = inr (inr (record { one = m; first = calls; second = constructor_elsewhere other named }))
mismatch_cases j (by_initialiser m calls named) = inr (inr (record { one = m; first = calls; second = initialiser named }))

other_mismatch : (j : Judged) (number : ℕ) (m : Method) → LooksUpMethod j (Ok number) → slice_get j.program.methods number ≡ Some m → IsOtherKind j.action m → IsMismatched j
other_mismatch j number m l stands (other_static other) = by_static number m l stands other
other_mismatch j number m l stands (private_call action secret) = by_private number m action l stands secret

internal_mismatch : (j : Judged) (m : MemberReference) → Calls j m → IsInternal j.action m.signature.name → IsMismatched j
internal_mismatch j m calls (constructor_elsewhere other named) = by_constructor m other calls named
internal_mismatch j m calls (initialiser named) = by_initialiser m calls named

method_mismatch : (j : Judged) → CallsOtherKind j ⊎ CallsInternal j → IsMismatched j
method_mismatch j (inl (other_reference l)) = by_reference l
method_mismatch j (inl (other_method number m l stands kind)) = other_mismatch j number m l stands kind
method_mismatch j (inr such) = internal_mismatch j such.one such.first such.second

pub mismatch : (j : Judged) → IsEither (LooksUpField j (Err reasons.KindMismatch)) (CallsOtherKind j ⊎ CallsInternal j) (IsMismatched j)
mismatch j = record { left = λ l. by_field l; right = method_mismatch j; cases = mismatch_cases j }

pub outcome_is : (m : Option (Result MethodNo Reason)) (f r : Result MethodNo Reason) → m ≡ Some f → f ≡ r → option_map method_number m ≡ Some (method_number r)
outcome_is m f r e is = ap (option_map method_number) e ∙ ap (λ (x : Result MethodNo Reason). Some (method_number x)) is
