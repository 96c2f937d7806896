-- The code of a method begins at one place; and the reasons for which a call lacks its target stand in one order.
use Rattle.std.proofs.Common.{◌≡◌, ℕ, zero, suc, ◌≤◌, Bool, true, false, ◌||◌, List, [], ◌∷◌, ◌++◌, Some, Result, Err, length, refl, sym, ◌∙◌, ap, subst, arith}
use Rattle.std.specs.List.{slice_get, list_any, flat_map}
use Rattle.std.proofs.lemmas.Option.{same_Some, none-some}
use Rattle.jvm_model.specs.declared.class_file.Attribute.{Attribute}
use Rattle.jvm_model.specs.declared.class_file.ClassFile.{ClassFile}
use Rattle.jvm_model.specs.declared.class_file.Member.{Member}
use Rattle.jvm_model.specs.declared.number.MethodNo.{MethodNo}
use Rattle.jvm_model.specs.declared.reason.Reason.{Reason}
use Rattle.jvm_model.specs.declared.reason.Reason.TheVariants.{NoStub, NoImplementation, ClashingDefaults, PackageOverride}
use Rattle.jvm_model.specs.declared.site.Site.{Site}
use Rattle.jvm_model.specs.Layout.{IsCodePlace}
use Rattle.jvm_model.specs.Programs.{Program, Method, in_file}
use Rattle.jvm_model.specs.Selection.{Selection, selected, no_code, nothing, several, hidden}
use Rattle.jvm_model.specs.Soundness.{is_code}
use Rattle.jvm_model.specs.Spelling.{attribute}
use Rattle.op_model.specs.declared.op.CallKind.{CallKind}
use Rattle.op_model.specs.declared.op.CallKind.TheVariants.{Virtual, Special, Static, Interface}
use Rattle.points_to_rules.specs.Calls.{SelectsFor}
use Rattle.points_to_rules.specs.Refusals.{LacksTarget, not_selected, not_described, IsCodeStart, IsNoLater, call_reasons}
use Rattle.points_to.specs.Firsts.{reason_place}

-- ---- where code begins

neither : (a b : Bool) → (a || b) ≡ false → (a ≡ false) × (b ≡ false)
neither true b e = absurd cc
neither false b e = (refl, e)

-- what stands before the first attribute that passes a test is one list
one_front : (test : Attribute → Bool) (one other : List Attribute) (a b : Attribute) (rest also : List Attribute) → one ++ a ∷ rest ≡ other ++ b ∷ also
    → list_any test one ≡ false → test a ≡ true → list_any test other ≡ false → test b ≡ true → one ≡ other
one_front test [] [] a b rest also same none is none2 is2 = refl
one_front test [] (y ∷ other) a b rest also same none is none2 is2 =
    let head : a ≡ y = cc in
    absurd (let not = (neither (test y) (list_any test other) none2).0 in let yes_here = ap test head in cc)
one_front test (x ∷ one) [] a b rest also same none is none2 is2 =
    let head : x ≡ b = cc in
    absurd (let not = (neither (test x) (list_any test one) none).0 in let yes_here = ap test head in cc)
one_front test (x ∷ one) (y ∷ other) a b rest also same none is none2 is2 =
    let head : x ≡ y = cc in
    let tail : one ++ a ∷ rest ≡ other ++ b ∷ also = cc in
    let fronts = one_front test one other a b rest also tail (neither (test x) (list_any test one) none).1 is (neither (test y) (list_any test other) none2).1 is2 in
    (λ i. head i ∷ fronts i)

one_place : (file : ClassFile) (number p q : ℕ) → IsCodePlace file number p → IsCodePlace file number q → p ≡ q
one_place file number p q first second =
    let owners = same_Some first.owner second.owner (sym first.there ∙ second.there) in
    let parts = sym first.first.parts ∙ ap (λ (m : Member). m.attributes) owners ∙ second.first.parts in
    let fronts = one_front (is_code file.pool) first.before second.before first.code second.code first.after second.after parts first.first.none_before first.first.named_code second.first.none_before second.first.named_code in
    let lengths : length (flat_map attribute first.before) ≡ length (flat_map attribute second.before) = ap (λ (xs : List Attribute). length (flat_map attribute xs)) fronts in
    omega (arith, first.offset, second.offset)

pub one_start : (p : Program) (m : MethodNo) (name also : List ℕ) (start other : ℕ) → IsCodeStart p m name start → IsCodeStart p m also other → start ≡ other
one_start p m name also start other first second =
    let methods = same_Some first.method second.method (sym first.stands ∙ second.stands) in
    let bodies : in_file first.file first.number first.member ≡ in_file second.file second.number second.member = sym first.of_file ∙ ap (λ (x : Method). x.body) methods ∙ second.of_file in
    let files : first.file ≡ second.file = cc in
    let numbers : first.number ≡ second.number = cc in
    let here = subst (λ (k : ℕ). IsCodePlace second.file k first.place) numbers (subst (λ (f : ClassFile). IsCodePlace f first.number first.place) files first.is_place) in
    let places = one_place second.file second.number first.place second.place here second.is_place in
    omega (arith, first.is, second.is)

-- ---- reasons

-- a reason of the list stands at its place
place_is : (k : ℕ) (r : Reason) → slice_get call_reasons k ≡ Some r → reason_place r ≡ k
place_is zero r e = subst (λ (s : Reason). reason_place s ≡ 0) (same_Some NoStub r e) refl
place_is (suc zero) r e = subst (λ (s : Reason). reason_place s ≡ 1) (same_Some NoImplementation r e) refl
place_is (suc (suc zero)) r e = subst (λ (s : Reason). reason_place s ≡ 2) (same_Some ClashingDefaults r e) refl
place_is (suc (suc (suc zero))) r e = subst (λ (s : Reason). reason_place s ≡ 3) (same_Some PackageOverride r e) refl
place_is (suc (suc (suc (suc k)))) r e = absurd (none-some r e)

-- A reason of the list.
abbrev pub IsCallReason : Reason → Type 0
IsCallReason r = slice_get call_reasons (reason_place r) ≡ Some r

reason_as : (r s : Reason) → r ≡ s → IsCallReason s → IsCallReason r
reason_as r s e h = subst IsCallReason (sym e) h

selection_reason : (p : Program) (by_interface : Bool) (class : List ℕ) (resolved : ℕ) (outcome : Result ℕ Reason) (reason : Reason) → outcome ≡ Err reason → Selection p by_interface class resolved outcome → IsCallReason reason
selection_reason p v class resolved outcome reason e (selected t m selects stands plain shown is) = absurd (let both = sym is ∙ e in cc)
selection_reason p v class resolved outcome reason e (no_code t m selects stands abstract is) = reason_as reason NoImplementation (let both = sym is ∙ e in cc) refl
selection_reason p v class resolved outcome reason e (nothing none clash is) = reason_as reason NoImplementation (let both = sym is ∙ e in cc) refl
selection_reason p v class resolved outcome reason e (several clash is) = reason_as reason ClashingDefaults (let both = sym is ∙ e in cc) refl
selection_reason p v class resolved outcome reason e (hidden t m selects stands plain over is) = reason_as reason PackageOverride (let both = sym is ∙ e in cc) refl

unselected_reason : (p : Program) (kind : CallKind) (resolved : MethodNo) (s : Site) (reason : Reason) → SelectsFor kind p resolved s (Err reason) → IsCallReason reason
unselected_reason p Virtual resolved s reason (receiver, selects) = selection_reason p _ _ resolved.0 (Err reason) reason refl selects
unselected_reason p Special resolved s reason none = absurd none
unselected_reason p Static resolved s reason none = absurd none
unselected_reason p Interface resolved s reason (receiver, selects) = selection_reason p _ _ resolved.0 (Err reason) reason refl selects

pub lack_reason : (p : Program) (kind : CallKind) (resolved : MethodNo) (s : Site) (reason : Reason) → LacksTarget p kind resolved s reason → IsCallReason reason
lack_reason p kind resolved s reason (not_selected selects) = unselected_reason p kind resolved s reason selects
lack_reason p kind resolved s reason (not_described target selects undescribed is) = reason_as reason NoStub is refl

pub no_later : (a b : Reason) → IsCallReason a → reason_place a ≤ reason_place b → IsNoLater a b
no_later a b is l = record { place = reason_place a; stands = is; first = λ k e. (let at = place_is k b e in omega arith) }
