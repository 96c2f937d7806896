-- The target of a special or a static call is one, and a number of a method.
use Rattle.std.proofs.Common.{◌≡◌, ℕ, Bool, List, Option, Some, None, Result, Ok, Err, sym, ◌∙◌, ap, subst}
use Rattle.std.specs.Prelude.{◌↔◌, IsTrue, option_map, slice_get}
use Rattle.std.proofs.lemmas.Bool.{false≢true}
use Rattle.std.proofs.lemmas.Option.{same_Some}
use Rattle.jvm_model.specs.declared.number.MethodNo.{MethodNo}
use Rattle.jvm_model.specs.declared.reason.Reason.{Reason}
use Rattle.jvm_model.specs.LinkedPrograms.{IsProgram}
use Rattle.jvm_model.specs.Lookups.{MemberReference, Signature}
use Rattle.jvm_model.specs.Programs.{Method, Program, is_abstract}
use Rattle.jvm_model.specs.Selection.{SelectsSpecial}
use Rattle.jvm_model.specs.Table.{Action, invoke_special, invoke_static}
use Rattle.program_model.specs.Numbers.{IsMethodNumber}
use Rattle.hierarchy.specs.Searches.{Finds}
use Rattle.hierarchy.proofs.ClassPlaces.{IsNowhere, method_there, somewhere}
use Rattle.hierarchy.proofs.Resolving.{instance_within}
use Rattle.program_laws.proofs.Signed.{resolved_signed}
use Rattle.program_laws.proofs.SpecialCalls.{one_special}
use Rattle.lowering_reasons.specs.Looked.{IsOnly, SelectsCalled, WantsTarget}
use Rattle.lowering_reasons.specs.Reasons.{Judged, Calls, HasTarget, special, static, IsMismatched, LacksTarget, finds_none, finds_abstract, LooksUpMethod, wants_static}
use Rattle.lowering_reasons.proofs.Only.{none_such, only_here, only_iff, only_none, only_one, only_same}
use Rattle.lowering_reasons.proofs.OtherKinds.{method_within, ok_or_err, resolution_found, same_ok}

-- ---- the resolved method has the name and descriptor that are named

pub looked_signature : (j : Judged) (n : ℕ) (l : LooksUpMethod j (Ok n)) (m : Method) → slice_get j.program.methods n ≡ Some m → m.signature ≡ l.method.signature
looked_signature j n l m stands =
    let resolves = resolution_found j.program l.class l.by_interface l.method.signature n l.is in
    let signed = resolved_signed j.program l.class.name l.method.signature resolves.class n resolves.search in
    ap (λ (x : Method). x.signature) (same_Some m signed.method (sym stands ∙ signed.stands)) ∙ signed.is

-- ---- the target of a special call

special_within : (p : Program) (current : List ℕ) (m : MemberReference) (n : ℕ) → SelectsSpecial p current m n → IsMethodNumber p n
special_within p current m n s = instance_within p s.start m.signature n (record { class = s.class; named = s.named; chosen = s.chosen })

pub target_within : (j : Judged) (n : ℕ) → HasTarget j n → IsMethodNumber j.program n
target_within j n (special number action l matched selects) = special_within j.program j.current l.method n selects
target_within j n (static action l matched) = method_within j n l

-- two look-ups name one member
one_member : (j : Judged) (a b : Result ℕ Reason) (x : LooksUpMethod j a) (y : LooksUpMethod j b) → x.method ≡ y.method
one_member j a b x y = same_Some x.method y.method (sym x.calls.1 ∙ y.calls.1)

-- what the search of a special call finds, of the method that is called
abbrev Selects : Judged → MemberReference → ℕ → Type 0
Selects j m target = SelectsSpecial j.program j.current m target

called_selects : (j : Judged) (m : MemberReference) (n t : ℕ) (l : LooksUpMethod j (Ok n)) → m ≡ l.method → Selects j m t → SelectsCalled j t
called_selects j m n t l same selects = record { number = n; looked = l; selects = subst (λ (x : MemberReference). Selects j x t) same selects }

selects_called : (j : Judged) (m : MemberReference) (t : ℕ) → IsOnly (Calls j) (Some m) → SelectsCalled j t → Selects j m t
selects_called j m t only h = subst (λ (x : MemberReference). Selects j x t) (sym (only_same (Calls j) m h.looked.method only h.looked.calls)) h.selects

found_selects : (j : Judged) (m : MemberReference) (o : Option MethodNo) → IsProgram j.program → Finds (Selects j m) o → IsOnly (Selects j m) (option_map (λ (k : MethodNo). k.0) o)
found_selects j m None program finds = only_none (Selects j m) finds
found_selects j m (Some k) program finds = only_one (Selects j m) k.0 finds (λ t h. one_special j.program j.current m k.0 t program finds h)

pub special_found : (j : Judged) (m : MemberReference) (n : ℕ) (o : Option MethodNo) (class : List ℕ) (s : Signature) → IsProgram j.program → IsOnly (Calls j) (Some m)
    → LooksUpMethod j (Ok n) → class ≡ m.class → s ≡ m.signature → Finds (Selects j (record { class = class; signature = s })) o
    → IsOnly (SelectsCalled j) (option_map (λ (k : MethodNo). k.0) o)
special_found j m n o class s program only l class_is signature_is finds =
    let by_class : Finds (Selects j (record { class = m.class; signature = s })) o =
    subst (λ (x : List ℕ). Finds (Selects j (record { class = x; signature = s })) o) class_is finds in
    let here : Finds (Selects j m) o = subst (λ (x : Signature). Finds (Selects j (record { class = m.class; signature = x })) o) signature_is by_class in
    only_iff (Selects j m) (SelectsCalled j) (option_map (λ (k : MethodNo). k.0) o)
    (λ t. called_selects j m n t l (only_same (Calls j) m l.method only l.calls)) (λ t. selects_called j m t only) (found_selects j m o program here)

pub special_nowhere : (j : Judged) (m : MemberReference) → IsOnly (Calls j) (Some m) → IsNowhere j.program m.class → IsOnly (SelectsCalled j) None
special_nowhere j m only nowhere =
    only_none (SelectsCalled j) (λ t h.
    let e = only_same (Calls j) m h.looked.method only h.looked.calls in
    somewhere j.program h.looked.method.class h.looked.class h.looked.named (subst (λ (x : MemberReference). IsNowhere j.program x.class) e nowhere))

-- the signature of the method that is called is that of the resolved one
pub called_signature : (j : Judged) (m : MemberReference) (n : ℕ) (r : Method) → IsOnly (Calls j) (Some m) → LooksUpMethod j (Ok n) → slice_get j.program.methods n ≡ Some r
    → r.signature ≡ m.signature
called_signature j m n r only l stands =
    looked_signature j n l r stands ∙ ap (λ (x : MemberReference). x.signature) (sym (only_same (Calls j) m l.method only l.calls))

-- ---- the target

special_or_static : (action : Action) → action ≡ invoke_special → action ≡ invoke_static → ⊥
special_or_static action x y = false≢true (ap wants_static (sym x ∙ y))

pub target_special : (j : Judged) (o : Option ℕ) → j.action ≡ invoke_special → (IsMismatched j → ⊥) → IsOnly (SelectsCalled j) o → IsOnly (HasTarget j) o
target_special j o action matched only = only_iff (SelectsCalled j) (HasTarget j) o (λ t h. special h.number action h.looked matched h.selects) back only
  where
    back : (t : ℕ) → HasTarget j t → SelectsCalled j t
    back t (special number x l y selects) = record { number = number; looked = l; selects = selects }
    back t (static x l y) = absurd (special_or_static j.action action x)

pub target_static : (j : Judged) (n : ℕ) → j.action ≡ invoke_static → (IsMismatched j → ⊥) → IsOnly (LooksUpMethod j) (Some (Ok n)) → IsOnly (HasTarget j) (Some n)
target_static j n action matched only = only_one (HasTarget j) n (static action (only_here (LooksUpMethod j) (Ok n) only) matched) same_target
  where
    same_target : (t : ℕ) → HasTarget j t → n ≡ t
    same_target t (special number x l y selects) = absurd (special_or_static j.action x action)
    same_target t (static x l y) = same_ok n t (only_same (LooksUpMethod j) (Ok n) (Ok t) only l)

pub target_other : (j : Judged) → (j.action ≡ invoke_special → ⊥) → (j.action ≡ invoke_static → ⊥) → (t : ℕ) → HasTarget j t → ⊥
target_other j not_special not_static t (special number x l y selects) = not_special x
target_other j not_special not_static t (static x l y) = not_static x

pub target_matched : (j : Judged) (t : ℕ) → HasTarget j t → IsMismatched j → ⊥
target_matched j t (special number x l y selects) = y
target_matched j t (static x l y) = y

pub target_looked : (j : Judged) (t : ℕ) → HasTarget j t → (n : ℕ) × LooksUpMethod j (Ok n)
target_looked j t (special number x l y selects) = (number, l)
target_looked j t (static x l y) = (t, l)

pub target_failed : (j : Judged) (r : Reason) → IsOnly (LooksUpMethod j) (Some (Err r)) → (t : ℕ) → HasTarget j t → ⊥
target_failed j r only t h = let looked = target_looked j t h in ok_or_err looked.0 r (sym (only_same (LooksUpMethod j) (Err r) (Ok looked.0) only looked.1))

pub target_never : (j : Judged) → IsOnly (LooksUpMethod j) None → (t : ℕ) → HasTarget j t → ⊥
target_never j only t h = let looked = target_looked j t h in none_such (LooksUpMethod j) only (Ok looked.0) looked.1

-- ---- what lacks a target

pub lacks_here : (j : Judged) (t : ℕ) (b : Bool) → IsOnly (HasTarget j) (Some t) → ((m : Method) → slice_get j.program.methods t ≡ Some m → b ≡ is_abstract m)
    → IsTrue b ↔ LacksTarget j
lacks_here j t b only tells = (
  λ passed.
      let target = only_here (HasTarget j) t only in
      let there = method_there j.program t (target_within j t target) in
      finds_abstract t there.0 target there.1 (sym (tells there.0 there.1) ∙ passed),
  by,
)
  where
    none_selected : (number : ℕ) (l : LooksUpMethod j (Ok number)) → j.action ≡ invoke_special → ((target : ℕ) → Selects j l.method target → ⊥) → HasTarget j t → ⊥
    none_selected number l action none (special other x k y selects) =
        none t (subst (λ (m : MemberReference). Selects j m t) (one_member j (Ok other) (Ok number) k l) selects)
    none_selected number l action none (static x k y) = special_or_static j.action action x

    by : LacksTarget j → IsTrue b
    by (finds_none number action l matched none) = absurd (none_selected number l action none (only_here (HasTarget j) t only))
    by (finds_abstract target m has stands abstract_one) =
        let same = only_same (HasTarget j) t target only has in
        tells m (subst (λ (k : ℕ). slice_get j.program.methods k ≡ Some m) (sym same) stands) ∙ abstract_one

pub lacks_found : (j : Judged) (b : Bool) → IsOnly (HasTarget j) None → (IsTrue b ↔ WantsTarget j) → IsTrue b ↔ LacksTarget j
lacks_found j b only test = (
  λ passed.
      let wants = test.0 passed in
      finds_none wants.number wants.special wants.looked wants.matched
      (λ target selects. none_such (HasTarget j) only target (special wants.number wants.special wants.looked wants.matched selects)),
  by,
)
  where
    by : LacksTarget j → IsTrue b
    by (finds_none number action l matched none) = test.1 (record { special = action; number = number; looked = l; matched = matched })
    by (finds_abstract target m has stands abstract_one) = absurd (none_such (HasTarget j) only target has)
