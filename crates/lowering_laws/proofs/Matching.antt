-- Whether the member of an instruction is of another kind is decided; and the target that is known beforehand is known, or that
-- there is none.
use Rattle.std.proofs.Common.{codes, ◌≡◌, ◌≢◌, ◌⊎◌, inl, inr, ℕ, List, Some, None, Ok, Err, sym, ◌∙◌, subst}
use Rattle.std.specs.Prelude.{IsTrue, slice_get}
use Rattle.std.proofs.lemmas.Option.{same_Some}
use Rattle.jvm_model.specs.declared.reason.Reason.TheVariants as reasons
use Rattle.jvm_model.specs.LinkedPrograms.{IsProgram}
use Rattle.jvm_model.specs.Lookups.{MemberReference}
use Rattle.jvm_model.specs.Programs.{Method, Program, is_abstract, is_private, is_static}
use Rattle.jvm_model.specs.Selection.{SelectsSpecial}
use Rattle.jvm_model.specs.Table.{Action, invoke_special, invoke_static, invoke_interface}
use Rattle.lowering_reasons.specs.Looked.{IsOnly, HasSuch, CallsOtherKind, other_reference, other_method, IsInternal, constructor_elsewhere, initialiser, IsOtherKind, other_static, private_call}
use Rattle.lowering_reasons.specs.Reasons.{Judged, Calls, wants_static, IsMismatched, LooksUpField, LooksUpMethod, HasTarget, special, static, LacksTarget, finds_none, finds_abstract}
use Rattle.lowering_reasons.proofs.Only.{only_here, only_same, none_such, only_none, only_one}
use Rattle.lowering_reasons.proofs.OtherKinds.{mismatch}
use Rattle.program_laws.proofs.Choices.{OrNot, carried_over, either_or_not, both_or_not, same_or_not, true_or_not, held_or_not}
use Rattle.program_laws.proofs.Bounded.{SomeOrNone, not_or_not}
use Rattle.program_laws.proofs.Resolving.{same_kind_or_not}
use Rattle.program_laws.proofs.SpecialCalls.{one_special}
use Rattle.program_laws.proofs.SpecialTargets.{special_or_none}
use Rattle.lowering_laws.proofs.Equality.{outcome_or_not, action_or_not, special_or_static}
use Rattle.lowering_laws.proofs.Looking.{called, field_looked_up, method_looked_up, resolved}
use Rattle.lowering_laws.proofs.Only.{Known, such_or_not, this_or_not, some_known, either_part}

-- the method of the number is as told
abbrev MethodIs : Program → (Method → Type 0) → ℕ → Type 0
MethodIs p Is n = (m : Method) × (slice_get p.methods n ≡ Some m) × Is m

method_or_not : (p : Program) (Is : Method → Type 0) → ((m : Method) → OrNot (Is m)) → (n : ℕ) → OrNot (MethodIs p Is n)
method_or_not p Is choose n = held_or_not Is choose (slice_get p.methods n)

-- ---- another kind

other_kind_or_not : (a : Action) (m : Method) → OrNot (IsOtherKind a m)
other_kind_or_not a m =
    carried_over to back
    (either_or_not (not_or_not (same_kind_or_not (is_static m) (wants_static a))) (both_or_not (action_or_not a invoke_interface) (λ e. true_or_not (is_private m))))
  where
    to : (is_static m ≢ wants_static a) ⊎ ((a ≡ invoke_interface) × IsTrue (is_private m)) → IsOtherKind a m
    to (inl h) = other_static h
    to (inr h) = private_call h.0 h.1

    back : IsOtherKind a m → (is_static m ≢ wants_static a) ⊎ ((a ≡ invoke_interface) × IsTrue (is_private m))
    back (other_static h) = inl h
    back (private_call e h) = inr (e, h)

abbrev OtherKind : Judged → Type 0
OtherKind j = LooksUpMethod j (Err reasons.KindMismatch) ⊎ HasSuch (λ (n : ℕ). LooksUpMethod j (Ok n)) (MethodIs j.program (IsOtherKind j.action))

calls_other_or_not : (j : Judged) → IsProgram j.program → OrNot (CallsOtherKind j)
calls_other_or_not j program =
    carried_over to back
    (either_or_not (this_or_not (LooksUpMethod j) outcome_or_not (method_looked_up j program) (Err reasons.KindMismatch))
    (such_or_not (λ (n : ℕ). LooksUpMethod j (Ok n)) (MethodIs j.program (IsOtherKind j.action)) (resolved j program) (method_or_not j.program (IsOtherKind j.action) (other_kind_or_not j.action))))
  where
    to : OtherKind j → CallsOtherKind j
    to (inl l) = other_reference l
    to (inr s) = other_method s.one s.second.0 s.first s.second.1 s.second.2

    back : CallsOtherKind j → OtherKind j
    back (other_reference l) = inl l
    back (other_method n m l stands kind) = inr (record { one = n; first = l; second = (m, stands, kind) })

internal_or_not : (a : Action) (name : List ℕ) → OrNot (IsInternal a name)
internal_or_not a name =
    carried_over to back
    (either_or_not (both_or_not (not_or_not (action_or_not a invoke_special)) (λ e. same_or_not name (codes "<init>"))) (same_or_not name (codes "<clinit>")))
  where
    to : ((a ≢ invoke_special) × (name ≡ codes "<init>")) ⊎ (name ≡ codes "<clinit>") → IsInternal a name
    to (inl h) = constructor_elsewhere h.0 h.1
    to (inr h) = initialiser h

    back : IsInternal a name → ((a ≢ invoke_special) × (name ≡ codes "<init>")) ⊎ (name ≡ codes "<clinit>")
    back (constructor_elsewhere e h) = inl (e, h)
    back (initialiser h) = inr h

pub mismatched_or_not : (j : Judged) → IsProgram j.program → OrNot (IsMismatched j)
mismatched_or_not j program =
    either_part (mismatch j) (this_or_not (LooksUpField j) outcome_or_not (field_looked_up j program) (Err reasons.KindMismatch))
    (either_or_not (calls_other_or_not j program)
    (such_or_not (Calls j) (λ (m : MemberReference). IsInternal j.action m.signature.name) (called j) (λ m. internal_or_not j.action m.signature.name)))

-- ---- targets

one_method : (j : Judged) (m n : MemberReference) → Calls j m → Calls j n → m ≡ n
one_method j m n x y = same_Some m n (sym x.1 ∙ y.1)

special_target : (j : Judged) → IsProgram j.program → (IsMismatched j → ⊥) → (n : ℕ) → LooksUpMethod j (Ok n) → j.action ≡ invoke_special → Known (HasTarget j)
special_target j program matched n l e = by (special_or_none j.program program j.current l.method)
  where
    same : (t : ℕ) → SelectsSpecial j.program j.current l.method t → (k : ℕ) → HasTarget j k → t ≡ k
    same t h k (special i f l2 matched2 h2) =
        one_special j.program j.current l.method t k program h
        (subst (λ (m : MemberReference). SelectsSpecial j.program j.current m k) (one_method j l2.method l.method l2.calls l.calls) h2)
    same t h k (static f l2 matched2) = absurd (special_or_static (sym e ∙ f))

    nowhere : ((t : ℕ) → SelectsSpecial j.program j.current l.method t → ⊥) → (k : ℕ) → HasTarget j k → ⊥
    nowhere none k (special i f l2 matched2 h2) =
        none k (subst (λ (m : MemberReference). SelectsSpecial j.program j.current m k) (one_method j l2.method l.method l2.calls l.calls) h2)
    nowhere none k (static f l2 matched2) = special_or_static (sym e ∙ f)

    by : SomeOrNone (SelectsSpecial j.program j.current l.method) → Known (HasTarget j)
    by (inl h) = (Some h.0, only_one (HasTarget j) h.0 (special n e l matched h.1) (same h.0 h.1))
    by (inr none) = (None, only_none (HasTarget j) (nowhere none))

static_target : (j : Judged) → (IsMismatched j → ⊥) → (n : ℕ) → IsOnly (λ (k : ℕ). LooksUpMethod j (Ok k)) (Some n) → j.action ≡ invoke_static → Known (HasTarget j)
static_target j matched n only e = (Some n, only_one (HasTarget j) n (static e (only_here (λ (k : ℕ). LooksUpMethod j (Ok k)) n only) matched) same)
  where
    same : (k : ℕ) → HasTarget j k → n ≡ k
    same k (special i f l matched2 h) = absurd (special_or_static (sym f ∙ e))
    same k (static f l matched2) = only_same (λ (i : ℕ). LooksUpMethod j (Ok i)) n k only l

pub target : (j : Judged) → IsProgram j.program → Known (HasTarget j)
target j program = by (mismatched_or_not j program) (resolved j program)
  where
    mismatched : IsMismatched j → (k : ℕ) → HasTarget j k → ⊥
    mismatched h k (special i f l matched s) = matched h
    mismatched h k (static f l matched) = matched h

    unresolved : IsOnly (λ (n : ℕ). LooksUpMethod j (Ok n)) None → (k : ℕ) → HasTarget j k → ⊥
    unresolved only k (special i f l matched s) = none_such (λ (n : ℕ). LooksUpMethod j (Ok n)) only i l
    unresolved only k (static f l matched) = none_such (λ (n : ℕ). LooksUpMethod j (Ok n)) only k l

    neither : (j.action ≢ invoke_special) → (j.action ≢ invoke_static) → (k : ℕ) → HasTarget j k → ⊥
    neither not_so nor k (special i f l matched s) = not_so f
    neither not_so nor k (static f l matched) = nor f

    at : (IsMismatched j → ⊥) → (n : ℕ) → IsOnly (λ (k : ℕ). LooksUpMethod j (Ok k)) (Some n) → OrNot (j.action ≡ invoke_special) → OrNot (j.action ≡ invoke_static) → Known (HasTarget j)
    at matched n only (inl e) other = special_target j program matched n (only_here (λ (k : ℕ). LooksUpMethod j (Ok k)) n only) e
    at matched n only (inr not_so) (inl e) = static_target j matched n only e
    at matched n only (inr not_so) (inr nor) = (None, only_none (HasTarget j) (neither not_so nor))

    by : OrNot (IsMismatched j) → Known (λ (n : ℕ). LooksUpMethod j (Ok n)) → Known (HasTarget j)
    by (inl h) r = (None, only_none (HasTarget j) (mismatched h))
    by (inr matched) (None, only) = (None, only_none (HasTarget j) (unresolved only))
    by (inr matched) (Some n, only) = at matched n only (action_or_not j.action invoke_special) (action_or_not j.action invoke_static)

-- ---- no target

-- no special call of the method has a target
abbrev IsTargetless : Judged → MemberReference → Type 0
IsTargetless j m = (t : ℕ) → SelectsSpecial j.program j.current m t → ⊥

targetless_or_not : (j : Judged) → IsProgram j.program → (m : MemberReference) → OrNot (IsTargetless j m)
targetless_or_not j program m = by (special_or_none j.program program j.current m)
  where
    by : SomeOrNone (SelectsSpecial j.program j.current m) → OrNot (IsTargetless j m)
    by (inl h) = inr (λ none. none h.0 h.1)
    by (inr none) = inl none

abbrev Abstract : Judged → ℕ → Type 0
Abstract j n = MethodIs j.program (λ m. IsTrue (is_abstract m)) n

abbrev FindsNone : Judged → Type 0
FindsNone j = (j.action ≡ invoke_special) × ((IsMismatched j → ⊥) × (((n : ℕ) × LooksUpMethod j (Ok n)) × HasSuch (Calls j) (IsTargetless j)))

finds_none_or_not : (j : Judged) → IsProgram j.program → OrNot (FindsNone j)
finds_none_or_not j program =
    both_or_not (action_or_not j.action invoke_special)
    (λ e. both_or_not (not_or_not (mismatched_or_not j program))
    (λ matched. both_or_not (some_known (λ (n : ℕ). LooksUpMethod j (Ok n)) (resolved j program))
    (λ l. such_or_not (Calls j) (IsTargetless j) (called j) (targetless_or_not j program))))

pub lacks_target_or_not : (j : Judged) → IsProgram j.program → OrNot (LacksTarget j)
lacks_target_or_not j program =
    carried_over to back
    (either_or_not (finds_none_or_not j program)
    (such_or_not (HasTarget j) (Abstract j) (target j program) (method_or_not j.program (λ m. IsTrue (is_abstract m)) (λ m. true_or_not (is_abstract m)))))
  where
    to : FindsNone j ⊎ HasSuch (HasTarget j) (Abstract j) → LacksTarget j
    to (inl h) =
        let l = h.1.1.0.1 in
        let none = h.1.1.1 in
        finds_none h.1.1.0.0 h.0 l h.1.0 (λ t s. none.second t (subst (λ (m : MemberReference). SelectsSpecial j.program j.current m t) (one_method j l.method none.one l.calls none.first) s))
    to (inr s) = finds_abstract s.one s.second.0 s.first s.second.1 s.second.2

    back : LacksTarget j → FindsNone j ⊎ HasSuch (HasTarget j) (Abstract j)
    back (finds_none n e l matched none) = inl (e, (matched, ((n, l), record { one = l.method; first = l.calls; second = none })))
    back (finds_abstract t m h stands abstract) = inr (record { one = t; first = h; second = (m, stands, abstract) })
