-- The first reason of a list: each reason holds by its own definition alone.
use Rattle.std.proofs.Common.{◌≡◌, inl, inr, ℕ, zero, suc, Bool, false, List, [], ◌∷◌, ◌++◌, Option, Some, None, Err, sym, subst}
use Rattle.std.specs.Prelude.{◌↔◌, IsTrue, slice_get}
use Rattle.std.proofs.lemmas.Option.{none-some, same_Some}
use Rattle.jvm_model.specs.declared.reason.Reason.{Reason}
use Rattle.jvm_model.specs.declared.reason.Reason.TheVariants as reasons
use Rattle.lowering_reasons.specs.Reasons.{Judged, IsDynamic, UsesMethodConstant, IsReflective, UsesThreads, LacksStub, LooksUpField, LooksUpMethod, IsMismatched, LacksTarget, MakesFinalized, HasReason, dynamic, method_constant, reflection, threads, no_stub, missing_field, missing_method, kind_mismatch, no_implementation, finalizer, IsFirstOf}
use Rattle.lowering_reasons.proofs.Only.{failed}

-- What the reason says of the instruction.
abbrev pub Says : Judged → Reason → Type 0
Says j reasons.InvokeDynamic = IsDynamic j
Says j reasons.MethodConstant = UsesMethodConstant j
Says j reasons.Reflection = IsReflective j
Says j reasons.Threads = UsesThreads j
Says j reasons.NoStub = LacksStub j
Says j reasons.MissingField = LooksUpField j (Err reasons.MissingField)
Says j reasons.MissingMethod = LooksUpMethod j (Err reasons.MissingMethod)
Says j reasons.KindMismatch = IsMismatched j
Says j reasons.NoImplementation = LacksTarget j
Says j reasons.Finalizer = MakesFinalized j
Says j _ = ⊥

pub says : (j : Judged) (reason : Reason) → HasReason j reason → Says j reason
says j reason (dynamic e h) = subst (Says j) (sym e) h
says j reason (method_constant e h) = subst (Says j) (sym e) h
says j reason (reflection e h) = subst (Says j) (sym e) h
says j reason (threads e h) = subst (Says j) (sym e) h
says j reason (no_stub e h) = subst (Says j) (sym e) h
says j reason (missing_field e h) = subst (Says j) (sym e) h
says j reason (missing_method e h) = subst (Says j) (sym e) h
says j reason (kind_mismatch e h) = subst (Says j) (sym e) h
says j reason (no_implementation e h) = subst (Says j) (sym e) h
says j reason (finalizer e h) = subst (Says j) (sym e) h

-- a test that failed
pub without : (j : Judged) (reason : Reason) (b : Bool) → (IsTrue b ↔ Says j reason) → b ≡ false → HasReason j reason → ⊥
without j reason b test e h = failed b test e (says j reason h)

-- two lists, one after the other
pub in_front : (j : Judged) (xs ys : List Reason) (reason : Reason) → IsFirstOf j xs (Some reason) → IsFirstOf j (xs ++ ys) (Some reason)
in_front j [] ys reason e = absurd (none-some reason (sym e))
in_front j (x ∷ xs) ys reason (inl h) = inl h
in_front j (x ∷ xs) ys reason (inr h) = inr (h.0, in_front j xs ys reason h.1)

pub behind : (j : Judged) (xs ys : List Reason) (first : Option Reason) → IsFirstOf j xs None → IsFirstOf j ys first → IsFirstOf j (xs ++ ys) first
behind j [] ys first e rest = rest
behind j (x ∷ xs) ys first (inl h) rest = absurd (none-some x h.1)
behind j (x ∷ xs) ys first (inr h) rest = inr (h.0, behind j xs ys first h.1 rest)

-- where there is none
pub none_of : (j : Judged) (xs : List Reason) (k : ℕ) (reason : Reason) → IsFirstOf j xs None → slice_get xs k ≡ Some reason → HasReason j reason → ⊥
none_of j [] k reason first e h = none-some reason e
none_of j (x ∷ xs) k reason (inl first) e h = none-some x first.1
none_of j (x ∷ xs) zero reason (inr first) e h = first.0 (subst (λ (r : Reason). HasReason j r) (sym (same_Some x reason e)) h)
none_of j (x ∷ xs) (suc k) reason (inr first) e h = none_of j xs k reason first.1 e h
