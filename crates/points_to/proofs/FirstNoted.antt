-- The first of what was noted, when one more is noted.
use Rattle.std.proofs.Common.{◌≡◌, ◌≤◌, Bool, true, false, List, [], ◌∷◌, ◌++◌, Option, Some, None, MatchBool, refl, sym, ◌∙◌, subst, arith}
use Rattle.std.specs.List.{All}
use Rattle.std.proofs.lemmas.List.Elements.{All-push, All-weaker, Contains-append_left, Contains-push}
use Rattle.points_to.specs.declared.refusals.RefusedCall.{RefusedCall}
use Rattle.points_to.specs.declared.refusals.RefusedMethod.{RefusedMethod}
use Rattle.points_to.specs.Firsts.{IsNoLaterCall, by_method, by_offset, by_reason, IsFirstCall, IsFirstMethod, LeadsCall, LeadsMethod, TrailsCall, TrailsMethod}

-- what a test tells where its answer is known
pub told_yes : (b : Bool) (P Q : Type 0) → b ≡ true → MatchBool b P Q → P
told_yes true P Q e h = h
told_yes false P Q e h = cc

pub told_not : (b : Bool) (P Q : Type 0) → b ≡ false → MatchBool b P Q → Q
told_not true P Q e h = cc
told_not false P Q e h = h

-- ---- calls

call_itself : (a : RefusedCall) → IsNoLaterCall a a
call_itself a = by_reason refl refl (omega arith)

call_on : (a b c : RefusedCall) → IsNoLaterCall a b → IsNoLaterCall b c → IsNoLaterCall a c
call_on a b c (by_method l) (by_method m) = by_method (omega arith)
call_on a b c (by_method l) (by_offset e m) = by_method (omega arith)
call_on a b c (by_method l) (by_reason e f m) = by_method (omega arith)
call_on a b c (by_offset e l) (by_method m) = by_method (omega arith)
call_on a b c (by_offset e l) (by_offset f m) = by_offset (e ∙ f) (omega arith)
call_on a b c (by_offset e l) (by_reason f g m) = by_offset (e ∙ f) (omega arith)
call_on a b c (by_reason e f l) (by_method m) = by_method (omega arith)
call_on a b c (by_reason e f l) (by_offset g m) = by_offset (e ∙ g) (omega arith)
call_on a b c (by_reason e f l) (by_reason g k m) = by_reason (e ∙ g) (f ∙ k) (omega arith)

-- the new one comes first
pub call_leads : (calls : List RefusedCall) (old : Option RefusedCall) (call : RefusedCall) → LeadsCall call old → IsFirstCall calls old → IsFirstCall (calls ++ call ∷ []) (Some call)
call_leads calls None call leads none =
    (Contains-push calls call, All-push (IsNoLaterCall call) calls call (subst (λ (xs : List RefusedCall). All (IsNoLaterCall call) xs) (sym none) (λ k d l. absurd (omega arith))) (call_itself call))
call_leads calls (Some first) call leads is =
    (Contains-push calls call, All-push (IsNoLaterCall call) calls call (All-weaker (IsNoLaterCall first) (IsNoLaterCall call) (λ x m. call_on call first x leads m) calls is.1) (call_itself call))

-- the old one stays
pub call_trails : (calls : List RefusedCall) (old : Option RefusedCall) (call : RefusedCall) → TrailsCall call old → IsFirstCall calls old → IsFirstCall (calls ++ call ∷ []) old
call_trails calls None call trails none = absurd trails
call_trails calls (Some first) call trails is = (Contains-append_left calls (call ∷ []) first is.0, All-push (IsNoLaterCall first) calls call is.1 trails)

-- ---- methods

abbrev pub IsNoLaterMethod : RefusedMethod → RefusedMethod → Type 0
IsNoLaterMethod a b = a.method.0 ≤ b.method.0

pub method_leads : (methods : List RefusedMethod) (old : Option RefusedMethod) (method : RefusedMethod) → LeadsMethod method.method.0 old → IsFirstMethod methods old → IsFirstMethod (methods ++ method ∷ []) (Some method)
method_leads methods None method leads none =
    (Contains-push methods method, All-push (IsNoLaterMethod method) methods method (subst (λ (xs : List RefusedMethod). All (IsNoLaterMethod method) xs) (sym none) (λ k d l. absurd (omega arith))) (omega arith))
method_leads methods (Some first) method leads is =
    (Contains-push methods method, All-push (IsNoLaterMethod method) methods method (All-weaker (IsNoLaterMethod first) (IsNoLaterMethod method) (λ x m. omega arith) methods is.1) (omega arith))

pub method_trails : (methods : List RefusedMethod) (old : Option RefusedMethod) (method : RefusedMethod) → TrailsMethod method.method.0 old → IsFirstMethod methods old → IsFirstMethod (methods ++ method ∷ []) old
method_trails methods None method trails none = absurd trails
method_trails methods (Some first) method trails is = (Contains-append_left methods (method ∷ []) first is.0, All-push (IsNoLaterMethod first) methods method is.1 trails)
