-- Answers whose failures are handed on by `map_err`.
use Rattle.std.proofs.Common.{◌≡◌, Result, Ok, Err, IfOk, MatchResult, sym, subst}

-- what holds of the value of the answer below holds of the value of the one above
pub handed_ok : {T E : Type 0} (D : Type 0) (below : Result T E) (value : T) (P : T → Type 0)
    → MatchResult below (λ x. ◌≡◌ {A = Result T D} (Ok value) (Ok x)) (λ e. ⊥) → IfOk below P → P value
handed_ok {T} {E} D (Ok x) value P cases holds = subst (λ (r : Result T D). IfOk r P) (sym cases) holds
handed_ok D (Err e) value P cases holds = absurd cases
