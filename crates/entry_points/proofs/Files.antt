-- Class files among which one is looked for: those before a place have not what is wanted, and one more has not.
use Rattle.std.proofs.Common.{◌≡◌, ℕ, ◌+◌, ◌<◌, List, length, take, get_or, All, Contains, sym, subst}
use Rattle.std.proofs.lemmas.List.{take_more}
use Rattle.std.proofs.lemmas.List.Elements.{All-push, All-contains}

pub none_more : {X : Type 0} (P : X → Type 0) (xs : List X) (i : ℕ) (x : X) → i < length xs → x ≡ get_or xs i x
    → All (λ (y : X). P y → ⊥) (take i xs) → (P x → ⊥) → All (λ (y : X). P y → ⊥) (take (i + 1) xs)
none_more {X} P xs i x within is before not =
    subst (All (λ (y : X). P y → ⊥)) (sym (take_more xs i x within))
    (All-push (λ (y : X). P y → ⊥) (take i xs) (get_or xs i x) before (subst (λ (y : X). P y → ⊥) is not))

pub none_among : {X : Type 0} (P : X → Type 0) (xs : List X) (x : X) → All (λ (y : X). P y → ⊥) xs → Contains xs x → P x → ⊥
none_among {X} P xs x none there p = All-contains (λ (y : X). P y → ⊥) xs x none there p
