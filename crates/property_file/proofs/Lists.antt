-- Lists whose items differ.
use Rattle.std.proofs.Common.{◌≡◌, ℕ, zero, suc, ◌+◌, ◌<◌, Bool, true, false, not, ◌&&◌, List, [], ◌∷◌, length, drop, get_or, Some, refl, sym, ap, ◌∙◌, IsTrue}
use Rattle.std.specs.List.{slice_get, list_any}
use Rattle.std.specs.Str.{bytes_eq}
use Rattle.std.proofs.lemmas.Bool.{and_parts, false≢true, not-true, or_left, or_right}
use Rattle.std.proofs.lemmas.List.{drop_more}
use Rattle.std.proofs.lemmas.Option.{same_Some}
use Rattle.std.proofs.lemmas.Slice.Eq.{bytes_eq-Decides}
use Rattle.jvm_model.specs.Automata.{all_differ}

-- a text that stands at a place of a list
any_same : (name : List ℕ) (names : List (List ℕ)) (i : ℕ) → slice_get names i ≡ Some name → list_any (bytes_eq name) names ≡ true
any_same name [] i e = cc
any_same name (n ∷ names) zero e = or_left (bytes_eq name n) _ ((bytes_eq-Decides name n).1 (sym (same_Some n name e)))
any_same name (n ∷ names) (suc i) e = or_right (bytes_eq name n) _ (any_same name names i e)

-- the first of different texts stands at no later place
first_alone : (first name : List ℕ) (names : List (List ℕ)) (i : ℕ) → all_differ bytes_eq (first ∷ names) ≡ true → Some first ≡ Some name → slice_get names i ≡ Some name → ⊥
first_alone first name names i differ e f =
    let same : first ≡ name = same_Some first name e in
    let none : list_any (bytes_eq first) names ≡ false = not-true _ (and_parts _ (all_differ bytes_eq names) differ).0 in
    let some : list_any (bytes_eq first) names ≡ true = any_same first names i (f ∙ ap Some (sym same)) in
    false≢true (sym none ∙ some)

-- a text stands at one place of texts that differ
pub place-unique : (name : List ℕ) (names : List (List ℕ)) (i j : ℕ) → IsTrue (all_differ bytes_eq names) → slice_get names i ≡ Some name → slice_get names j ≡ Some name → i ≡ j
place-unique name [] i j differ e f = cc
place-unique name (n ∷ names) zero zero differ e f = refl
place-unique name (n ∷ names) zero (suc j) differ e f = absurd (first_alone n name names j differ e f)
place-unique name (n ∷ names) (suc i) zero differ e f = absurd (first_alone n name names i differ f e)
place-unique name (n ∷ names) (suc i) (suc j) differ e f =
    ap suc (place-unique name names i j (and_parts _ (all_differ bytes_eq names) differ).1 e f)

-- the items from a place on, and those from the next place on
pub all_differ-step : {X : Type 0} (same : X → X → Bool) (xs : List X) (i : ℕ) (x : X) → i < length xs → x ≡ get_or xs i x → all_differ same (drop i xs) ≡ (not (list_any (same x) (drop (i + 1) xs)) && all_differ same (drop (i + 1) xs))
all_differ-step same xs i x h e = ap (all_differ same) (drop_more xs i x h ∙ ap (λ w. w ∷ drop (i + 1) xs) (sym e))

pub all_differ-twice : {X : Type 0} (same : X → X → Bool) (xs : List X) (i : ℕ) (x : X) → i < length xs → x ≡ get_or xs i x → list_any (same x) (drop (i + 1) xs) ≡ true → all_differ same (drop i xs) ≡ false
all_differ-twice same xs i x h e again = all_differ-step same xs i x h e ∙ ap (λ b. not b && all_differ same (drop (i + 1) xs)) again

pub all_differ-once : {X : Type 0} (same : X → X → Bool) (xs : List X) (i : ℕ) (x : X) → i < length xs → x ≡ get_or xs i x → list_any (same x) (drop (i + 1) xs) ≡ false → all_differ same (drop i xs) ≡ all_differ same (drop (i + 1) xs)
all_differ-once same xs i x h e once = all_differ-step same xs i x h e ∙ ap (λ b. not b && all_differ same (drop (i + 1) xs)) once
