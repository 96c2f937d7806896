-- The package of a name, byte by byte from its end.
use Rattle.std.proofs.Common.{◌≡◌, ◌≢◌, ℕ, ◌<◌, ◌≤◌, ◌+◌, ◌-◌, arith, Bool, true, false, cond, ◌||◌, List, [], ◌∷◌, ◌++◌, length, take, get_or, refl, sym, ◌∙◌, ap, subst, eqb}
use Rattle.std.specs.List.{list_any}
use Rattle.std.proofs.lemmas.Bool.{ne_eqb}
use Rattle.std.proofs.lemmas.List.{take_more}
use Rattle.jvm_model.specs.Selection.{package_of}

abbrev has_slash : List ℕ → Bool
has_slash xs = list_any (λ c. eqb c 47) xs

any_kept : (xs : List ℕ) (b : ℕ) → b ≢ 47 → has_slash (xs ++ b ∷ []) ≡ has_slash xs
any_kept [] b ne = ap (λ (v : Bool). v || false) (ne_eqb b 47 ne)
any_kept (x ∷ xs) b ne = ap (λ (v : Bool). eqb x 47 || v) (any_kept xs b ne)

-- a byte after the last slash does not count
pub package_kept : (xs : List ℕ) (b : ℕ) → b ≢ 47 → package_of (xs ++ b ∷ []) ≡ package_of xs
package_kept [] b ne = ap (λ (v : Bool). cond (v || false) (b ∷ []) []) (ne_eqb b 47 ne)
package_kept (x ∷ xs) b ne =
    let any = any_kept xs b ne in
    let tail = package_kept xs b ne in
    (λ i. cond (eqb x 47 || any i) (x ∷ tail i) [])

or_true : (b : Bool) → (b || true) ≡ true
or_true true = refl
or_true false = refl

any_slash : (xs : List ℕ) → has_slash (xs ++ 47 ∷ []) ≡ true
any_slash [] = refl
any_slash (x ∷ xs) = ap (λ (v : Bool). eqb x 47 || v) (any_slash xs) ∙ or_true (eqb x 47)

-- all up to a slash at the end does
pub package_slash : (xs : List ℕ) → package_of (xs ++ 47 ∷ []) ≡ xs ++ 47 ∷ []
package_slash [] = refl
package_slash (x ∷ xs) =
    let any = any_slash xs in
    let tail = package_slash xs in
    (λ i. cond (eqb x 47 || any i) (x ∷ tail i) []) ∙ ap (λ (v : Bool). cond v (x ∷ xs ++ 47 ∷ []) []) (or_true (eqb x 47))

-- the same of a front of a text, by its last byte
pub front_kept : (xs : List ℕ) (k : ℕ) → k < length xs → get_or xs k 0 ≢ 47 → package_of (take (k + 1) xs) ≡ package_of (take k xs)
front_kept xs k lt ne = ap package_of (take_more xs k 0 lt) ∙ package_kept (take k xs) (get_or xs k 0) ne

pub front_slash : (xs : List ℕ) (k : ℕ) → k < length xs → get_or xs k 0 ≡ 47 → package_of (take (k + 1) xs) ≡ take (k + 1) xs
front_slash xs k lt slash =
    let more = take_more xs k 0 lt ∙ ap (λ (b : ℕ). take k xs ++ b ∷ []) slash in
    ap package_of more ∙ package_slash (take k xs) ∙ sym more

-- ---- a walk from the end

pub kept_step : (xs : List ℕ) (k : ℕ) → 0 < k → k ≤ length xs → get_or xs (k - 1) 0 ≢ 47 → package_of (take k xs) ≡ package_of xs → package_of (take (k - 1) xs) ≡ package_of xs
kept_step xs k some within differs same =
    let back : (k - 1) + 1 ≡ k = omega arith in
    let inside : k - 1 < length xs = omega arith in
    sym (front_kept xs (k - 1) inside differs) ∙ ap (λ (i : ℕ). package_of (take i xs)) back ∙ same

pub slash_end : (xs : List ℕ) (k : ℕ) → 0 < k → k ≤ length xs → get_or xs (k - 1) 0 ≡ 47 → package_of (take k xs) ≡ package_of xs → take k xs ≡ package_of xs
slash_end xs k some within slash same =
    let back : (k - 1) + 1 ≡ k = omega arith in
    let inside : k - 1 < length xs = omega arith in
    let front = front_slash xs (k - 1) inside slash in
    sym (subst (λ (i : ℕ). package_of (take i xs) ≡ take i xs) back front) ∙ same
