-- What a loop over paths gathers, and what one over slots.
use Rattle.std.proofs.Common.{◌≡◌, ℕ, zero, suc, ◌+◌, ◌<◌, Bool, true, false, cond, List, [], ◌∷◌, ◌++◌, length, map, take, get_or, arith, sym, ◌∙◌, ap, subst, append-nil, append_assoc}
use Rattle.std.specs.List.{filter, range_with_len}
use Rattle.std.proofs.lemmas.List.{map-append}
use Rattle.std.proofs.lemmas.List.Elements.{filter-append, filter_more}
use Rattle.access_paths.specs.Paths.{Path}
use Rattle.stage_views.specs.declared.gathering.Gathering.{Gathering}
use Rattle.stage_views.specs.Views.{Gathers}
use Rattle.stage_calls.specs.Testing.{bare_slot}

-- the paths of a front that pass, with the next one
front_filter : (p : Path → Bool) (xs : List Path) (i : ℕ) (x : Path) (b : Bool) → i < length xs → x ≡ get_or xs i x → p x ≡ b
    → filter p (take (i + 1) xs) ≡ filter p (take i xs) ++ cond b (x ∷ []) []
front_filter p xs i x b within is passes =
    filter_more p xs i x within ∙ ap (λ (y : Path). filter p (take i xs) ++ cond (p y) (y ∷ []) []) (sym is)
    ∙ ap (λ (c : Bool). filter p (take i xs) ++ cond c (x ∷ []) []) passes

pub gathers_passing : (g : Gathering) (before : List Path) (p : Path → Bool) (xs : List Path) (i : ℕ) (x : Path)
    → i < length xs → x ≡ get_or xs i x → p x ≡ true → Gathers g (before ++ filter p (take i xs) ++ x ∷ []) → Gathers g (before ++ filter p (take (i + 1) xs))
gathers_passing g before p xs i x within is passes gathers =
    subst (λ (paths : List Path). Gathers g paths)
    (append_assoc before (filter p (take i xs)) (x ∷ []) ∙ ap (λ (ys : List Path). before ++ ys) (sym (front_filter p xs i x true within is passes)))
    gathers

pub gathers_failing : (g : Gathering) (before : List Path) (p : Path → Bool) (xs : List Path) (i : ℕ) (x : Path)
    → i < length xs → x ≡ get_or xs i x → p x ≡ false → Gathers g (before ++ filter p (take i xs)) → Gathers g (before ++ filter p (take (i + 1) xs))
gathers_failing g before p xs i x within is fails gathers =
    subst (λ (paths : List Path). Gathers g paths)
    (ap (λ (ys : List Path). before ++ ys) (sym (front_filter p xs i x false within is fails ∙ append-nil (filter p (take i xs)))))
    gathers

-- ---- slots of a test

range_more : (a n : ℕ) → range_with_len a (suc n) ≡ range_with_len a n ++ (a + n) ∷ []
range_more a zero = let e : a ≡ a + 0 = omega arith in ap (λ (k : ℕ). k ∷ []) e
range_more a (suc n) =
    let e : a + 1 + n ≡ a + suc n = omega arith in
    ap (λ (ks : List ℕ). a ∷ ks) (range_more (a + 1) n ∙ ap (λ (k : ℕ). range_with_len (a + 1) n ++ k ∷ []) e)

range_filter : (p : ℕ → Bool) (n : ℕ) (b : Bool) → p n ≡ b → filter p (range_with_len 0 (n + 1)) ≡ filter p (range_with_len 0 n) ++ cond b (n ∷ []) []
range_filter p n b is =
    let next : n + 1 ≡ suc n = omega arith in
    let last : 0 + n ≡ n = omega arith in
    ap (λ (k : ℕ). filter p (range_with_len 0 k)) next
    ∙ ap (filter p) (range_more 0 n ∙ ap (λ (k : ℕ). range_with_len 0 n ++ k ∷ []) last)
    ∙ filter-append p (range_with_len 0 n) (n ∷ [])
    ∙ ap (λ (c : Bool). filter p (range_with_len 0 n) ++ cond c (n ∷ []) []) is

pub gathers_slot : (g : Gathering) (before : List Path) (p : ℕ → Bool) (n : ℕ) → p n ≡ true
    → Gathers g (before ++ map bare_slot (filter p (range_with_len 0 n)) ++ bare_slot n ∷ []) → Gathers g (before ++ map bare_slot (filter p (range_with_len 0 (n + 1))))
gathers_slot g before p n passes gathers =
    subst (λ (paths : List Path). Gathers g paths)
    (append_assoc before (map bare_slot (filter p (range_with_len 0 n))) (bare_slot n ∷ [])
    ∙ ap (λ (ys : List Path). before ++ ys)
    (sym (map-append bare_slot (filter p (range_with_len 0 n)) (n ∷ [])) ∙ ap (map bare_slot) (sym (range_filter p n true passes))))
    gathers

pub gathers_other : (g : Gathering) (before : List Path) (p : ℕ → Bool) (n : ℕ) → p n ≡ false
    → Gathers g (before ++ map bare_slot (filter p (range_with_len 0 n))) → Gathers g (before ++ map bare_slot (filter p (range_with_len 0 (n + 1))))
gathers_other g before p n fails gathers =
    subst (λ (paths : List Path). Gathers g paths)
    (ap (λ (ys : List ℕ). before ++ map bare_slot ys) (sym (range_filter p n false fails ∙ append-nil (filter p (range_with_len 0 n)))))
    gathers
