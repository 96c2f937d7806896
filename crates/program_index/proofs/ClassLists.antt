-- Lists of classes: what is in them, and what one more class or several more leave.
use Rattle.std.proofs.Common.{◌≡◌, ℕ, ◌+◌, ◌<◌, ◌≤◌, true, false, List, [], ◌∷◌, ◌++◌, length, take, get_or, Some, refl, sym, ◌∙◌, ap, subst, arith, inl, inr, ◌⊎◌, length-append}
use Rattle.std.specs.Prelude.{nat_eq}
use Rattle.std.specs.List.{slice_get, Contains, All, IsDistinct}
use Rattle.std.proofs.lemmas.Cmp.{nat_eq_equiv}
use Rattle.std.proofs.lemmas.Bool.{cases_Bool, cond_both, eqb-true, eq-eqb, or_cases, or_left, or_right, false_from_ne_true, false≢true}
use Rattle.std.proofs.lemmas.Option.{slice_get_within, get_or_from_slice_get}
use Rattle.std.proofs.lemmas.Map.Views.{list_any-from_Contains, Contains-from_any}
use Rattle.std.proofs.lemmas.Map.Keys.{IsDistinct-from_apart, apart_from_distinct}
use Rattle.std.proofs.lemmas.Map.Steps.{length-le_from_distinct_below}
use Rattle.std.proofs.lemmas.List.{take-append-le, take_all, take_more, get_or_append_left, get_or_push}
use Rattle.std.proofs.lemmas.List.Folds.{list_any-append}
use Rattle.std.proofs.lemmas.List.Elements.{All-push, All-take, All-head, All-tail, All-contains}
use Rattle.list_laws.proofs.Members.{contains_first}
use Rattle.list_laws.proofs.Places.{in_longer, place_of}
use Rattle.program_index.specs.ClassSets.{Classes, has, with_class, with_classes}

pub has_from_contains : (xs : List ℕ) (x : ℕ) → Contains xs x → has xs x ≡ true
has_from_contains xs x c = list_any-from_Contains nat_eq_equiv x xs c

pub contains_from_has : (xs : List ℕ) (x : ℕ) → has xs x ≡ true → Contains xs x
contains_from_has xs x h = Contains-from_any (λ a b e. eqb-true a b e) x xs h

-- one class at the end
pub has_push_old : (xs : List ℕ) (y x : ℕ) → has xs x ≡ true → has (xs ++ y ∷ []) x ≡ true
has_push_old xs y x h = list_any-append (nat_eq x) xs (y ∷ []) ∙ or_left _ _ h

pub has_push_new : (xs : List ℕ) (y : ℕ) → has (xs ++ y ∷ []) y ≡ true
has_push_new xs y = list_any-append (nat_eq y) xs (y ∷ []) ∙ or_right _ _ (has_from_contains (y ∷ []) y (contains_first y []))

pub has_push_cases : (xs : List ℕ) (y x : ℕ) → has (xs ++ y ∷ []) x ≡ true → (has xs x ≡ true) ⊎ (x ≡ y)
has_push_cases xs y x h =
    elim (or_cases _ _ (sym (list_any-append (nat_eq x) xs (y ∷ [])) ∙ h)) [
      | inl a ↦ inl a
      | inr b ↦ elim (or_cases _ _ b) [ inl e ↦ inr (eqb-true x y e) | inr f ↦ absurd (false≢true f) ]
    ]

pub has_push_other : (xs : List ℕ) (y x : ℕ) → (x ≡ y → ⊥) → has (xs ++ y ∷ []) x ≡ has xs x
has_push_other xs y x ne =
    elim (cases_Bool (has xs x)) [
      | inl h ↦ has_push_old xs y x h ∙ sym h
      | inr h ↦ false_from_ne_true _ (λ t. elim (has_push_cases xs y x t) [ inl a ↦ false≢true (sym h ∙ a) | inr e ↦ ne e ]) ∙ sym h
    ]

pub all_before : (P : ℕ → Type 0) (xs : List ℕ) (y : ℕ) → All P (xs ++ y ∷ []) → All P xs
all_before P xs y all = let same = take-append-le (length xs) xs (y ∷ []) (omega arith) ∙ take_all (length xs) xs (omega arith) in
    subst (λ (zs : List ℕ). All P zs) same (All-take P (length xs) (xs ++ y ∷ []) all)

-- lists in which no class stands twice
pub distinct_none : IsDistinct nat_eq []
unfolding IsDistinct
distinct_none = tt

pub distinct_before : (xs : List ℕ) (y : ℕ) → IsDistinct nat_eq (xs ++ y ∷ []) → IsDistinct nat_eq xs
distinct_before xs y d =
    IsDistinct-from_apart nat_eq xs (λ i j e l m. let m' : j < length (xs ++ y ∷ []) = omega (arith, length-append xs (y ∷ [])) in
    ap (λ (z : ℕ). nat_eq z (get_or xs j e)) (sym (get_or_append_left xs (y ∷ []) e i (omega arith))) ∙
    ap (λ (z : ℕ). nat_eq (get_or (xs ++ y ∷ []) i e) z) (sym (get_or_append_left xs (y ∷ []) e j m)) ∙ apart_from_distinct nat_eq (xs ++ y ∷ []) i j e d l m')

pub distinct_last : (xs : List ℕ) (y : ℕ) → IsDistinct nat_eq (xs ++ y ∷ []) → has xs y ≡ false
distinct_last xs y d =
    false_from_ne_true _ (λ h. let p = place_of xs y (contains_from_has xs y h) in let l = slice_get_within xs p.0 y p.1 in
    let m : length xs < length (xs ++ y ∷ []) = omega (arith, length-append xs (y ∷ [])) in
    let one : get_or (xs ++ y ∷ []) p.0 0 ≡ y = get_or_append_left xs (y ∷ []) 0 p.0 l ∙ get_or_from_slice_get xs p.0 y 0 p.1 in
    let two : get_or (xs ++ y ∷ []) (length xs) 0 ≡ y = get_or_push xs y 0 (length xs) refl in
    false≢true (sym (apart_from_distinct nat_eq (xs ++ y ∷ []) p.0 (length xs) 0 d l m) ∙ eq-eqb _ _ (one ∙ sym two)))

-- one class more, if it was not there
pub with_class_old : (xs : List ℕ) (y x : ℕ) → has xs x ≡ true → has (with_class xs y) x ≡ true
with_class_old xs y x h = cond_both (has xs y) xs (xs ++ y ∷ []) (λ (zs : List ℕ). has zs x ≡ true) (λ _. h) (λ _. has_push_old xs y x h)

pub with_class_new : (xs : List ℕ) (y : ℕ) → has (with_class xs y) y ≡ true
with_class_new xs y = cond_both (has xs y) xs (xs ++ y ∷ []) (λ (zs : List ℕ). has zs y ≡ true) (λ e. e) (λ _. has_push_new xs y)

pub with_class_front : (xs : List ℕ) (y n : ℕ) → n ≤ length xs → take n (with_class xs y) ≡ take n xs
with_class_front xs y n l = cond_both (has xs y) xs (xs ++ y ∷ []) (λ (zs : List ℕ). take n zs ≡ take n xs) (λ _. refl) (λ _. take-append-le n xs (y ∷ []) l)

pub with_class_longer : (xs : List ℕ) (y : ℕ) → length xs ≤ length (with_class xs y)
with_class_longer xs y = cond_both (has xs y) xs (xs ++ y ∷ []) (λ (zs : List ℕ). length xs ≤ length zs) (λ _. omega arith) (λ _. omega (arith, length-append xs (y ∷ [])))

pub with_class_at : (xs : List ℕ) (y k x : ℕ) → slice_get xs k ≡ Some x → slice_get (with_class xs y) k ≡ Some x
with_class_at xs y k x e = cond_both (has xs y) xs (xs ++ y ∷ []) (λ (zs : List ℕ). slice_get zs k ≡ Some x) (λ _. e) (λ _. in_longer xs (y ∷ []) k x e)

pub with_class_all : (P : ℕ → Type 0) (xs : List ℕ) (y : ℕ) → All P xs → P y → All P (with_class xs y)
with_class_all P xs y all one = cond_both (has xs y) xs (xs ++ y ∷ []) (λ (zs : List ℕ). All P zs) (λ _. all) (λ _. All-push P xs y all one)

-- several more
pub with_classes_old : (xs ys : List ℕ) (x : ℕ) → has xs x ≡ true → has (with_classes xs ys) x ≡ true
with_classes_old xs [] x h = h
with_classes_old xs (y ∷ ys) x h = with_classes_old (with_class xs y) ys x (with_class_old xs y x h)

pub with_classes_new : (xs ys : List ℕ) (x : ℕ) → has ys x ≡ true → has (with_classes xs ys) x ≡ true
with_classes_new xs [] x h = absurd (false≢true h)
with_classes_new xs (y ∷ ys) x h =
    elim (or_cases _ _ h) [
      | inl e ↦ with_classes_old (with_class xs y) ys x (subst (λ (z : ℕ). has (with_class xs y) z ≡ true) (sym (eqb-true x y e)) (with_class_new xs y))
      | inr l ↦ with_classes_new (with_class xs y) ys x l
    ]

pub with_classes_at : (xs ys : List ℕ) (k x : ℕ) → slice_get xs k ≡ Some x → slice_get (with_classes xs ys) k ≡ Some x
with_classes_at xs [] k x e = e
with_classes_at xs (y ∷ ys) k x e = with_classes_at (with_class xs y) ys k x (with_class_at xs y k x e)

pub with_classes_all : (P : ℕ → Type 0) (xs ys : List ℕ) → All P xs → All P ys → All P (with_classes xs ys)
with_classes_all P xs [] all more = all
with_classes_all P xs (y ∷ ys) all more = with_classes_all P (with_class xs y) ys (with_class_all P xs y all (All-head P y ys more)) (All-tail P y ys more)

pub with_classes_longer : (xs ys : List ℕ) → length xs ≤ length (with_classes xs ys)
with_classes_longer xs [] = omega arith
with_classes_longer xs (y ∷ ys) = let a = with_class_longer xs y in let b = with_classes_longer (with_class xs y) ys in omega arith

pub with_classes-append : (xs ys zs : List ℕ) → with_classes xs (ys ++ zs) ≡ with_classes (with_classes xs ys) zs
with_classes-append xs [] zs = refl
with_classes-append xs (y ∷ ys) zs = with_classes-append (with_class xs y) ys zs

-- one class more of a list is added
pub front_added : (old now new : Classes) (xs : List ℕ) (i : ℕ) → now ≡ record { size = old.size; items = with_classes old.items (take i xs) }
    → new ≡ record { size = now.size; items = with_class now.items (get_or xs i 0) } → i < length xs → new ≡ record { size = old.size; items = with_classes old.items (take (i + 1) xs) }
front_added old now new xs i first second lt =
    let x = get_or xs i 0 in
    let one_more = take_more xs i 0 lt in
    rw (second, first) (ap (λ (zs : List ℕ). let s : Classes = record { size = old.size; items = zs } in s)
    (sym (with_classes-append old.items (take i xs) (x ∷ [])) ∙ ap (with_classes old.items) (sym one_more)))

-- classes below a number, none twice, are at most that many
pub at_most_size : (xs : List ℕ) (n : ℕ) → All (λ (x : ℕ). x < n) xs → IsDistinct nat_eq xs → length xs ≤ n
at_most_size xs n below distinct =
    length-le_from_distinct_below xs n distinct (λ q h. All-contains (λ (x : ℕ). x < n) xs q below (contains_from_has xs q h))
