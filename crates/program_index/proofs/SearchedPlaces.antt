-- The list without doubles, each at its first place: it has the same members.
use Rattle.std.proofs.Common.{◌≡◌, ℕ, Bool, true, false, List, [], ◌∷◌, ◌++◌, refl, sym, ◌∙◌, ap, subst, inl, inr}
use Rattle.std.specs.Prelude.{nat_eq, not, filter, ◌||◌, ◌&&◌}
use Rattle.std.specs.List.{Contains}
use Rattle.std.proofs.lemmas.Bool.{cases_Bool, cond-true, cond-false, eqb-true, eq-eqb, ne_eqb, false≢true}
use Rattle.std.proofs.lemmas.Map.Views.{any-filter_same}
use Rattle.std.proofs.lemmas.List.{append_assoc, append-nil}
use Rattle.std.proofs.lemmas.List.Elements.{filter-append}
use Rattle.program_index.specs.SearchOrder.{firsts}
use Rattle.program_index.specs.ClassSets.{has, with_class, with_classes}
use Rattle.program_index.proofs.ClassLists.{has_from_contains, contains_from_has, with_class_new, with_class_old}

-- the members other than x
abbrev off : ℕ → List ℕ → List ℕ
off x zs = filter (λ (y : ℕ). not (nat_eq x y)) zs

same_way : (x y : ℕ) (b : Bool) → nat_eq x y ≡ b → nat_eq y x ≡ b
same_way x y true e = eq-eqb y x (sym (eqb-true x y e))
same_way x y false e = ne_eqb y x (λ s. false≢true (sym e ∙ eq-eqb x y (sym s)))

has_off : (x : ℕ) (zs : List ℕ) (y : ℕ) → has (off x zs) y ≡ (not (nat_eq x y) && has zs y)
has_off x zs y =
    any-filter_same (nat_eq y) (λ (k : ℕ). not (nat_eq x k)) (not (nat_eq x y)) (λ k e. ap (λ (z : ℕ). not (nat_eq x z)) (sym (eqb-true y k e))) zs

-- the members are the same
past_first : (x y : ℕ) (xs : List ℕ) (b : Bool) → nat_eq y x ≡ b → (nat_eq y x || (not (nat_eq x y) && has xs y)) ≡ (nat_eq y x || has xs y)
past_first x y xs true e = rw e refl
past_first x y xs false e = let f = same_way y x false e in rw (e, f) refl

pub firsts_has : (xs : List ℕ) (y : ℕ) → has (firsts xs) y ≡ has xs y
firsts_has [] y = refl
firsts_has (x ∷ xs) y =
    ap (λ (b : Bool). nat_eq y x || b) (has_off x (firsts xs) y ∙ ap (λ (b : Bool). not (nat_eq x y) && b) (firsts_has xs y)) ∙ past_first x y xs (nat_eq y x) refl

pub firsts_contains : (xs : List ℕ) (y : ℕ) → Contains xs y → Contains (firsts xs) y
firsts_contains xs y c = contains_from_has (firsts xs) y (firsts_has xs y ∙ has_from_contains xs y c)

pub contains_firsts : (xs : List ℕ) (y : ℕ) → Contains (firsts xs) y → Contains xs y
contains_firsts xs y c = contains_from_has xs y (sym (firsts_has xs y) ∙ has_from_contains (firsts xs) y c)

-- adding what is there already adds nothing
with_class_there : (zs : List ℕ) (x : ℕ) → has zs x ≡ true → with_class zs x ≡ zs
with_class_there zs x h = cond-true (has zs x) zs (zs ++ x ∷ []) h

with_class_absent : (zs : List ℕ) (x : ℕ) → has zs x ≡ false → with_class zs x ≡ zs ++ x ∷ []
with_class_absent zs x h = cond-false (has zs x) zs (zs ++ x ∷ []) h

with_classes_off : (zs : List ℕ) (x : ℕ) (bs : List ℕ) → has zs x ≡ true → with_classes zs (off x bs) ≡ with_classes zs bs
with_classes_off zs x [] h = refl
with_classes_off zs x (b ∷ bs) h =
    elim (cases_Bool (nat_eq x b)) [
      | inl e ↦ (let same = with_class_there zs b (subst (λ (w : ℕ). has zs w ≡ true) (eqb-true x b e) h) in
          rw e (with_classes_off zs x bs h ∙ ap (λ (ws : List ℕ). with_classes ws bs) (sym same)))
      | inr e ↦ rw e (with_classes_off (with_class zs b) x bs (with_class_old zs b x h))
    ]

-- a list without its doubles adds what the list adds
pub with_classes_firsts : (zs xs : List ℕ) → with_classes zs (firsts xs) ≡ with_classes zs xs
with_classes_firsts zs [] = refl
with_classes_firsts zs (x ∷ xs) =
    with_classes_off (with_class zs x) x (firsts xs) (with_class_new zs x) ∙ with_classes_firsts (with_class zs x) xs

-- one more at the end
off_push_same : (x y : ℕ) (zs : List ℕ) → nat_eq x y ≡ true → off x (zs ++ y ∷ []) ≡ off x zs
off_push_same x y zs e = filter-append (λ (z : ℕ). not (nat_eq x z)) zs (y ∷ []) ∙ rw e (append-nil (off x zs))

off_push_other : (x y : ℕ) (zs : List ℕ) → nat_eq x y ≡ false → off x (zs ++ y ∷ []) ≡ off x zs ++ y ∷ []
off_push_other x y zs e = filter-append (λ (z : ℕ). not (nat_eq x z)) zs (y ∷ []) ∙ rw e refl

with_class_past : (x y : ℕ) (zs : List ℕ) → with_class (x ∷ off x zs) y ≡ x ∷ off x (with_class zs y)
with_class_past x y zs =
    elim (cases_Bool (nat_eq x y)) [
      | inl e ↦ with_class_there (x ∷ off x zs) y (ap (λ (b : Bool). b || has (off x zs) y) (same_way x y true e)) ∙
          elim (cases_Bool (has zs y)) [
            | inl h ↦ ap (λ (ws : List ℕ). x ∷ off x ws) (sym (with_class_there zs y h))
            | inr h ↦ ap (λ (ws : List ℕ). x ∷ ws) (sym (off_push_same x y zs e)) ∙ ap (λ (ws : List ℕ). x ∷ off x ws) (sym (with_class_absent zs y h))
          ]
      | inr e ↦ (let told : has (x ∷ off x zs) y ≡ has zs y = ap (λ (b : Bool). b || has (off x zs) y) (same_way x y false e) ∙ has_off x zs y ∙ ap (λ (b : Bool). not b && has zs y) e in
          elim (cases_Bool (has zs y)) [
            | inl h ↦ with_class_there (x ∷ off x zs) y (told ∙ h) ∙ ap (λ (ws : List ℕ). x ∷ off x ws) (sym (with_class_there zs y h))
            | inr h ↦ with_class_absent (x ∷ off x zs) y (told ∙ h) ∙ ap (λ (ws : List ℕ). x ∷ ws) (sym (off_push_other x y zs e))
                ∙ ap (λ (ws : List ℕ). x ∷ off x ws) (sym (with_class_absent zs y h))
          ])
    ]

with_class_firsts : (xs : List ℕ) (y : ℕ) → with_class (firsts xs) y ≡ firsts (xs ++ y ∷ [])
with_class_firsts [] y = refl
with_class_firsts (x ∷ xs) y = with_class_past x y (firsts xs) ∙ ap (λ (ws : List ℕ). x ∷ off x ws) (with_class_firsts xs y)

firsts-append : (xs ys : List ℕ) → with_classes (firsts xs) ys ≡ firsts (xs ++ ys)
firsts-append xs [] = ap firsts (sym (append-nil xs))
firsts-append xs (y ∷ ys) =
    ap (λ (zs : List ℕ). with_classes zs ys) (with_class_firsts xs y) ∙ firsts-append (xs ++ y ∷ []) ys ∙ ap firsts (append_assoc xs (y ∷ []) ys)

-- a list added to nothing leaves its members, each at its first place
pub with_classes_none : (xs : List ℕ) → with_classes [] xs ≡ firsts xs
with_classes_none xs = firsts-append [] xs
