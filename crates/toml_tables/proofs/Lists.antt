-- Lists that are related place by place, and a test of the items of a list.
use Rattle.std.proofs.Common.{◌≡◌, ℕ, zero, suc, ◌<◌, Bool, ◌||◌, List, [], ◌∷◌, length, get_or, map, arith, refl, sym, ap, subst}
use Rattle.std.specs.List.{AllZip, list_any}
pub use Rattle.list_laws.proofs.Zips.{zip_more as AllZip-more, zip_unique as AllZip-unique}

-- an item with nothing beside it
pub AllZip-none : {A B : Type 0} (R : A → B → Type 0) (xs : List A) (ys : List B) (i : ℕ) (x : A) → i < length xs → x ≡ get_or xs i x → ((y : B) → R x y → ⊥) → AllZip R xs ys → ⊥
AllZip-none R [] ys i x h e none z = absurd (omega arith)
AllZip-none R (a ∷ xs) [] i x h e none z = z
AllZip-none R (a ∷ xs) (y ∷ ys) zero x h e none z = none y (subst (λ w. R w y) (sym e) z.0)
AllZip-none R (a ∷ xs) (y ∷ ys) (suc i) x h e none z = AllZip-none R xs ys i x (omega arith) e none z.1

-- a test of what the items become
pub list_any-map : {X Y : Type 0} (test : Y → Bool) (f : X → Y) (xs : List X) → list_any (λ x. test (f x)) xs ≡ list_any test (map f xs)
list_any-map test f [] = refl
list_any-map test f (x ∷ xs) = ap (λ rest. test (f x) || rest) (list_any-map test f xs)
