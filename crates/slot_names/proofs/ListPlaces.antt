-- Lists that extend others.
use Rattle.std.proofs.Common.{suc, ◌≤◌, List, [], ◌∷◌, ◌++◌, length, refl, arith}
use Rattle.std.proofs.lemmas.Option.{none-some}
pub use Rattle.list_laws.proofs.Places.{place_of as place_in, contains_at, stands_below, pushed_at, push_cases, set_at, set_other, set_cases}
use Rattle.list_laws.proofs.Places.{in_longer}
use Rattle.slot_names.specs.Branches.{Extends}

-- one more at the end
pub Extends-push : {X : Type 0} (xs : List X) (y : X) → Extends xs (xs ++ y ∷ [])
Extends-push xs y = record { stays = λ k x e. in_longer xs (y ∷ []) k x e }

-- a longer list
pub Extends-itself : {X : Type 0} (xs : List X) → Extends xs xs
Extends-itself xs = record { stays = λ k x e. e }

pub Extends-both : {X : Type 0} (xs ys zs : List X) → Extends xs ys → Extends ys zs → Extends xs zs
Extends-both xs ys zs g h = record { stays = λ k x e. h.stays k x (g.stays k x e) }

pub length-extends : {X : Type 0} (xs ys : List X) → Extends xs ys → length xs ≤ length ys
length-extends [] ys h = omega arith
length-extends (x ∷ xs) [] h = absurd (none-some x (h.stays 0 x refl))
length-extends (x ∷ xs) (y ∷ ys) h =
    let rest : length xs ≤ length ys = length-extends xs ys (record { stays = λ k z e. h.stays (suc k) z e }) in
    omega (arith, rest)
