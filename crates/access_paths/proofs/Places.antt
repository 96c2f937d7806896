-- Where a path is put in a set, and what a set becomes with it.
use Rattle.std.proofs.Common.{◌≡◌, ℕ, zero, suc, ◌<◌, ◌≤◌, nat_eq, nat_lt, Bool, true, false, List, [], ◌∷◌, length, take, refl, sym, ◌∙◌, ap, subst, arith}
use Rattle.std.specs.List.{insert}
use Rattle.std.proofs.lemmas.Bool.Decides.{nat_tests}
use Rattle.std.proofs.lemmas.List.{length-take}
use Rattle.access_paths.specs.Paths.{Path, with_path}
use Rattle.access_paths.specs.Gains.{IsPlace}
use Rattle.access_paths.specs.Operations.{cut_of}
use Rattle.access_paths.specs.Sets.{IsPathSet}
use Rattle.access_paths.proofs.SetMembers.{front_ordered, with_ordered}

-- ---- a path that is put at its place

take-insert : {X : Type 0} (n at : ℕ) (xs : List X) (x : X) → at ≤ n → at ≤ length xs → take (suc n) (insert xs at x) ≡ insert (take n xs) at x
take-insert n zero xs x within inside = refl
take-insert zero (suc at) xs x within inside = absurd (omega arith)
take-insert (suc n) (suc at) [] x within inside = absurd (omega arith)
take-insert (suc n) (suc at) (y ∷ ys) x within inside = ap (λ zs. y ∷ zs) (take-insert n at ys x (omega arith) (omega arith))

length-insert : {X : Type 0} (at : ℕ) (xs : List X) (x : X) → at ≤ length xs → length (insert xs at x) ≡ suc (length xs)
length-insert zero xs x inside = refl
length-insert (suc at) [] x inside = absurd (omega arith)
length-insert (suc at) (y ∷ ys) x inside = ap suc (length-insert at ys x (omega arith))

-- the least six, where the path is one of them
pub put_within : (x : Path) (set : List Path) (at : ℕ) → IsPlace x set at → at < 6 → take 6 (with_path x set) ≡ insert (take 5 set) at x
put_within x set at place within = ap (take 6) place.put ∙ take-insert 5 at set x (omega arith) place.within

length-put : (x : Path) (set : List Path) (at : ℕ) → IsPlace x set at → length (with_path x set) ≡ suc (length set)
length-put x set at place = ap length place.put ∙ length-insert at set x place.within

-- a path is left out exactly where the set is full
pub put_drops : (x : Path) (set : List Path) (at : ℕ) → IsPlace x set at → length set ≤ 6 → nat_lt 6 (length (with_path x set)) ≡ nat_eq (length set) 6
put_drops x set at place few = ap (nat_lt 6) (length-put x set at place) ∙ (by (nat_eq (length set) 6) refl)
  where
    by : (a : Bool) → nat_eq (length set) 6 ≡ a → nat_lt 6 (suc (length set)) ≡ a
    by true full = grind (arith, nat_tests, full)
    by false room = grind (arith, nat_tests, room, few)

front-insert : {X : Type 0} (at : ℕ) (xs : List X) (x : X) → length xs ≡ at → take at (insert xs at x) ≡ xs
front-insert zero [] x e = refl
front-insert zero (y ∷ ys) x e = absurd (omega arith)
front-insert (suc at) [] x e = absurd (omega arith)
front-insert (suc at) (y ∷ ys) x e = ap (λ zs. y ∷ zs) (front-insert at ys x (omega arith))

-- a path behind six others is left out
pub put_behind : (x : Path) (set : List Path) (at : ℕ) → IsPlace x set at → length set ≤ 6 → 6 ≤ at → record { set = set; dropped = true } ≡ cut_of (with_path x set)
put_behind x set at place few behind =
    let inside = place.within in
    let last : at ≡ 6 = omega arith in
    let full : length set ≡ 6 = omega arith in
    let six = subst (λ (n : ℕ). with_path x set ≡ insert set n x) last place.put in
    let kept : take 6 (with_path x set) ≡ set = ap (take 6) six ∙ front-insert 6 set x full in
    let more = length-put x set at place in
    let dropped : nat_lt 6 (length (with_path x set)) ≡ true = grind (arith, nat_tests, more, full) in
    λ i. record { set = sym kept i; dropped = sym dropped i }

-- the least six are a set
pub put_set : (x : Path) (set : List Path) (at : ℕ) (kept : List Path) → IsPathSet set → IsPlace x set at → at < 6 → kept ≡ insert (take 5 set) at x → IsPathSet kept
put_set x set at kept is place within e =
    let same : kept ≡ take 6 (with_path x set) = e ∙ sym (put_within x set at place within) in
    let few = length-take 6 (with_path x set) in
    subst IsPathSet (sym same) (record { ordered = front_ordered 6 (with_path x set) (with_ordered x set is.ordered); few = omega arith })
