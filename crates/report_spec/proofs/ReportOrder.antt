-- Sites stand in one order in a report.
use Rattle.std.proofs.Common.{◌≡◌, ◌⊎◌, inl, inr, ◌∙◌, suc, List, [], ◌∷◌, Contains, refl, sym, ap, subst, arith}
use Rattle.jvm_model.specs.declared.number.ClassNo.{ClassNo}
use Rattle.least_sets.proofs.Places.{place_of, first, first_or_later, later, nothing_in}
use Rattle.site_report.specs.declared.tracked_site.TrackedSite.{TrackedSite}
use Rattle.site_report.specs.Sites.{AreInOrder, IsBefore, by_method, by_offset, by_class, by_kind, method_rank}

-- of two sites one alone comes before the other
one_before : (t u : TrackedSite) → IsBefore t u → IsBefore u t → ⊥
one_before t u (by_method l) (by_method l2) = omega arith
one_before t u (by_method l) (by_offset e l2) = let ranks = ap method_rank e in omega arith
one_before t u (by_method l) (by_class e o l2) = let ranks = ap method_rank e in omega arith
one_before t u (by_method l) (by_kind e o c l2) = let ranks = ap method_rank e in omega arith
one_before t u (by_offset e l) (by_method l2) = let ranks = ap method_rank e in omega arith
one_before t u (by_offset e l) (by_offset e2 l2) = omega arith
one_before t u (by_offset e l) (by_class e2 o l2) = omega arith
one_before t u (by_offset e l) (by_kind e2 o c l2) = omega arith
one_before t u (by_class e o l) (by_method l2) = let ranks = ap method_rank e in omega arith
one_before t u (by_class e o l) (by_offset e2 l2) = omega arith
one_before t u (by_class e o l) (by_class e2 o2 l2) = omega arith
one_before t u (by_class e o l) (by_kind e2 o2 c l2) = let classes = ap (λ (k : ClassNo). k.0) c in omega arith
one_before t u (by_kind e o c l) (by_method l2) = let ranks = ap method_rank e in omega arith
one_before t u (by_kind e o c l) (by_offset e2 l2) = omega arith
one_before t u (by_kind e o c l) (by_class e2 o2 l2) = let classes = ap (λ (k : ClassNo). k.0) c in omega arith
one_before t u (by_kind e o c l) (by_kind e2 o2 c2 l2) = omega arith

before_rest : (t : TrackedSite) (sites : List TrackedSite) → AreInOrder (t ∷ sites) → (u : TrackedSite) → Contains sites u → IsBefore t u
before_rest t sites order u there = let at = place_of sites u there in order.ascend 0 (suc at.0) t u (omega arith) refl at.1

rest_in_order : (t : TrackedSite) (sites : List TrackedSite) → AreInOrder (t ∷ sites) → AreInOrder sites
rest_in_order t sites order = record { ascend = λ i j u v lt at_i at_j. order.ascend (suc i) (suc j) u v (omega arith) at_i at_j }

-- The sites of the one list are in the other.
pub record AreIn (xs ys : List TrackedSite) : Type 0 where
  pub there : (t : TrackedSite) → Contains xs t → Contains ys t

-- what is in two lists that begin alike is in the rest of the second, where it is in the rest of the first
rest_in : (x y : TrackedSite) (xs ys : List TrackedSite) → x ≡ y → AreInOrder (x ∷ xs) → AreIn (x ∷ xs) (y ∷ ys) → AreIn xs ys
rest_in x y xs ys e order to = record { there = λ t h. at t h (first_or_later y ys t (to.there t (later x xs t h))) }
  where
    at : (t : TrackedSite) → Contains xs t → (y ≡ t) ⊎ Contains ys t → Contains ys t
    at t h (inl is) = let here = subst (λ (u : TrackedSite). IsBefore x u) (sym (e ∙ is)) (before_rest x xs order t h) in absurd (one_before x x here here)
    at t h (inr there) = there

pub order_same : (xs ys : List TrackedSite) → AreInOrder xs → AreInOrder ys → AreIn xs ys → AreIn ys xs → xs ≡ ys
order_same [] [] up up2 to back = refl
order_same [] (y ∷ ys) up up2 to back = absurd (nothing_in y (back.there y (first y ys)))
order_same (x ∷ xs) [] up up2 to back = absurd (nothing_in x (to.there x (first x xs)))
order_same (x ∷ xs) (y ∷ ys) up up2 to back = by (order_same xs ys (rest_in_order x xs up) (rest_in_order y ys up2))
  where
    heads : (y ≡ x) ⊎ Contains ys x → (x ≡ y) ⊎ Contains xs y → x ≡ y
    heads (inl e) other = sym e
    heads (inr h) (inl e) = e
    heads (inr h) (inr h2) = absurd (one_before x y (before_rest x xs up y h2) (before_rest y ys up2 x h))

    head : x ≡ y
    head = heads (first_or_later y ys x (to.there x (first x xs))) (first_or_later x xs y (back.there y (first y ys)))

    by : (AreIn xs ys → AreIn ys xs → xs ≡ ys) → (x ∷ xs) ≡ (y ∷ ys)
    by rest = let tail = rest (rest_in x y xs ys head up to) (rest_in y x ys xs (sym head) up2 back) in (λ i. head i ∷ tail i)
