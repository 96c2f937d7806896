-- Values that are put into ascending order, each once.
use Rattle.std.proofs.Common.{◌≡◌, ℕ, ◌+◌, ◌<◌, ◌≤◌, Bool, List, [], length, Option, Some, refl, sym, ◌∙◌, ap, subst, inl, inr, arith}
use Rattle.std.specs.declared.alloc.Global.{Global}
use Rattle.std.specs.declared.cmp.Ordering.{Ordering}
use Rattle.std.specs.declared.vec.Vec.{Vec}
use Rattle.std.specs.Cmp.{IsEquivalence, IsTotalOrder}
use Rattle.std.specs.List.{slice_get, Contains, dedup}
use Rattle.std.specs.List.Sorted.{IsPermutation, IsSorted, IsStrictlySortedBy}
use Rattle.std.specs.Ordering.{eq_by_cmp}
use Rattle.std.proofs.Math.ListN.{set}
use Rattle.std.proofs.lemmas.Bool.{cases_lt}
use Rattle.std.proofs.lemmas.List.Kept.{Contains-dedup, Contains-from_dedup, IsStrictlySortedBy-dedup}
use Rattle.std.proofs.lemmas.List.Sorted.{Contains-permutation, IsPermutation-sym}
use Rattle.std.proofs.lemmas.Option.{slice_get_past}
use Rattle.list_laws.proofs.Places.{set_at, set_other}
use Rattle.grouped_lists.specs.Groups.{values_at, values_in}
use Rattle.grouped_lists.specs.Ordered.{AreOrdered, IsOrdered}

-- ---- a group that is replaced

-- ---- values in order

module _ {V : Type 0} (eq : V → V → Bool) (cmp : V → V → Ordering) where
  pub put_in_order : IsTotalOrder cmp → ((x y : V) → eq x y ≡ eq_by_cmp cmp x y) → IsEquivalence eq → (xs sorted ys : List V) → IsPermutation xs sorted
      → IsSorted cmp sorted → ys ≡ dedup eq sorted → IsOrdered eq cmp xs ys
  put_in_order total ties laws xs sorted ys moved ascend is = record {
    ascend = subst (λ (list : List V). IsStrictlySortedBy cmp list) (sym is) (IsStrictlySortedBy-dedup total ties sorted ascend);
    same = λ exact x. (
      λ there. Contains-permutation sorted xs x (IsPermutation-sym xs sorted moved)
          (Contains-from_dedup eq sorted x (subst (λ (list : List V). Contains list x) is there)),
      λ there. subst (λ (list : List V). Contains list x) (sym is)
          (Contains-dedup laws exact sorted x (Contains-permutation xs sorted x moved there)),
    );
  }

  -- no value
  nothing_ordered : (xs : List V) → xs ≡ [] → IsOrdered eq cmp xs xs
  unfolding IsStrictlySortedBy
  nothing_ordered xs none = record {
    ascend = subst (λ (list : List V). IsStrictlySortedBy cmp list) (sym none) tt;
    same = λ exact x. (λ there. there, λ there. there);
  }

  -- The values of the numbers below the limit are in order, and the others as they were.
  pub record AreOrderedBelow (old new : List (Vec V Global)) (limit : ℕ) : Type 0 where
    pub below : (number : ℕ) → number < limit → IsOrdered eq cmp (values_at old number) (values_at new number)
    pub others : (number : ℕ) → limit ≤ number → values_at new number ≡ values_at old number

  pub none_ordered : (old : List (Vec V Global)) → AreOrderedBelow old old 0
  none_ordered old = record { below = λ number less. absurd (omega (arith, less)); others = λ number past. refl }

  -- one more number
  pub one_more_ordered : (old items : List (Vec V Global)) (k : ℕ) (group put : Vec V Global) → AreOrderedBelow old items k → k < length items
      → slice_get items k ≡ Some group → IsOrdered eq cmp group.items put.items → AreOrderedBelow old (set items k put) (k + 1)
  one_more_ordered old items k group put before within at one = record {
    below = λ number less. elim (cases_lt number k) [
      | inl earlier ↦
          subst (λ (vs : List V). IsOrdered eq cmp (values_at old number) vs)
          (ap (λ (o : Option (Vec V Global)). values_in o) (sym (set_other items k number put (λ same. omega (arith, same, earlier)))))
          (before.below number earlier)
      | inr not_earlier ↦ (
          let last : k ≡ number = omega (arith, less, not_earlier) in
          let was : group.items ≡ values_at old k = sym (ap (λ (o : Option (Vec V Global)). values_in o) at) ∙ before.others k (omega arith) in
          let is : put.items ≡ values_at (set items k put) k = sym (ap (λ (o : Option (Vec V Global)). values_in o) (set_at items k put within)) in
          subst (λ (n : ℕ). IsOrdered eq cmp (values_at old n) (values_at (set items k put) n)) last
          (subst (λ (vs : List V). IsOrdered eq cmp vs (values_at (set items k put) k)) was
          (subst (λ (vs : List V). IsOrdered eq cmp group.items vs) is one)))
    ];
    others = λ number past.
        ap (λ (o : Option (Vec V Global)). values_in o) (set_other items k number put (λ same. omega (arith, same, past)))
        ∙ before.others number (omega (arith, past));
  }

  -- all of them
  pub all_ordered : (old new : List (Vec V Global)) (limit : ℕ) → length old ≤ limit → AreOrderedBelow old new limit → AreOrdered eq cmp old new
  all_ordered old new limit all done = record {
    each = λ number. elim (cases_lt number limit) [
      | inl less ↦ done.below number less
      | inr past ↦ (
          let none : values_at old number ≡ [] = ap (λ (o : Option (Vec V Global)). values_in o) (slice_get_past old number (omega (arith, all, past))) in
          subst (λ (vs : List V). IsOrdered eq cmp (values_at old number) vs) (sym (done.others number (omega (arith, past)))) (nothing_ordered (values_at old number) none))
    ];
  }
