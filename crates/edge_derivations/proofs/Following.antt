-- What is needed is marked: each marked place is followed to what its reason names, from the last place down.
use Rattle.std.proofs.Common.{◌≡◌, ◌⊎◌, inl, inr, ℕ, ◌+◌, ◌<◌, ◌≤◌, Bool, true, false, List, [], ◌∷◌, ◌++◌, length, take, drop, replicate, Some, refl, sym, ap, ◌∙◌, subst, arith}
use Rattle.std.specs.List.{Contains, slice_get}
use Rattle.std.proofs.Math.ListN.{length-replicate}
use Rattle.std.proofs.Math.Seq.{take-length}
use Rattle.std.proofs.lemmas.Bool.{cases_eq}
use Rattle.std.proofs.lemmas.List.{get_or-replicate, take-append-le}
use Rattle.std.proofs.lemmas.List.Elements.{Contains-append_left}
use Rattle.std.proofs.lemmas.Option.{get_or_from_slice_get, same_Some, slice_get_within}
use Rattle.list_laws.proofs.Members.{contains_cases, contains_first, contains_later}
use Rattle.edge_derivations.specs.Derived.{IsNeeded}
use Rattle.edge_derivations.specs.Derived.IsNeeded.{at_last, by_reason}
use Rattle.edge_derivations.specs.Marks.{AreFollowed, AreMarkedBefore, AreNeeded, IsMarked}

-- what is lent of a vector, and written, is put in its place
pub written_back : {X : Type 0} (len : ℕ) (new items : List X) → len ≡ length items → length new ≡ length items → take len (new ++ drop (length new) items) ≡ new
written_back len new items full long =
    let same : len ≡ length new = full ∙ sym long in
    take-append-le len new (drop (length new) items) (omega (arith, same)) ∙ ap (λ (n : ℕ). take n new) same ∙ take-length new

-- one is marked, and then another one
pub both_marked : (place one other : ℕ) (old mid new : List Bool) → AreMarkedBefore place (one ∷ []) old mid → AreMarkedBefore place (other ∷ []) mid new
    → AreMarkedBefore place (one ∷ other ∷ []) old new
both_marked place one other old mid new first then = record { long = then.long ∙ first.long; each = λ k. (λ is. to k ((then.each k).0 is), back k) }
  where
    to : (k : ℕ) → IsMarked mid k ⊎ (Contains (other ∷ []) k × (k < place)) → IsMarked old k ⊎ (Contains (one ∷ other ∷ []) k × (k < place))
    to k (inr h) = inr (contains_later one k (other ∷ []) h.0, h.1)
    to k (inl is) = by ((first.each k).0 is)
      where
        by : IsMarked old k ⊎ (Contains (one ∷ []) k × (k < place)) → IsMarked old k ⊎ (Contains (one ∷ other ∷ []) k × (k < place))
        by (inl was) = inl was
        by (inr h) = inr (Contains-append_left (one ∷ []) (other ∷ []) k h.0, h.1)

    back : (k : ℕ) → IsMarked old k ⊎ (Contains (one ∷ other ∷ []) k × (k < place)) → IsMarked new k
    back k (inl was) = (then.each k).1 (inl ((first.each k).1 (inl was)))
    back k (inr h) = by (contains_cases one k (other ∷ []) h.0)
      where
        by : (one ≡ k) ⊎ Contains (other ∷ []) k → IsMarked new k
        by (inl same) = (then.each k).1 (inl ((first.each k).1 (inr (subst (λ (n : ℕ). Contains (one ∷ []) n) same (contains_first one []), h.1))))
        by (inr later) = (then.each k).1 (inr (later, h.1))

none_marked : (n k : ℕ) → IsMarked (replicate n false) k → ⊥
none_marked n k is =
    let within = slice_get_within (replicate n false) k true is in
    let long = length-replicate n false in
    let read = get_or_from_slice_get (replicate n false) k true false is in
    let other = get_or-replicate n k false false (omega (arith, within, long)) in
    let wrong : false ≡ true = sym other ∙ read in
    cc

-- what is named of a place whose reason was followed is marked
named_here : (reasons : List (List ℕ)) (place : ℕ) (reason : List ℕ) (old new : List Bool) → slice_get reasons place ≡ Some reason → AreMarkedBefore place reason old new
    → (q : ℕ) (given : List ℕ) → q ≡ place → slice_get reasons q ≡ Some given → (k : ℕ) → Contains given k → k < q → IsMarked new k
named_here reasons place reason old new at marked q given same also k there less =
    let one : given ≡ reason = same_Some given reason (sym also ∙ ap (slice_get reasons) same ∙ at) in
    (marked.each k).1 (inr (subst (λ (r : List ℕ). Contains r k) one there, subst (λ (n : ℕ). k < n) same less))

module _ (reasons : List (List ℕ)) (last : ℕ) where
  -- where nothing was marked, what is named of the last place is
  pub first_followed : (reason : List ℕ) (new : List Bool) → slice_get reasons last ≡ Some reason → AreMarkedBefore last reason (replicate last false) new → AreFollowed reasons last last new
  first_followed reason new at marked = record { long = long; needed = λ k is. need k ((marked.each k).0 is); named = name }
    where
      long : length new ≡ last
      long = marked.long ∙ length-replicate last false

      need : (k : ℕ) → IsMarked (replicate last false) k ⊎ (Contains reason k × (k < last)) → IsNeeded reasons last k
      need k (inl is) = absurd (none_marked last k is)
      need k (inr h) = by_reason last reason k at_last at h.0 h.1

      name : (place : ℕ) (given : List ℕ) → last ≤ place → (place ≡ last) ⊎ IsMarked new place → slice_get reasons place ≡ Some given
          → (k : ℕ) → Contains given k → k < place → IsMarked new k
      name place given from (inr is) also k there less = absurd (let within = slice_get_within new place true is in omega (arith, from, within, long))
      name place given from (inl same) also k there less = named_here reasons last reason (replicate last false) new at marked place given same also k there less

  -- what a marked place's reason names is marked too
  pub followed_more : (from place : ℕ) (reason : List ℕ) (old new : List Bool) → from ≡ place + 1 → IsMarked old place → slice_get reasons place ≡ Some reason
      → AreMarkedBefore place reason old new → AreFollowed reasons last from old → AreFollowed reasons last place new
  followed_more from place reason old new next here at marked was = record { long = marked.long ∙ was.long; needed = λ k is. need k ((marked.each k).0 is); named = name }
    where
      need : (k : ℕ) → IsMarked old k ⊎ (Contains reason k × (k < place)) → IsNeeded reasons last k
      need k (inl is) = was.needed k is
      need k (inr h) = by_reason place reason k (was.needed place here) at h.0 h.1

      old_too : (q : ℕ) → place < q → (q ≡ last) ⊎ IsMarked new q → (q ≡ last) ⊎ IsMarked old q
      old_too q behind (inl same) = inl same
      old_too q behind (inr is) = by ((marked.each q).0 is)
        where
          by : IsMarked old q ⊎ (Contains reason q × (q < place)) → (q ≡ last) ⊎ IsMarked old q
          by (inl kept) = inr kept
          by (inr h) = absurd (let before = h.1 in omega (arith, before, behind))

      name : (q : ℕ) (given : List ℕ) → place ≤ q → (q ≡ last) ⊎ IsMarked new q → slice_get reasons q ≡ Some given → (k : ℕ) → Contains given k → k < q → IsMarked new k
      name q given upto is also k there less = by (cases_eq q place)
        where
          by : (q ≡ place) ⊎ (q ≡ place → ⊥) → IsMarked new k
          by (inl same) = named_here reasons place reason old new at marked q given same also k there less
          by (inr other) = (marked.each k).1 (inl (was.named q given (omega (arith, next, upto, other)) (old_too q (omega (arith, upto, other)) is) also k there less))

  -- a place that is not marked is passed over
  pub followed_still : (from place : ℕ) (marks : List Bool) → from ≡ place + 1 → place < last → slice_get marks place ≡ Some false → AreFollowed reasons last from marks → AreFollowed reasons last place marks
  followed_still from place marks next within free was = record { long = was.long; needed = was.needed; named = name }
    where
      name : (q : ℕ) (given : List ℕ) → place ≤ q → (q ≡ last) ⊎ IsMarked marks q → slice_get reasons q ≡ Some given → (k : ℕ) → Contains given k → k < q → IsMarked marks k
      name q given upto is also k there less = by (cases_eq q place) is
        where
          by : (q ≡ place) ⊎ (q ≡ place → ⊥) → (q ≡ last) ⊎ IsMarked marks q → IsMarked marks k
          by (inr other) either = was.named q given (omega (arith, next, upto, other)) either also k there less
          by (inl same) (inl end) = absurd (omega (arith, same, end, within))
          by (inl same) (inr marked) = absurd (let wrong : true ≡ false = same_Some true false (sym marked ∙ ap (slice_get marks) same ∙ free) in cc)

  -- once all marked places are followed, all that are needed are marked
  pub all_followed : (from : ℕ) (marks : List Bool) → from ≤ 0 → AreFollowed reasons last from marks → AreNeeded reasons last marks
  all_followed from marks down were = record { long = were.long; each = λ k. (λ is. (were.needed k is, within k is), λ h. before k h.1 (complete k h.0)) }
    where
      within : (k : ℕ) → IsMarked marks k → k < last
      within k is = let inside = slice_get_within marks k true is in let long = were.long in omega (arith, inside, long)

      complete : (k : ℕ) → IsNeeded reasons last k → (k ≡ last) ⊎ IsMarked marks k
      complete k at_last = inl refl
      complete k (by_reason place reason named needed at there less) = inr (were.named place reason (omega (arith, down)) (complete place needed) at k there less)

      before : (k : ℕ) → k < last → (k ≡ last) ⊎ IsMarked marks k → IsMarked marks k
      before k less (inl same) = absurd (omega (arith, less, same))
      before k less (inr is) = is
