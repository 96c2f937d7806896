-- Reasons of longer lists, and that a list with reasons is a derivation.
use Rattle.std.proofs.Common.{◌≡◌, ℕ, List, [], ◌∷◌, ◌++◌, length, map, take, Option, Some, refl, sym, ap, subst, arith, inl, inr, ◌⊎◌}
use Rattle.std.specs.List.{Contains, slice_get}
use Rattle.std.proofs.lemmas.List.{length-append, take-append-le}
use Rattle.std.proofs.lemmas.Option.{none-some, same_Some, slice_get_within}
use Rattle.list_laws.proofs.Places.{contains_at, in_longer, push_cases, stands_below, to_front}
use Rattle.least_sets.specs.Rules.{Hold, IsDerivation}
use Rattle.least_sets.proofs.Growing.{Extends}
use Rattle.edge_numbers.specs.Premises.{AreReasons, FollowsFrom, StandAt}

module _ {F : Type 0} where
  first_is : (a b : Option F) (xs ys : List (Option F)) → a ∷ xs ≡ b ∷ ys → a ≡ b
  first_is a b xs ys is = same_Some a b (ap (λ (os : List (Option F)). slice_get os 0) is)

  abbrev tail_of : List (Option F) → List (Option F)
  tail_of [] = []
  tail_of (x ∷ xs) = xs

  rest_is : (a b : Option F) (xs ys : List (Option F)) → a ∷ xs ≡ b ∷ ys → xs ≡ ys
  rest_is a b xs ys is = ap tail_of is

  not_none : (a : Option F) (xs : List (Option F)) → [] ≡ a ∷ xs → ⊥
  not_none a xs is = none-some a (ap (λ (os : List (Option F)). slice_get os 0) is)

  not_one : (a : Option F) (xs : List (Option F)) → a ∷ xs ≡ [] → ⊥
  not_one a xs is = not_none a xs (sym is)

  -- ---- what stands at places

  -- they stand there in a list that has what the other one has
  pub stand_still : (old new : List F) → Extends old new → (places : List ℕ) (these : List F) → StandAt old places these → StandAt new places these
  stand_still old new more [] [] is = refl
  stand_still old new more [] (e ∷ these) is = absurd (not_none (Some e) (map (λ (fact : F). Some fact) these) is)
  stand_still old new more (p ∷ places) [] is = absurd (not_one (slice_get old p) (map (slice_get old) places) is)
  stand_still old new more (p ∷ places) (e ∷ these) is =
      let first = more p e (first_is (slice_get old p) (Some e) (map (slice_get old) places) (map (λ (fact : F). Some fact) these) is) in
      let rest = stand_still old new more places these (rest_is (slice_get old p) (Some e) (map (slice_get old) places) (map (λ (fact : F). Some fact) these) is) in
      λ i. first i ∷ rest i

  pub stand_more : (facts : List F) (p : ℕ) (e : F) → slice_get facts p ≡ Some e → (places : List ℕ) (these : List F) → StandAt facts places these → StandAt facts (p ∷ places) (e ∷ these)
  stand_more facts p e at places these rest = λ i. at i ∷ rest i

  -- and are in the list
  pub stand_hold : (facts : List F) (places : List ℕ) (these : List F) → StandAt facts places these → Hold (Contains facts) these
  stand_hold facts places [] is = tt
  stand_hold facts [] (e ∷ these) is = absurd (not_none (Some e) (map (λ (fact : F). Some fact) these) is)
  stand_hold facts (p ∷ places) (e ∷ these) is = (
    contains_at facts p e (first_is (slice_get facts p) (Some e) (map (slice_get facts) places) (map (λ (fact : F). Some fact) these) is),
    stand_hold facts places these (rest_is (slice_get facts p) (Some e) (map (slice_get facts) places) (map (λ (fact : F). Some fact) these) is),
  )

  -- ---- reasons

  module _ (I : List F → F → Type 0) where
    pub from_still : (old new : List F) → Extends old new → (places : List ℕ) (fact : F) → FollowsFrom I old places fact → FollowsFrom I new places fact
    from_still old new more places fact is = record { premises = is.premises; instance = is.instance; stand = stand_still old new more places is.premises is.stand }

    pub no_reasons : AreReasons I [] []
    no_reasons = record { count = refl; each = λ k fact reason at also. absurd (none-some fact at) }

    -- one more goes last
    pub reasons_more : (facts : List F) (reasons : List (List ℕ)) (fact : F) (reason : List ℕ) → FollowsFrom I facts reason fact → AreReasons I facts reasons
        → AreReasons I (facts ++ fact ∷ []) (reasons ++ reason ∷ [])
    reasons_more facts reasons fact reason follows are = record {
      count =
          let was = are.count in
          let left = length-append reasons (reason ∷ []) in
          let right = length-append facts (fact ∷ []) in
          omega (arith, was, left, right);
      each = λ k f r at also. by k f r (push_cases facts fact k f at) (push_cases reasons reason k r also);
    }
      where
        fresh : (k : ℕ) → k ≡ length facts → FollowsFrom I (take k (facts ++ fact ∷ [])) reason fact
        fresh k is = from_still facts (take k (facts ++ fact ∷ [])) (λ j e at.
            to_front (facts ++ fact ∷ []) k j e (let within = slice_get_within facts j e at in omega (arith, is, within)) (in_longer facts (fact ∷ []) j e at)) reason fact follows

        by : (k : ℕ) (f : F) (r : List ℕ) → (slice_get facts k ≡ Some f) ⊎ ((k ≡ length facts) × (f ≡ fact)) → (slice_get reasons k ≡ Some r) ⊎ ((k ≡ length reasons) × (r ≡ reason))
            → FollowsFrom I (take k (facts ++ fact ∷ [])) r f
        by k f r (inl at) (inl also) =
            subst (λ (xs : List F). FollowsFrom I xs r f) (sym (take-append-le k facts (fact ∷ []) (let within = slice_get_within facts k f at in omega (arith, within)))) (are.each k f r at also)
        by k f r (inl at) (inr last) = absurd (let within = slice_get_within facts k f at in let count = are.count in let end = last.0 in omega (arith, within, count, end))
        by k f r (inr last) (inl also) = absurd (let within = slice_get_within reasons k r also in let count = are.count in let end = last.0 in omega (arith, within, count, end))
        by k f r (inr last) (inr also) =
            subst (λ (g : F). FollowsFrom I (take k (facts ++ fact ∷ [])) r g) (sym last.1)
            (subst (λ (s : List ℕ). FollowsFrom I (take k (facts ++ fact ∷ [])) s fact) (sym also.1) (fresh k last.0))

    -- each fact follows from those before it
    pub reasons_derive : (facts : List F) (reasons : List (List ℕ)) → AreReasons I facts reasons → IsDerivation I facts
    reasons_derive facts reasons are k fact at =
        let reason = stands_below reasons k (let count = are.count in let within = slice_get_within facts k fact at in omega (arith, count, within)) in
        let is = are.each k fact reason.0 at reason.1 in
        record { premises = is.premises; instance = is.instance; hold = stand_hold (take k facts) reason.0 is.premises is.stand }
