-- How a work list grows to a least one: none of its facts stands twice, each follows from those before it, and what follows from the front
-- is there.
use Rattle.std.proofs.Common.{◌≡◌, ℕ, zero, suc, ◌+◌, ◌<◌, ◌≤◌, List, [], ◌∷◌, ◌++◌, length, take, Some, refl, sym, ◌∙◌, ap, subst, arith, inl, inr, ◌⊎◌}
use Rattle.std.specs.List.{slice_get, Contains, All}
use Rattle.std.proofs.lemmas.Option.{slice_get_within, slice_get-get_or, same_Some, none-some}
use Rattle.std.proofs.lemmas.Bool.{cases_lt}
use Rattle.std.proofs.lemmas.List.{take_all}
use Rattle.std.proofs.lemmas.List.Elements.{All-contains}
pub use Rattle.list_laws.proofs.Members.{all_from_front as All-whole}
use Rattle.list_laws.proofs.Places.{contains_at, in_front, place_of, push_cases, stands_below, to_front}
use Rattle.least_sets.specs.Rules.{Hold, Follows, IsDerivation, IsLeast, IsWithoutDoubles}
use Rattle.least_sets.proofs.Derivations.{Hold-larger, All-derivable, Follows-more}

-- Whatever these premises lead to is in the list.
abbrev pub IsKept : {F : Type 0} → (List F → F → Type 0) → List F → List F → Type 0
IsKept {F} Instance facts premises = (fact : F) → Instance premises fact → Contains facts fact

-- The list has each conclusion from the facts up to the number, of which the last one is a premise.
abbrev pub HasConclusions : {F : Type 0} → (List F → F → Type 0) → List F → ℕ → List F → Type 0
HasConclusions {F} Instance facts at conclusions =
    (premises : List F) (popped : F) → slice_get facts at ≡ Some popped → Hold (Contains (take (at + 1) facts)) premises → Contains premises popped → IsKept Instance conclusions premises

-- What stands in the old list stands there in the new one.
abbrev pub Extends : {F : Type 0} → List F → List F → Type 0
Extends {F} old new = (k : ℕ) (fact : F) → slice_get old k ≡ Some fact → slice_get new k ≡ Some fact

pub Contains-extends : {F : Type 0} (old new : List F) → Extends old new → (fact : F) → Contains old fact → Contains new fact
Contains-extends old new grown fact c = let p = place_of old fact c in contains_at new p.0 fact (grown p.0 fact p.1)

-- below the old length both lists have the same
pub back_to : {F : Type 0} (old new : List F) → Extends old new → (k : ℕ) (fact : F) → k < length old → slice_get new k ≡ Some fact → slice_get old k ≡ Some fact
back_to old new grown k fact l e =
    let stands = slice_get-get_or old k fact l in
    stands ∙ sym (grown k _ stands) ∙ e

front_back : {F : Type 0} (old new : List F) → Extends old new → (n : ℕ) → n ≤ length old → (fact : F) → Contains (take n new) fact → Contains (take n old) fact
front_back old new grown n l fact c =
    let p = place_of (take n new) fact c in
    let q = in_front new n p.0 fact p.1 in
    contains_at (take n old) p.0 fact (to_front old n p.0 fact q.0 (back_to old new grown p.0 fact (omega (arith, q.0)) q.1))

pub IsWithoutDoubles-push : {F : Type 0} (facts : List F) (y : F) → IsWithoutDoubles facts → (Contains facts y → ⊥) → IsWithoutDoubles (facts ++ y ∷ [])
IsWithoutDoubles-push facts y apart absent fact i j p q = elim (push_cases facts y i fact p) [
  | inl old_i ↦ elim (push_cases facts y j fact q) [
    | inl old_j ↦ apart fact i j old_i old_j
    | inr new_j ↦ absurd (absent (contains_at facts i y (old_i ∙ ap Some new_j.1)))
  ]
  | inr new_i ↦ elim (push_cases facts y j fact q) [
    | inl old_j ↦ absurd (absent (contains_at facts j y (old_j ∙ ap Some new_i.1)))
    | inr new_j ↦ new_i.0 ∙ sym new_j.0
  ]
]

-- Each conclusion from the first n facts is there.
pub record IsClosedFront {F : Type 0} (I : List F → F → Type 0) (facts : List F) (n : ℕ) : Type 0 where
  pub closed : (premises : List F) (fact : F) → I premises fact → Hold (Contains (take n facts)) premises → Contains facts fact

kept_from_none : {F : Type 0} (I : List F → F → Type 0) (facts : List F) → IsKept I facts [] → (premises : List F) (fact : F) → I premises fact → Hold (Contains []) premises → Contains facts fact
kept_from_none I facts kept [] fact i hold = kept fact i
kept_from_none I facts kept (p ∷ ps) fact i hold = absurd (let l = hold.0.1 in omega arith)

pub IsClosedFront-none : {F : Type 0} (I : List F → F → Type 0) (facts : List F) → IsKept I facts [] → IsClosedFront I facts 0
IsClosedFront-none I facts kept = record { closed = kept_from_none I facts kept }

pub IsClosedFront-extends : {F : Type 0} (I : List F → F → Type 0) (old new : List F) (n : ℕ) → n ≤ length old → Extends old new → IsClosedFront I old n → IsClosedFront I new n
IsClosedFront-extends I old new n l grown h = record {
  closed = λ premises fact i hold. Contains-extends old new grown fact (h.closed premises fact i (Hold-larger (Contains (take n new)) (Contains (take n old)) (front_back old new grown n l) premises hold));
}

-- the premises lie before the last fact of the front, or that fact is one of them
last_or_not : {F : Type 0} (facts : List F) (n : ℕ) (popped : F) → slice_get facts n ≡ Some popped → (premises : List F) → Hold (Contains (take (n + 1) facts)) premises
    → Hold (Contains (take n facts)) premises ⊎ Contains premises popped
last_or_not facts n popped e [] hold = inl tt
last_or_not facts n popped e (p ∷ ps) hold =
    let at = place_of (take (n + 1) facts) p hold.0 in
    let q = in_front facts (n + 1) at.0 p at.1 in
    elim (last_or_not facts n popped e ps hold.1) [
      | inr there ↦ inr (suc there.0, (let l = there.1 in omega arith), there.2)
      | inl before ↦ elim (cases_lt at.0 n) [
        | inl less ↦ inl (contains_at (take n facts) at.0 p (to_front facts n at.0 p less q.1), before)
        | inr last ↦
            let at_n : at.0 ≡ n = (let l = q.0 in omega arith) in
            inr (0, omega arith, same_Some _ _ (sym q.1 ∙ ap (λ (k : ℕ). slice_get facts k) at_n ∙ e))
      ]
    ]

-- one more fact in front
pub IsClosedFront-more : {F : Type 0} (I : List F → F → Type 0) (old new : List F) (n : ℕ) (conclusions : List F) → n + 1 ≤ length old → Extends old new
    → IsClosedFront I new n → HasConclusions I old n conclusions → All (Contains new) conclusions → IsClosedFront I new (n + 1)
IsClosedFront-more {F} I old new n conclusions l grown h has held = record {
  closed = λ premises fact i hold.
      let known = stands_below old n (omega arith) in
      let hold_old = Hold-larger (Contains (take (n + 1) new)) (Contains (take (n + 1) old)) (front_back old new grown (n + 1) l) premises hold in
      elim (last_or_not new n known.0 (grown n known.0 known.1) premises hold) [
        | inl before ↦ h.closed premises fact i before
        | inr last ↦ All-contains (Contains new) conclusions fact held (has premises known.0 known.1 hold_old last fact i)
      ];
}

pub length_extends : {F : Type 0} (old new : List F) (at : ℕ) → at < length old → Extends old new → at + 1 ≤ length new
length_extends old new at l grown =
    let known = stands_below old at l in omega (arith, slice_get_within new at known.0 (grown at known.0 known.1))

-- the fronts are the same
pub take_extends : {F : Type 0} (old new : List F) → Extends old new → (n : ℕ) → n ≤ length old → take n new ≡ take n old
take_extends old new grown zero l = refl
take_extends [] new grown (suc n) l = absurd (omega arith)
take_extends (x ∷ xs) [] grown (suc n) l = absurd (none-some x (grown 0 x refl))
take_extends {F} (x ∷ xs) (y ∷ ys) grown (suc n) l =
    let heads : y ≡ x = same_Some _ _ (grown 0 x refl) in
    let tails : take n ys ≡ take n xs = take_extends xs ys (λ k fact e. grown (suc k) fact e) n (omega arith) in cc

-- a derivation whose front is closed is least where all is done
pub IsLeast-solved : {F : Type 0} (I : List F → F → Type 0) (facts : List F) (n : ℕ) → IsDerivation I facts → IsClosedFront I facts n → length facts ≤ n → IsLeast I facts
IsLeast-solved {F} I facts n derived front l = record {
  closed = λ premises fact i hold. front.closed premises fact i (subst (λ (xs : List F). Hold (Contains xs) premises) (sym (take_all n facts l)) hold);
  derivable = All-derivable I facts derived;
}

-- what follows from the old front follows from the longer list
pub Follows-later : {F : Type 0} (I : List F → F → Type 0) (old new : List F) (n : ℕ) (fact : F) → Extends old new → Follows I (take n old) fact → Follows I new fact
Follows-later I old new n fact grown f = Follows-more I (take n old) new fact (λ x c.
    let p = place_of (take n old) x c in
    let q = in_front old n p.0 x p.1 in contains_at new p.0 x (grown p.0 x q.1)) f
