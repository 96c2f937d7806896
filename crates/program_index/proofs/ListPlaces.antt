-- The first place of something in a list with one more.
use Rattle.std.proofs.Common.{◌≡◌, ◌≢◌, ℕ, ◌<◌, List, [], ◌∷◌, ◌++◌, length, get_or, Some, sym, ◌∙◌, ap, arith, inl, inr}
use Rattle.std.proofs.lemmas.Option.{slice_get_within, slice_get-get_or, same_Some}
pub use Rattle.list_laws.proofs.Places.{in_longer, pushed_at, push_cases, map_at, at_map}
use Rattle.program_index.specs.FirstPlaces.{IsFirstPlace, StandsNowhere}

-- a list of one more
pub first_in_longer : {X : Type 0} (xs ys : List X) (x : X) (place : ℕ) → IsFirstPlace xs x place → IsFirstPlace (xs ++ ys) x place
first_in_longer xs ys x place is = record {
  stands = in_longer xs ys place x is.stands;
  before = λ i lt e.
      let within : place < length xs = slice_get_within xs place x is.stands in
      let here : i < length xs = omega arith in
      let there = slice_get-get_or xs i x here in
      let same : get_or xs i x ≡ x = same_Some _ _ (sym (in_longer xs ys i (get_or xs i x) there) ∙ e) in
      is.before i lt (there ∙ ap Some same);
}

pub nowhere_in_longer : {X : Type 0} (xs : List X) (y x : X) → StandsNowhere xs x → (x ≢ y) → StandsNowhere (xs ++ y ∷ []) x
nowhere_in_longer xs y x none differs = record {
  nowhere = λ i e. elim (push_cases xs y i x e) [ inl old ↦ none.nowhere i old | inr last ↦ differs last.1 ];
}

pub first_when_new : {X : Type 0} (xs : List X) (x : X) → StandsNowhere xs x → IsFirstPlace (xs ++ x ∷ []) x (length xs)
first_when_new xs x none = record {
  stands = pushed_at xs x;
  before = λ i lt e. elim (push_cases xs x i x e) [ inl old ↦ none.nowhere i old | inr last ↦ absurd (omega (arith, last.0)) ];
}
