-- Walks over the list of a number, which may grow meanwhile.
use Rattle.std.proofs.Common.{◌≡◌, ◌∙◌, ◌⊎◌, inl, inr, ℕ, suc, ◌<◌, ◌≤◌, List, [], ◌∷◌, ◌++◌, length, Option, None, Some, sym, ap, subst, arith}
use Rattle.std.specs.List.{Contains, slice_get}
use Rattle.std.proofs.lemmas.Bool.{cases_lt, cases_eq}
use Rattle.std.proofs.lemmas.Option.{none-some, same_Some, slice_get_within}
use Rattle.list_laws.proofs.Places.{contains_at, in_longer, place_of, push_cases, pushed_at, stands_below}
use Rattle.chained_lists.specs.declared.place.Place.{Place}
use Rattle.chained_lists.specs.Entries.{Entry, HasNoneFrom, IsFront, IsNext, IsOn, IsPlace, IsWalked, entry, passed}

-- ---- lists that grow

pub front_none : (es : List Entry) → IsFront es es
front_none es = record { stays = λ k e at. at }

pub front_more : (a b c : List Entry) → IsFront a b → IsFront b c → IsFront a c
front_more a b c first second = record { stays = λ k e at. second.stays k e (first.stays k e at) }

pub front_one : (old new : List Entry) (e : Entry) → new ≡ old ++ e ∷ [] → IsFront old new
front_one old new e is = record { stays = λ k a at. subst (λ (es : List Entry). slice_get es k ≡ Some a) (sym is) (in_longer old (e ∷ []) k a at) }

pub contained_still : (old new : List Entry) → IsFront old new → (number value : ℕ) → Contains old (entry number value) → Contains new (entry number value)
contained_still old new front number value there =
    let place = place_of old (entry number value) there in
    contains_at new place.0 (entry number value) (front.stays place.0 (entry number value) place.1)

-- what is added, and what was there or is that
pub added_there : (old new : List Entry) (number value : ℕ) → new ≡ old ++ entry number value ∷ [] → Contains new (entry number value)
added_there old new number value is =
    subst (λ (es : List Entry). Contains es (entry number value)) (sym is) (contains_at (old ++ entry number value ∷ []) (length old) (entry number value) (pushed_at old (entry number value)))

pub added_cases : (old new : List Entry) (number value : ℕ) → new ≡ old ++ entry number value ∷ [] → (q v : ℕ) → Contains new (entry q v) → Contains old (entry q v) ⊎ ((q ≡ number) × (v ≡ value))
added_cases old new number value is q v there = by (push_cases old (entry number value) place.0 (entry q v) (subst (λ (es : List Entry). slice_get es place.0 ≡ Some (entry q v)) is place.1))
  where
    place : (k : ℕ) × (slice_get new k ≡ Some (entry q v))
    place = place_of new (entry q v) there

    by : (slice_get old place.0 ≡ Some (entry q v)) ⊎ ((place.0 ≡ length old) × (entry q v ≡ entry number value)) → Contains old (entry q v) ⊎ ((q ≡ number) × (v ≡ value))
    by (inl at) = inl (contains_at old place.0 (entry q v) at)
    by (inr last) = inr (ap (λ (e : Entry). e.number) last.1, ap (λ (e : Entry). e.value) last.1)

-- ---- walks

pub on_none : (es : List Entry) (number : ℕ) → IsOn es number None
on_none es number = record { place = λ p is. absurd (none-some p is) }

pub on_place : (old new : List Entry) → IsFront old new → (number : ℕ) (p : Place) → IsPlace old number p.0 → IsOn new number (Some p)
on_place old new front number p is = record {
  place = λ q same.
      subst (λ (a : Place). IsPlace new number a.0) (same_Some p q same) (record { value = is.value; at = front.stays p.0 (entry number is.value) is.at });
}

-- a walk begins
pub walk_begins : (P : ℕ → Type 0) (es : List Entry) (number : ℕ) → IsWalked P es number None
walk_begins P es number = record { on = on_none es number; met = λ k value less at. absurd (omega (arith, less)) }

-- a walk comes to a place, and the list grows
pub walk_goes : (P Q : ℕ → Type 0) (old new : List Entry) → IsFront old new → ((value : ℕ) → P value → Q value) → (number : ℕ) (last : Option Place) → IsWalked P old number last → (p : Place)
    → IsNext old number (passed last) p.0 → ((value : ℕ) → slice_get old p.0 ≡ Some (entry number value) → Q value) → IsWalked Q new number (Some p)
walk_goes P Q old new front weaker number last walked p next here = record {
  on = on_place old new front number p next.there;
  met = λ k value less at. met k value (was k (entry number value) less at) less (cases_lt k (passed last)) (cases_eq k p.0);
}
  where
    within : p.0 < length old
    within = slice_get_within old p.0 (entry number next.there.value) next.there.at

    -- what stands at a place that the walk has met stood there before
    was : (k : ℕ) (e : Entry) → k < suc p.0 → slice_get new k ≡ Some e → slice_get old k ≡ Some e
    was k e less at =
        let stood = stands_below old k (omega (arith, less, within)) in
        stood.1 ∙ ap Some (same_Some stood.0 e (sym (front.stays k stood.0 stood.1) ∙ at))

    met : (k value : ℕ) → slice_get old k ≡ Some (entry number value) → k < suc p.0 → (k < passed last) ⊎ (passed last ≤ k) → (k ≡ p.0) ⊎ (k ≡ p.0 → ⊥) → Q value
    met k value at less (inl before) other = weaker value (walked.met k value before at)
    met k value at less (inr from) (inl is) = here value (subst (λ (j : ℕ). slice_get old j ≡ Some (entry number value)) is at)
    met k value at less (inr from) (inr other) = absurd (next.before k value from (omega (arith, less, other)) at)

-- a walk has met all
pub walk_ends : (P : ℕ → Type 0) (es : List Entry) (number : ℕ) (last : Option Place) → IsWalked P es number last → HasNoneFrom es number (passed last) → (value : ℕ)
    → Contains es (entry number value) → P value
walk_ends P es number last walked none value there = by (cases_lt place.0 (passed last))
  where
    place : (k : ℕ) × (slice_get es k ≡ Some (entry number value))
    place = place_of es (entry number value) there

    by : (place.0 < passed last) ⊎ (passed last ≤ place.0) → P value
    by (inl before) = walked.met place.0 value before place.1
    by (inr from) = absurd (none.none place.0 value from place.1)
