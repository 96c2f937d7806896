-- What is known of classes by name, and that demands speak of no more.
use Rattle.std.proofs.Common.{◌≡◌, ℕ, zero, suc, Bool, true, false, List, [], ◌∷◌, length, map, Some, All, Contains, Result, Ok, Err, refl, sym, ◌∙◌, ap, subst, arith, inl, inr}
use mathlib.Core.Bool.{beq}
use Rattle.std.specs.List.{slice_get, flat_map}
use Rattle.std.proofs.lemmas.List.Elements.{All-nil, All-cons, All-head, All-tail, All-append}
use Rattle.std.proofs.lemmas.Option.{same_Some, none-some}
use Rattle.jvm_model.specs.declared.reason.Refusal.{Refusal}
use Rattle.jvm_model.specs.Linking.{Claim, Demand, differs, is_there, of_kind, no_cycle, AreMet, IsFirstUnmet, Meets}
use Rattle.jvm_model.specs.Programs.{Class, Program}
use Rattle.failure.specs.declared.Failure.{Failure}
use Rattle.program_model.specs.declared.link_failure.LinkFault.{LinkFault}
use Rattle.failure.specs.declared.Failure.TheVariants.{Cause}
use Rattle.program_model.specs.declared.link_failure.LinkFault.TheVariants.{Refused}
use Rattle.program_linking.specs.Claims.{TellsEndOrLarge, TellsClaimsOrLarge, known_class, known_classes, known_program, known_part, Knows, IsKnownAs, IsFlat}
use Rattle.program_index.specs.FirstPlaces.{StandsNowhere}
use Rattle.program_index.proofs.OrderPlaces.{contains_at, place_of}
use Rattle.program_index.proofs.ListPlaces.{map_at, at_map}

-- ---- what stands in a list

pub nowhere_not : {X : Type 0} (xs : List X) (x : X) → StandsNowhere xs x → Contains xs x → ⊥
nowhere_not xs x none has = let at = place_of xs x has in none.nowhere at.0 at.1

-- ---- names and kinds side by side

pub known_names : (names : List (List ℕ)) (kinds : List Bool) → length names ≡ length kinds → map (λ (c : Class). c.name) (known_classes names kinds) ≡ names
known_names [] [] e = refl
known_names [] (k ∷ kinds) e = refl
known_names (n ∷ names) [] e = absurd (omega (arith, e))
known_names (n ∷ names) (k ∷ kinds) e = ap (λ (ns : List (List ℕ)). n ∷ ns) (known_names names kinds (omega (arith, e)))

pub known_place : (names : List (List ℕ)) (kinds : List Bool) (j : ℕ) (c : Class) → slice_get (known_classes names kinds) j ≡ Some c
    → (slice_get names j ≡ Some c.name) × (slice_get kinds j ≡ Some c.is_interface)
known_place [] kinds j c e = absurd (none-some c e)
known_place (n ∷ names) [] j c e = absurd (none-some c e)
known_place (n ∷ names) (k ∷ kinds) zero c e = let is = same_Some _ _ e in (ap (λ (d : Class). Some d.name) is, ap (λ (d : Class). Some d.is_interface) is)
known_place (n ∷ names) (k ∷ kinds) (suc j) c e = known_place names kinds j c e

module _ (names : List (List ℕ)) (kinds : List Bool) (long : length names ≡ length kinds) where
  pub no_kind : (name : List ℕ) → StandsNowhere names name → Meets (known_program names kinds) (is_there name) → ⊥
  no_kind name none has = nowhere_not names name none (subst (λ (ns : List (List ℕ)). Contains ns name) (known_names names kinds long) has)

  pub has_kind : (name : List ℕ) (place : ℕ) (kind : Bool) → slice_get names place ≡ Some name → slice_get kinds place ≡ Some kind
      → ((number : ℕ) → slice_get names number ≡ Some name → Some place ≡ Some number) → IsKnownAs (known_program names kinds) name kind
  has_kind name place kind stands is only = record {
    there = subst (λ (ns : List (List ℕ)). Contains ns name) (sym (known_names names kinds long)) (contains_at names place name stands);
    only = λ c has named.
        let at = place_of (known_classes names kinds) c has in
        let parts = known_place names kinds at.0 c at.1 in
        let same : place ≡ at.0 = same_Some _ _ (only at.0 (parts.0 ∙ ap Some named)) in
        same_Some _ _ (sym parts.1 ∙ sym (ap (slice_get kinds) same) ∙ is);
  }

-- a kind that is there is the only one
pub other_kind : (p : Program) (name : List ℕ) (kind wanted : Bool) → IsKnownAs p name kind → (kind ≡ wanted → ⊥) → Meets p (of_kind wanted name) → ⊥
other_kind p name kind wanted has differs' meets =
    let at = place_of (map (λ (c : Class). c.name) p.classes) name has.there in
    let c = map_at (λ (c : Class). c.name) p.classes at.0 name at.1 in
    let in' = contains_at p.classes at.0 c.0 c.1 in
    differs' (sym (has.only c.0 in' c.2) ∙ meets c.0 in' c.2)

-- ---- programs that meet the same demands

pub record SameDemands (p q : Program) : Type 0 where
  pub to : (d : Demand) → IsFlat d → Meets p d → Meets q d
  pub from : (d : Demand) → IsFlat d → Meets q d → Meets p d

abbrev pub IsFlatClaim : Claim → Type 0
IsFlatClaim c = IsFlat c.demand

pub all_met_same : (p q : Program) (claims : List Claim) → SameDemands p q → All IsFlatClaim claims → AreMet p claims → AreMet q claims
all_met_same p q [] same flat met = All-nil (λ (c : Claim). Meets q c.demand)
all_met_same p q (c ∷ claims) same flat met =
    All-cons (λ (c : Claim). Meets q c.demand) c claims (same.to c.demand (All-head IsFlatClaim c claims flat) (All-head (λ (c : Claim). Meets p c.demand) c claims met))
    (all_met_same p q claims same (All-tail IsFlatClaim c claims flat) (All-tail (λ (c : Claim). Meets p c.demand) c claims met))

pub unmet_same : (p q : Program) (r : Refusal) (claims : List Claim) → SameDemands p q → All IsFlatClaim claims → IsFirstUnmet p r claims → IsFirstUnmet q r claims
unmet_same p q r [] same flat h = h
unmet_same p q r (c ∷ claims) same flat (inl h) = inl ((λ meets. h.0 (same.from c.demand (All-head IsFlatClaim c claims flat) meets)), h.1)
unmet_same p q r (c ∷ claims) same flat (inr h) =
    inr (same.to c.demand (All-head IsFlatClaim c claims flat) h.0, unmet_same p q r claims same (All-tail IsFlatClaim c claims flat) h.1)

pub end_same : (Large : Type 0) (p q : Program) (claims : List Claim) (e : Failure LinkFault) → SameDemands p q → All IsFlatClaim claims → TellsEndOrLarge Large p claims e → TellsEndOrLarge Large q claims e
end_same Large p q claims (Cause (Refused r)) same flat h = unmet_same p q r claims same flat h
end_same Large p q claims _ same flat h = h

pub tells_same : {X : Type 0} (Large : Type 0) (p q : Program) (claims : List Claim) (r : Result X (Failure LinkFault)) → SameDemands p q → All IsFlatClaim claims → TellsClaimsOrLarge Large p claims r → TellsClaimsOrLarge Large q claims r
tells_same Large p q claims (Ok x) same flat h = all_met_same p q claims same flat h
tells_same Large p q claims (Err e) same flat h = end_same Large p q claims e same flat h

-- claims that are flat
pub flat_map_flat : {X : Type 0} (f : X → List Claim) → ((x : X) → All IsFlatClaim (f x)) → (xs : List X) → All IsFlatClaim (flat_map f xs)
flat_map_flat f each [] = All-nil IsFlatClaim
flat_map_flat f each (x ∷ xs) = All-append IsFlatClaim (f x) (flat_map f xs) (each x) (flat_map_flat f each xs)

pub map_flat : {X : Type 0} (f : X → Claim) → ((x : X) → IsFlatClaim (f x)) → (xs : List X) → All IsFlatClaim (map f xs)
map_flat f each [] = All-nil IsFlatClaim
map_flat f each (x ∷ xs) = All-cons IsFlatClaim (f x) (map f xs) (each x) (map_flat f each xs)

-- ---- the part that is known

abbrev pub known_of : Class → Class
known_of c = known_class c.name c.is_interface

same_names : (cs : List Class) → map (λ (c : Class). c.name) (map known_of cs) ≡ map (λ (c : Class). c.name) cs
same_names [] = refl
same_names (c ∷ cs) = ap (λ (ns : List (List ℕ)). c.name ∷ ns) (same_names cs)

known_to : (p : Program) (d : Demand) → IsFlat d → Meets (known_part p) d → Meets p d
known_to p (differs earlier name) flat h = h
known_to p (is_there name) flat h = subst (λ (ns : List (List ℕ)). Contains ns name) (same_names p.classes) h
known_to p (of_kind kind name) flat h = λ c has named.
    let at = place_of p.classes c has in
    h (known_of c) (contains_at (map known_of p.classes) at.0 (known_of c) (at_map known_of p.classes at.0 c at.1)) named
known_to p (no_cycle name) flat h = absurd flat

known_from : (p : Program) (d : Demand) → IsFlat d → Meets p d → Meets (known_part p) d
known_from p (differs earlier name) flat h = h
known_from p (is_there name) flat h = subst (λ (ns : List (List ℕ)). Contains ns name) (sym (same_names p.classes)) h
known_from p (of_kind kind name) flat h = λ c has named.
    let at = place_of (map known_of p.classes) c has in
    let old = map_at known_of p.classes at.0 c at.1 in
    let is_named = ap (λ (d : Class). d.name) old.2 in
    sym (ap (λ (d : Class). d.is_interface) old.2) ∙ h old.0 (contains_at p.classes at.0 old.0 old.1) (is_named ∙ named)
known_from p (no_cycle name) flat h = absurd flat

pub known_same : (known p : Program) → Knows known p → SameDemands known p
known_same known p knows =
    subst (λ (k : Program). SameDemands k p) (sym knows.same) (record { to = known_to p; from = known_from p })

-- two truth values that agree
pub same_bool : (a b : Bool) → beq a b ≡ true → a ≡ b
same_bool true true e = refl
same_bool false false e = refl
same_bool true false e = cc
same_bool false true e = cc

pub not_same_bool : (a b : Bool) → beq a b ≡ false → a ≡ b → ⊥
not_same_bool true true e is = cc
not_same_bool false false e is = cc
not_same_bool true false e is = cc
not_same_bool false true e is = cc
