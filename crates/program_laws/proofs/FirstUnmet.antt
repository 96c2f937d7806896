-- Of claims that hold alike of two programs the first one that is not met is one.
use Rattle.std.proofs.Common.{◌≡◌, List, [], ◌∷◌, ◌++◌, sym, ◌∙◌, inl, inr, ◌⊎◌}
use Rattle.std.specs.List.{All}
use Rattle.std.proofs.lemmas.List.Elements.{All-nil, All-cons, All-head, All-tail}
use Rattle.jvm_model.specs.declared.reason.Refusal.{Refusal}
use Rattle.jvm_model.specs.Programs.{Program}
use Rattle.jvm_model.specs.Linking.{Claim, Meets, IsFirstUnmet, AreMet}

-- the claim is met in the one program if it is in the other
pub record IsAlike (p q : Program) (c : Claim) : Type 0 where
  pub to : Meets p c.demand → Meets q c.demand
  pub back : Meets q c.demand → Meets p c.demand

abbrev pub Alike : Program → Program → List Claim → Type 0
Alike p q claims = All (λ (c : Claim). IsAlike p q c) claims

pub alike_itself : (p : Program) (claims : List Claim) → Alike p p claims
alike_itself p claims = λ k d lt. record { to = λ met. met; back = λ met. met }

abbrev IsMet : Program → Claim → Type 0
IsMet p c = Meets p c.demand

pub first_met : (p : Program) (c : Claim) (claims : List Claim) → AreMet p (c ∷ claims) → Meets p c.demand
first_met p c claims met = All-head (IsMet p) c claims met

pub others_met : (p : Program) (c : Claim) (claims : List Claim) → AreMet p (c ∷ claims) → AreMet p claims
others_met p c claims met = All-tail (IsMet p) c claims met

-- ---- one after another

pub front_met : (p : Program) (front claims : List Claim) → AreMet p (front ++ claims) → AreMet p front
front_met p [] claims met = All-nil (IsMet p)
front_met p (c ∷ front) claims met = All-cons (IsMet p) c front (first_met p c (front ++ claims) met) (front_met p front claims (others_met p c (front ++ claims) met))

pub back_met : (p : Program) (front claims : List Claim) → AreMet p (front ++ claims) → AreMet p claims
back_met p [] claims met = met
back_met p (c ∷ front) claims met = back_met p front claims (others_met p c (front ++ claims) met)

-- the first one is in the front, or the front is met
pub in_front : (p : Program) (r : Refusal) (front claims : List Claim) → IsFirstUnmet p r (front ++ claims) → IsFirstUnmet p r front ⊎ AreMet p front
in_front p r [] claims unmet = inr (All-nil (IsMet p))
in_front p r (c ∷ front) claims (inl first) = inl (inl first)
in_front p r (c ∷ front) claims (inr later) = by (in_front p r front claims later.1)
  where
    by : IsFirstUnmet p r front ⊎ AreMet p front → IsFirstUnmet p r (c ∷ front) ⊎ AreMet p (c ∷ front)
    by (inl unmet) = inl (inr (later.0, unmet))
    by (inr met) = inr (All-cons (IsMet p) c front later.0 met)

-- ---- there is one

pub one_unmet : (p q : Program) (r s : Refusal) (claims : List Claim) → Alike p q claims → IsFirstUnmet p r claims → IsFirstUnmet q s claims → r ≡ s
one_unmet p q r s [] alike x y = absurd x
one_unmet p q r s (c ∷ claims) alike (inl x) (inl y) = x.1 ∙ sym y.1
one_unmet p q r s (c ∷ claims) alike (inl x) (inr y) = absurd (x.0 ((All-head (IsAlike p q) c claims alike).back y.0))
one_unmet p q r s (c ∷ claims) alike (inr x) (inl y) = absurd (y.0 ((All-head (IsAlike p q) c claims alike).to x.0))
one_unmet p q r s (c ∷ claims) alike (inr x) (inr y) = one_unmet p q r s claims (All-tail (IsAlike p q) c claims alike) x.1 y.1

pub met_or_unmet : (p q : Program) (r : Refusal) (claims : List Claim) → Alike p q claims → IsFirstUnmet p r claims → AreMet q claims → ⊥
met_or_unmet p q r [] alike x met = x
met_or_unmet p q r (c ∷ claims) alike (inl x) met = x.0 ((All-head (IsAlike p q) c claims alike).back (first_met q c claims met))
met_or_unmet p q r (c ∷ claims) alike (inr x) met = met_or_unmet p q r claims (All-tail (IsAlike p q) c claims alike) x.1 (others_met q c claims met)
