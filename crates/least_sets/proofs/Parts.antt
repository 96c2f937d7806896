-- The parts of facts: no more of them that differ are derivable than a least list has.
use Rattle.std.proofs.Common.{◌≡◌, ℕ, ◌≤◌, List, [], ◌∷◌, length, Option, Some, None, refl, sym, ◌∙◌, ap, subst, arith, inl, inr, ◌⊎◌}
use Rattle.std.specs.List.{Contains, All, cons_option}
use Rattle.std.proofs.lemmas.List.Elements.{All-contains}
use Rattle.list_laws.proofs.Members.{all_from_contains, contains_cases, contains_first, contains_later, contains_none}
use Rattle.least_sets.specs.Rules.{IsDerivable, IsLeast, IsWithoutDoubles}
use Rattle.least_sets.specs.Parts.{HasAtLeast, parts_of}
use Rattle.least_sets.proofs.Least.{derivable_in_least}
use Rattle.least_sets.proofs.Pigeons.{length-le_from_apart}

-- ---- what the parts are

part_later : {G : Type 0} (o : Option G) (parts : List G) (p : G) → Contains parts p → Contains (cons_option o parts) p
part_later None parts p there = there
part_later (Some q) parts p there = contains_later q p parts there

-- the part of a fact is one of the parts
pub part_there : {F G : Type 0} (part : F → Option G) (facts : List F) (fact : F) (p : G) → Contains facts fact → part fact ≡ Some p → Contains (parts_of part facts) p
part_there part [] fact p c e = absurd (contains_none fact c)
part_there {F = F} {G = G} part (x ∷ xs) fact p c e = by (λ there. part_there part xs fact p there e) (contains_cases x fact xs c)
  where
    by : (Contains xs fact → Contains (parts_of part xs) p) → (x ≡ fact) ⊎ Contains xs fact → Contains (cons_option (part x) (parts_of part xs)) p
    by among (inl here) = subst (λ (o : Option G). Contains (cons_option o (parts_of part xs)) p) (sym (ap part here ∙ e)) (contains_first p (parts_of part xs))
    by among (inr there) = part_later (part x) (parts_of part xs) p (among there)

-- A fact of the list has the part.
abbrev pub HasPart : {F G : Type 0} → (F → Option G) → List F → G → Type 0
HasPart {F} part facts p = (fact : F) × Contains facts fact × (part fact ≡ Some p)

has_later : {F G : Type 0} (part : F → Option G) (x : F) (xs : List F) (p : G) → HasPart part xs p → HasPart part (x ∷ xs) p
has_later part x xs p h = (h.0, contains_later x h.0 xs h.1, h.2)

-- each of the parts is that of a fact
pub fact_of_part : {F G : Type 0} (part : F → Option G) (facts : List F) (p : G) → Contains (parts_of part facts) p → HasPart part facts p
fact_of_part part [] p c = absurd (contains_none p c)
fact_of_part {F = F} {G = G} part (x ∷ xs) p c = by (λ there. has_later part x xs p (fact_of_part part xs p there)) (part x) refl c
  where
    at : (Contains (parts_of part xs) p → HasPart part (x ∷ xs) p) → (q : G) → part x ≡ Some q → (q ≡ p) ⊎ Contains (parts_of part xs) p → HasPart part (x ∷ xs) p
    at back q e (inl here) = (x, contains_first x xs, e ∙ ap Some here)
    at back q e (inr there) = back there

    by : (Contains (parts_of part xs) p → HasPart part (x ∷ xs) p) → (o : Option G) → part x ≡ o → Contains (cons_option o (parts_of part xs)) p → HasPart part (x ∷ xs) p
    by back None e there = back there
    by back (Some q) e there = at back q e (contains_cases q p (parts_of part xs) there)

-- facts that stand in another list have their parts there
pub parts_within : {F G : Type 0} (part : F → Option G) (facts others : List F) → ((fact : F) → Contains facts fact → Contains others fact)
    → All (Contains (parts_of part others)) (parts_of part facts)
parts_within part facts others within =
    all_from_contains (Contains (parts_of part others)) (parts_of part facts) (λ p c.
    let of = fact_of_part part facts p c in
    part_there part others of.0 p (within of.0 of.1) of.2)

-- where the part is the fact, the parts are the facts
pub parts_of_all : {F : Type 0} (facts : List F) → parts_of Some facts ≡ facts
parts_of_all [] = refl
parts_of_all {F} (x ∷ xs) = ap (λ (ys : List F). x ∷ ys) (parts_of_all xs)

-- ---- how many differ

-- a least list has no fewer parts than there are derivable ones that differ
pub at_least_parts : {F G : Type 0} (I : List F → F → Type 0) (part : F → Option G) (least : List F) (n : ℕ) → IsLeast I least → HasAtLeast I part n → n ≤ length (parts_of part least)
at_least_parts I part least n is_least many =
    let within = parts_within part many.facts least (λ fact c. derivable_in_least I least is_least fact (All-contains (IsDerivable I) many.facts fact many.derivable c)) in
    let short = length-le_from_apart (parts_of part least) (parts_of part many.facts) many.apart within in
    omega (arith, many.count)

-- the same of the facts themselves
pub at_least_facts : {F : Type 0} (I : List F → F → Type 0) (least : List F) (n : ℕ) → IsLeast I least → HasAtLeast I Some n → n ≤ length least
at_least_facts {F} I least n is_least many = subst (λ (xs : List F). n ≤ length xs) (parts_of_all least) (at_least_parts I Some least n is_least many)

-- a least list whose parts differ shows that this many are derivable
pub HasAtLeast-least : {F G : Type 0} (I : List F → F → Type 0) (part : F → Option G) (least : List F) → IsLeast I least → IsWithoutDoubles (parts_of part least) → HasAtLeast I part (length (parts_of part least))
HasAtLeast-least I part least is_least apart = record { facts = least; derivable = is_least.derivable; apart = apart; count = refl }
