-- A class is below another one, or is not: the steps upward from class to class start at finitely many names.
use Rattle.std.proofs.Common.{◌≡◌, ◌⊎◌, inl, inr, ℕ, Bool, false, List, [], ◌∷◌, map, cond, Some, refl, sym, ap, ◌∙◌, subst}
use Rattle.std.specs.Prelude.{Contains, find}
use Rattle.std.specs.Str.{bytes_eq}
use Rattle.std.proofs.lemmas.Option.{none-some}
use Rattle.list_laws.proofs.Members.{contains_cases, contains_first, contains_later, contains_none}
use Rattle.jvm_model.specs.Programs.{Class, Program}
use Rattle.jvm_model.specs.Subtypes.{class_named, IsDirectSuper, IsSubtype, same, below}
use Rattle.jvm_model.specs.LinkedPrograms.{class_names}
use Rattle.program_laws.proofs.Chains.{upward}
use Rattle.program_laws.proofs.Choices.{OrNot, carried_over, either_or_not, both_or_not, same_or_not, held_or_not, some_or_not}
use Rattle.program_laws.proofs.Orders.{this_or_other}

-- a direct supertype of the class is as told
abbrev HasSuper : (List ℕ → Type 0) → Class → Type 0
HasSuper Above c = (super : List ℕ) × IsDirectSuper c super × Above super

-- a step upward from the class of a name comes to a name that is as told
abbrev Steps : Program → List ℕ → (List ℕ → Type 0) → Type 0
Steps p name Above = (c : Class) × (class_named p name ≡ Some c) × HasSuper Above c

-- steps upward come from one name to another, each from one of these names: all from the later ones; or they come to the
-- first one by such steps, and leave it for the last time
abbrev Through : Program → List (List ℕ) → List ℕ → List ℕ → Type 0
Through p [] above name = name ≡ above
Through p (n ∷ names) above name = Through p names above name ⊎ (Through p names n name × Steps p n (Through p names above))

-- ---- whether there are such steps

-- the superclass is as told, or a superinterface is
abbrev HasSuperOfKind : (List ℕ → Type 0) → Class → Type 0
HasSuperOfKind Above c = ((super : List ℕ) × (c.super_class ≡ Some super) × Above super) ⊎ ((super : List ℕ) × Contains c.interfaces super × Above super)

super_or_not : (Above : List ℕ → Type 0) → ((name : List ℕ) → OrNot (Above name)) → (c : Class) → OrNot (HasSuper Above c)
super_or_not Above choose c = carried_over to back (either_or_not (held_or_not Above choose c.super_class) (some_or_not Above choose c.interfaces))
  where
    to : HasSuperOfKind Above c → HasSuper Above c
    to (inl h) = (h.0, inl h.1, h.2)
    to (inr h) = (h.0, inr h.1, h.2)

    at : (super : List ℕ) → IsDirectSuper c super → Above super → HasSuperOfKind Above c
    at super (inl e) h = inl (super, e, h)
    at super (inr there) h = inr (super, there, h)

    back : HasSuper Above c → HasSuperOfKind Above c
    back h = at h.0 h.1 h.2

through_or_not : (p : Program) (names : List (List ℕ)) (above name : List ℕ) → OrNot (Through p names above name)
through_or_not p [] above name = same_or_not name above
through_or_not p (n ∷ names) above name =
    either_or_not (through_or_not p names above name)
    (both_or_not (through_or_not p names n name)
    (λ h. held_or_not (HasSuper (Through p names above)) (super_or_not (Through p names above) (through_or_not p names above)) (class_named p n)))

-- ---- such steps are those of subtypes

through_below : (p : Program) (names : List (List ℕ)) (above name : List ℕ) → Through p names above name → IsSubtype p above name
through_below p [] above name e = same name e
through_below p (n ∷ names) above name (inl h) = through_below p names above name h
through_below p (n ∷ names) above name (inr h) =
    let step = h.1 in
    upward p above n name (through_below p names n name h.0)
    (below n step.0 step.2.0 step.1 step.2.1 (through_below p names above step.2.0 step.2.2))

stays : (p : Program) (names : List (List ℕ)) (name : List ℕ) → Through p names name name
stays p [] name = refl
stays p (n ∷ names) name = inl (stays p names name)

-- a step from one of the names goes before
goes_on : (p : Program) (names : List (List ℕ)) (name : List ℕ) (c : Class) (super : List ℕ) → class_named p name ≡ Some c → IsDirectSuper c super
    → (above : List ℕ) → Contains names name → Through p names above super → Through p names above name
goes_on p [] name c super named direct above there rest = absurd (contains_none name there)
goes_on p (n ∷ names) name c super named direct above there rest = by (goes_on p names name c super named direct) (contains_cases n name names there) rest
  where
    here : n ≡ name → Through p names n name
    here e = subst (λ (x : List ℕ). Through p names n x) e (stays p names n)

    by : ((top : List ℕ) → Contains names name → Through p names top super → Through p names top name)
        → (n ≡ name) ⊎ Contains names name → Through p (n ∷ names) above super → Through p (n ∷ names) above name
    by later (inl e) (inl h) = inr (here e, (c, ap (class_named p) e ∙ named, (super, direct, h)))
    by later (inl e) (inr h) = inr (here e, h.1)
    by later (inr there) (inl h) = inl (later above there h)
    by later (inr there) (inr h) = inr (later n there h.0, h.1)

-- a class that is found by its name has it in the list of names
named_there : (name : List ℕ) (c : Class) (classes : List Class) → find (λ (d : Class). bytes_eq d.name name) classes ≡ Some c → Contains (map (λ (d : Class). d.name) classes) name
named_there name c [] found = absurd (none-some c found)
named_there name c (d ∷ classes) found = by (named_there name c classes) (this_or_other d.name name)
  where
    names : List (List ℕ)
    names = map (λ (e : Class). e.name) classes

    by : (find (λ (e : Class). bytes_eq e.name name) classes ≡ Some c → Contains names name) → (d.name ≡ name) ⊎ (bytes_eq d.name name ≡ false) → Contains (d.name ∷ names) name
    by later (inl e) = subst (λ (x : List ℕ). Contains (d.name ∷ names) x) e (contains_first d.name names)
    by later (inr other) =
        contains_later d.name name names
        (later (sym (ap (λ (b : Bool). cond b (Some d) (find (λ (e : Class). bytes_eq e.name name) classes)) other) ∙ found))

below_through : (p : Program) (above name : List ℕ) → IsSubtype p above name → Through p (class_names p) above name
below_through p above name (same n e) = subst (λ (x : List ℕ). Through p (class_names p) x name) e (stays p (class_names p) name)
below_through p above name (below n c super named direct rest) =
    goes_on p (class_names p) name c super named direct above (named_there name c p.classes named) (below_through p above super rest)

pub below_or_not : (p : Program) (above name : List ℕ) → OrNot (IsSubtype p above name)
below_or_not p above name = carried_over (through_below p (class_names p) above name) (below_through p above name) (through_or_not p (class_names p) above name)
