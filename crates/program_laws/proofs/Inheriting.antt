-- What a class inherits from its superinterfaces is decided of each method: whether it is maximally specific, the only default,
-- or the one with the least number.
use Rattle.std.proofs.Common.{◌≡◌, ◌≢◌, ◌⊎◌, inl, inr, ℕ, ◌<◌, false, List, length, Some, sym, ◌∙◌, subst}
use Rattle.std.specs.Bool.{IsTrue}
use Rattle.std.specs.List.{slice_get}
use Rattle.std.proofs.lemmas.Option.{same_Some, slice_get_within}
use Rattle.jvm_model.specs.Lookups.{Signature}
use Rattle.jvm_model.specs.Programs.{Class, Method, Program, is_private, is_static, is_abstract}
use Rattle.jvm_model.specs.Resolution.{IsInherited, IsMostSpecific, IsDefault, IsOnlyDefault, IsLeastInherited}
use Rattle.jvm_model.specs.Subtypes.{class_named, IsProperSubtype, IsSuperinterface}
use Rattle.program_laws.proofs.Choices.{OrNot, carried_over, both_or_not, same_or_not, true_or_not, held_or_not}
use Rattle.program_laws.proofs.Decided.{subtype_or_not}
use Rattle.program_laws.proofs.Bounded.{SomeOrNone, Least, least_or_none, some_or_none, equal_or_not, not_or_not}
use Rattle.program_laws.proofs.Declaring.{false_or_not, signature_or_not}

-- ---- superinterfaces

pub proper_or_not : (p : Program) (name above : List ℕ) → OrNot (IsProperSubtype p name above)
proper_or_not p name above = both_or_not (subtype_or_not p above name) (λ h. not_or_not (same_or_not name above))

abbrev Super : Program → List ℕ → List ℕ → Type 0
Super p class name = (i : Class) × (class_named p name ≡ Some i) × (IsTrue i.is_interface × IsProperSubtype p class name)

superinterface_or_not : (p : Program) (class name : List ℕ) → OrNot (IsSuperinterface p class name)
superinterface_or_not p class name =
    carried_over to back (held_or_not (λ (i : Class). IsTrue i.is_interface × IsProperSubtype p class name)
    (λ i. both_or_not (true_or_not i.is_interface) (λ t. proper_or_not p class name)) (class_named p name))
  where
    to : Super p class name → IsSuperinterface p class name
    to h = record { interface = h.0; named = h.1; kind = h.2.0; below = h.2.1 }

    back : IsSuperinterface p class name → Super p class name
    back s = (s.interface, s.named, (s.kind, s.below))

-- ---- inherited methods

-- the method is one that the class inherits
abbrev Inherits : Program → List ℕ → Signature → Method → Type 0
Inherits p class s m = IsSuperinterface p class m.class × ((m.signature ≡ s) × ((is_private m ≡ false) × (is_static m ≡ false)))

inherits_or_not : (p : Program) (class : List ℕ) (s : Signature) (m : Method) → OrNot (Inherits p class s m)
inherits_or_not p class s m =
    both_or_not (superinterface_or_not p class m.class)
    (λ a. both_or_not (signature_or_not m.signature s) (λ b. both_or_not (false_or_not (is_private m)) (λ d. false_or_not (is_static m))))

-- the method of a number is inherited, and more is known of it
abbrev InheritedWith : Program → List ℕ → Signature → (Method → Type 0) → ℕ → Type 0
InheritedWith p class s Known number = (m : Method) × (slice_get p.methods number ≡ Some m) × (Inherits p class s m × Known m)

inherited_with_or_not : (p : Program) (class : List ℕ) (s : Signature) (Known : Method → Type 0) → ((m : Method) → OrNot (Known m)) → (number : ℕ)
    → OrNot (InheritedWith p class s Known number)
inherited_with_or_not p class s Known choose number =
    held_or_not (λ (m : Method). Inherits p class s m × Known m) (λ m. both_or_not (inherits_or_not p class s m) (λ h. choose m)) (slice_get p.methods number)

inherited_with_or_none : (p : Program) (class : List ℕ) (s : Signature) (Known : Method → Type 0) → ((m : Method) → OrNot (Known m))
    → SomeOrNone (InheritedWith p class s Known)
inherited_with_or_none p class s Known choose =
    some_or_none (InheritedWith p class s Known) (inherited_with_or_not p class s Known choose) (length p.methods) (λ number h. slice_get_within p.methods number h.0 h.1)

told : (p : Program) (class : List ℕ) (s : Signature) (number : ℕ) (m : Method) → slice_get p.methods number ≡ Some m → Inherits p class s m → IsInherited p class s number
told p class s number m stands h = record { method = m; stands = stands; above = h.0; same_call = h.1.0; visible = h.1.1.0; instance = h.1.1.1 }

parts : (p : Program) (class : List ℕ) (s : Signature) (number : ℕ) (i : IsInherited p class s number) → Inherits p class s i.method
parts p class s number i = (i.above, (i.same_call, (i.visible, i.instance)))

inherited_or_not : (p : Program) (class : List ℕ) (s : Signature) (number : ℕ) → OrNot (IsInherited p class s number)
inherited_or_not p class s number = carried_over to back (held_or_not (Inherits p class s) (inherits_or_not p class s) (slice_get p.methods number))
  where
    to : (m : Method) × (slice_get p.methods number ≡ Some m) × Inherits p class s m → IsInherited p class s number
    to h = told p class s number h.0 h.1 h.2

    back : IsInherited p class s number → (m : Method) × (slice_get p.methods number ≡ Some m) × Inherits p class s m
    back i = (i.method, i.stands, parts p class s number i)

inherited_within : (p : Program) (class : List ℕ) (s : Signature) (number : ℕ) → IsInherited p class s number → number < length p.methods
inherited_within p class s number i = slice_get_within p.methods number i.method i.stands

-- what is inherited is one method
same_method : (p : Program) (class : List ℕ) (s : Signature) (number : ℕ) (i j : IsInherited p class s number) → i.method ≡ j.method
same_method p class s number i j = same_Some i.method j.method (sym i.stands ∙ j.stands)

pub least_inherited_or_none : (p : Program) (class : List ℕ) (s : Signature) → SomeOrNone (IsLeastInherited p class s)
least_inherited_or_none p class s = by (least_or_none (IsInherited p class s) (inherited_or_not p class s) (length p.methods) (inherited_within p class s))
  where
    by : Least (IsInherited p class s) ⊎ ((number : ℕ) → IsInherited p class s number → ⊥) → SomeOrNone (IsLeastInherited p class s)
    by (inl h) = inl (h.0, record { inherited = h.1; least = h.2 })
    by (inr none) = inr (λ number l. none number l.inherited)

-- ---- maximally specific methods

specific_or_not : (p : Program) (class : List ℕ) (s : Signature) (number : ℕ) → OrNot (IsMostSpecific p class s number)
unfolding told
specific_or_not p class s number = by (inherited_or_not p class s number)
  where
    of : (i : IsInherited p class s number) → SomeOrNone (InheritedWith p class s (λ m. IsProperSubtype p m.class i.method.class)) → OrNot (IsMostSpecific p class s number)
    of i (inr none) = inl (record { inherited = i; lowest = λ n o below. none n (o.method, o.stands, (parts p class s n o, below)) })
    of i (inl h) =
        inr (λ specific. specific.lowest h.0 (told p class s h.0 h.1.0 h.1.1 h.1.2.0)
        (subst (λ (m : Method). IsProperSubtype p h.1.0.class m.class) (same_method p class s number i specific.inherited) h.1.2.1))

    by : OrNot (IsInherited p class s number) → OrNot (IsMostSpecific p class s number)
    by (inr none) = inr (λ specific. none specific.inherited)
    by (inl i) = of i (inherited_with_or_none p class s (λ m. IsProperSubtype p m.class i.method.class) (λ m. proper_or_not p m.class i.method.class))

pub default_or_not : (p : Program) (class : List ℕ) (s : Signature) (number : ℕ) → OrNot (IsDefault p class s number)
default_or_not p class s number = by (specific_or_not p class s number)
  where
    of : (i : IsMostSpecific p class s number) → OrNot (is_abstract i.inherited.method ≡ false) → OrNot (IsDefault p class s number)
    of i (inl concrete) = inl (record { specific = i; concrete = concrete })
    of i (inr not_so) =
        inr (λ d. not_so (subst (λ (m : Method). is_abstract m ≡ false) (same_method p class s number d.specific.inherited i.inherited) d.concrete))

    by : OrNot (IsMostSpecific p class s number) → OrNot (IsDefault p class s number)
    by (inr none) = inr (λ d. none d.specific)
    by (inl i) = of i (false_or_not (is_abstract i.inherited.method))

pub default_within : (p : Program) (class : List ℕ) (s : Signature) (number : ℕ) → IsDefault p class s number → number < length p.methods
default_within p class s number d = inherited_within p class s number d.specific.inherited

-- another default than that of a number
abbrev pub IsOther : Program → List ℕ → Signature → ℕ → ℕ → Type 0
IsOther p class s number n = IsDefault p class s n × (n ≢ number)

pub second_or_none : (p : Program) (class : List ℕ) (s : Signature) (number : ℕ) → SomeOrNone (IsOther p class s number)
second_or_none p class s number =
    some_or_none (IsOther p class s number) (λ n. both_or_not (default_or_not p class s n) (λ d. not_or_not (equal_or_not n number))) (length p.methods)
    (λ n h. default_within p class s n h.0)

only_or_not : (p : Program) (class : List ℕ) (s : Signature) (number : ℕ) → OrNot (IsOnlyDefault p class s number)
only_or_not p class s number = by (default_or_not p class s number) (second_or_none p class s number)
  where
    same : ((n : ℕ) → IsOther p class s number n → ⊥) → (n : ℕ) → IsDefault p class s n → OrNot (n ≡ number) → n ≡ number
    same none n d (inl e) = e
    same none n d (inr differs) = absurd (none n (d, differs))

    by : OrNot (IsDefault p class s number) → SomeOrNone (IsOther p class s number) → OrNot (IsOnlyDefault p class s number)
    by (inr none) rest = inr (λ o. none o.default)
    by (inl d) (inl h) = inr (λ o. h.1.1 (o.only h.0 h.1.0))
    by (inl d) (inr none) = inl (record { default = d; only = λ n e. same none n e (equal_or_not n number) })

pub only_default_or_none : (p : Program) (class : List ℕ) (s : Signature) → SomeOrNone (IsOnlyDefault p class s)
only_default_or_none p class s =
    some_or_none (IsOnlyDefault p class s) (only_or_not p class s) (length p.methods) (λ number o. default_within p class s number o.default)
