-- The search for a field from a class of a program comes to an end: it finds a field, or none. A reference to a field gives a
-- field, or a reason.
use Rattle.std.proofs.Common.{◌≡◌, inl, inr, ℕ, zero, suc, ◌<◌, Bool, List, [], ◌∷◌, ◌++◌, length, Option, Some, None, Result, Ok, Err, refl, arith}
use Rattle.std.specs.List.{slice_get, Contains}
use Rattle.std.specs.Option.{option_to_list}
use Rattle.std.proofs.lemmas.Option.{slice_get_within}
use Rattle.list_laws.proofs.Members.{contains_first, contains_later}
use Rattle.jvm_model.specs.declared.access.AccessFlag.TheVariants.{Static}
use Rattle.jvm_model.specs.declared.reason.Reason.{Reason}
use Rattle.jvm_model.specs.declared.reason.Reason.TheVariants.{MissingField, KindMismatch}
use Rattle.jvm_model.specs.Access.{has_flag}
use Rattle.jvm_model.specs.LinkedPrograms.{IsProgram}
use Rattle.jvm_model.specs.Lookups.{Signature}
use Rattle.jvm_model.specs.Programs.{Class, Field, Program}
use Rattle.jvm_model.specs.Resolution.{DeclaresField, FindsField, FindsAmong, itself, above, nowhere, first, later, FieldResolution, found, other_kind, not_found, missing}
use Rattle.jvm_model.specs.Subtypes.{class_named, IsDirectSuper}
use Rattle.program_laws.proofs.Choices.{OrNot, carried_over, both_or_not, same_or_not, held_or_not}
use Rattle.program_laws.proofs.Bounded.{SomeOrNone, some_or_none}
use Rattle.program_laws.proofs.Classes.{supers_of}
use Rattle.program_laws.proofs.Declaring.{signature_or_not}
use Rattle.program_laws.proofs.Ranks.{rank, rank_falls}
use Rattle.program_laws.proofs.Resolving.{same_kind_or_not}

-- ---- the fields of a class

abbrev FieldOf : Program → Signature → List ℕ → ℕ → Type 0
FieldOf p s class number = (f : Field) × (slice_get p.fields number ≡ Some f) × ((f.class ≡ class) × (f.signature ≡ s))

field_or_not : (p : Program) (s : Signature) (class : List ℕ) (number : ℕ) → OrNot (DeclaresField p s class number)
field_or_not p s class number =
    carried_over to back (held_or_not (λ (f : Field). (f.class ≡ class) × (f.signature ≡ s)) (λ f. both_or_not (same_or_not f.class class) (λ e. signature_or_not f.signature s)) (slice_get p.fields number))
  where
    to : FieldOf p s class number → DeclaresField p s class number
    to h = record { field = h.0; stands = h.1; of_class = h.2.0; is = h.2.1 }

    back : DeclaresField p s class number → FieldOf p s class number
    back d = (d.field, d.stands, (d.of_class, d.is))

field_or_none : (p : Program) (s : Signature) (class : List ℕ) → SomeOrNone (DeclaresField p s class)
field_or_none p s class =
    some_or_none (DeclaresField p s class) (field_or_not p s class) (length p.fields) (λ number d. slice_get_within p.fields number d.field d.stands)

-- ---- the search

-- what the search from a class finds, or among classes
abbrev Search : Program → Signature → List ℕ → Type 0
Search p s class = (answer : Option ℕ) × FindsField p s class answer

abbrev SearchAmong : Program → Signature → List (List ℕ) → Type 0
SearchAmong p s classes = (answer : Option ℕ) × FindsAmong p s classes answer

one_more : (p : Program) (s : Signature) (class : List ℕ) (others : List (List ℕ)) → Search p s class → SearchAmong p s others → SearchAmong p s (class ∷ others)
one_more p s class others (Some number, h) rest = (Some number, first class others number h)
one_more p s class others (None, h) rest = (rest.0, later class others rest.0 h rest.1)

-- each of the names has an answer, and so have the others after them
search_all : (p : Program) (s : Signature) (names others : List (List ℕ)) → ((name : List ℕ) → Contains names name → Search p s name) → SearchAmong p s others
    → SearchAmong p s (names ++ others)
search_all p s [] others each rest = rest
search_all p s (name ∷ names) others each rest =
    one_more p s name (names ++ others) (each name (contains_first name names)) (search_all p s names others (λ n there. each n (contains_later name n names there)) rest)

search_super : (p : Program) (s : Signature) (o : Option (List ℕ)) → ((name : List ℕ) → o ≡ Some name → Search p s name) → SearchAmong p s (option_to_list o)
search_super p s None each = (None, nowhere)
search_super p s (Some name) each = one_more p s name [] (each name refl) (None, nowhere)

search_above : (p : Program) (s : Signature) (c : Class) → ((name : List ℕ) → IsDirectSuper c name → Search p s name) → SearchAmong p s (c.interfaces ++ option_to_list c.super_class)
search_above p s c each =
    search_all p s c.interfaces (option_to_list c.super_class) (λ name there. each name (inr there)) (search_super p s c.super_class (λ name e. each name (inl e)))

-- a direct supertype of a class of the program is one
super_named : (p : Program) → IsProgram p → (class : List ℕ) (c : Class) → class_named p class ≡ Some c → (name : List ℕ) → IsDirectSuper c name → (d : Class) × (class_named p name ≡ Some d)
super_named p program class c named name (inl e) = let above = (supers_of p program class c named).superclass name e in (above.0, above.1)
super_named p program class c named name (inr there) = let above = (supers_of p program class c named).interfaces name there in (above.0, above.1)

search_within : (p : Program) → IsProgram p → (s : Signature) (limit : ℕ) (class : List ℕ) (c : Class) → rank p class < limit → class_named p class ≡ Some c → Search p s class
search_within p program s zero class c low named = absurd (omega (arith, low))
search_within p program s (suc limit) class c low named = by (search_within p program s limit) (field_or_none p s class)
  where
    by : ((name : List ℕ) (d : Class) → rank p name < limit → class_named p name ≡ Some d → Search p s name) → SomeOrNone (DeclaresField p s class) → Search p s class
    by each (inl h) = (Some h.0, itself class h.0 h.1)
    by each (inr none) = (up.0, above class up.0 c named none up.1)
      where
        up : SearchAmong p s (c.interfaces ++ option_to_list c.super_class)
        up = search_above p s c (λ name direct.
            let d = super_named p program class c named name direct in
            let less = rank_falls p program class c name named direct in
            each name d.0 (omega (arith, low, less)) d.1)

pub each_search : (p : Program) → IsProgram p → (s : Signature) (class : List ℕ) (c : Class) → class_named p class ≡ Some c → Search p s class
each_search p program s class c named = search_within p program s (suc (rank p class)) class c (omega arith) named

-- ---- what is found is a field

mutual
  found_field : (p : Program) (s : Signature) (class : List ℕ) (number : ℕ) → FindsField p s class (Some number) → (f : Field) × (slice_get p.fields number ≡ Some f)
  found_field p s class number (itself _ _ d) = (d.field, d.stands)
  found_field p s class number (above _ _ c named none among) = field_among p s (c.interfaces ++ option_to_list c.super_class) number among

  field_among : (p : Program) (s : Signature) (classes : List (List ℕ)) (number : ℕ) → FindsAmong p s classes (Some number) → (f : Field) × (slice_get p.fields number ≡ Some f)
  field_among p s classes number (first class others _ h) = found_field p s class number h
  field_among p s classes number (later class others _ none h) = field_among p s others number h

-- ---- what a reference gives

-- the outcome of a reference to a field
abbrev Outcome : Program → Class → Signature → Bool → Type 0
Outcome p c s wants_static = (outcome : Result ℕ Reason) × FieldResolution p c s wants_static outcome

outcome_of : (p : Program) (c : Class) (s : Signature) (wants_static : Bool) → Search p s c.name → Outcome p c s wants_static
outcome_of p c s wants_static (None, h) = (Err (missing c MissingField), not_found h refl)
outcome_of p c s wants_static (Some number, h) = by (found_field p s c.name number h)
  where
    of : (f : Field) → slice_get p.fields number ≡ Some f → OrNot (has_flag f.flags Static ≡ wants_static) → Outcome p c s wants_static
    of f stands (inl kind) = (Ok number, found number f h stands kind refl)
    of f stands (inr differs) = (Err KindMismatch, other_kind number f h stands differs refl)

    by : (f : Field) × (slice_get p.fields number ≡ Some f) → Outcome p c s wants_static
    by f = of f.0 f.1 (same_kind_or_not (has_flag f.0.flags Static) wants_static)

pub field_outcome : (p : Program) (c : Class) (s : Signature) (wants_static : Bool) → IsProgram p → class_named p c.name ≡ Some c → Outcome p c s wants_static
field_outcome p c s wants_static program named = outcome_of p c s wants_static (each_search p program s c.name c named)
