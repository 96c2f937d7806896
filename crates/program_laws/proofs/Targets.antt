-- Where a search for the target of a call finds a method, or none; and that what it finds is a method of the program.
use Rattle.std.proofs.Common.{◌≡◌, inl, inr, ℕ, Bool, true, false, List, [], ◌∷◌, Some}
use Rattle.std.specs.Bool.{MatchBool}
use Rattle.std.specs.List.{slice_get}
use Rattle.jvm_model.specs.Lookups.{Signature}
use Rattle.jvm_model.specs.Programs.{Class, Method, Program}
use Rattle.jvm_model.specs.Resolution.{Declares, IsFirst, IsFound, IsFoundInInterface, declared_there, of_object, IsFoundIn, IsOnlyDefault}
use Rattle.jvm_model.specs.Selection.{SelectsFrom, upward, by_default}
use Rattle.program_laws.proofs.Bounded.{SomeOrNone}
use Rattle.program_laws.proofs.Inheriting.{only_default_or_none}

pub selects_from_or_none : (p : Program) (class : List ℕ) (s : Signature) (Own : ℕ → Type 0) → SomeOrNone Own → SomeOrNone (SelectsFrom p class s Own)
selects_from_or_none p class s Own own = by own (only_default_or_none p class s)
  where
    neither : ((n : ℕ) → Own n → ⊥) → ((n : ℕ) → IsOnlyDefault p class s n → ⊥) → (target : ℕ) → SelectsFrom p class s Own target → ⊥
    neither none no_default target (upward h) = none target h
    neither none no_default target (by_default without h) = no_default target h

    by : SomeOrNone Own → SomeOrNone (IsOnlyDefault p class s) → SomeOrNone (SelectsFrom p class s Own)
    by (inl h) d = inl (h.0, upward h.1)
    by (inr none) (inl h) = inl (h.0, by_default none h.1)
    by (inr none) (inr no_default) = inr (neither none no_default)

-- ---- methods of the program

-- the number is that of a method of the program
abbrev pub IsMethod : Program → ℕ → Type 0
IsMethod p number = (m : Method) × (slice_get p.methods number ≡ Some m)

declared_stands : (p : Program) (Is : ℕ → Method → Type 0) (class : List ℕ) (number : ℕ) → Declares p Is class number → IsMethod p number
declared_stands p Is class number d = (d.method, d.stands)

first_stands : (p : Program) (Is : ℕ → Method → Type 0) (chain : List Class) (number : ℕ) → IsFirst p Is chain number → IsMethod p number
first_stands p Is [] number h = absurd h
first_stands p Is (c ∷ chain) number (inl d) = declared_stands p Is c.name number d
first_stands p Is (c ∷ chain) number (inr h) = first_stands p Is chain number h.1

pub found_stands : (p : Program) (start : List ℕ) (Is : ℕ → Method → Type 0) (number : ℕ) → IsFound p start Is number → IsMethod p number
found_stands p start Is number f = first_stands p Is f.chain number f.first

in_interface_stands : (p : Program) (Is : ℕ → Method → Type 0) (s : Signature) (name : List ℕ) (number : ℕ) → IsFoundInInterface p Is s name number → IsMethod p number
in_interface_stands p Is s name number (declared_there d) = (d.method, d.stands)
in_interface_stands p Is s name number (of_object none d) = (d.method, d.stands)

by_kind_stands : (p : Program) (Is : ℕ → Method → Type 0) (s : Signature) (name : List ℕ) (is_interface : Bool) (number : ℕ)
    → MatchBool is_interface (IsFoundInInterface p Is s name number) (IsFound p name Is number) → IsMethod p number
by_kind_stands p Is s name true number h = in_interface_stands p Is s name number h
by_kind_stands p Is s name false number h = found_stands p name Is number h

pub found_in_stands : (p : Program) (Is : ℕ → Method → Type 0) (s : Signature) (c : Class) (number : ℕ) → IsFoundIn p Is s c number → IsMethod p number
found_in_stands p Is s c number h = by_kind_stands p Is s c.name c.is_interface number h

pub selected_stands : (p : Program) (class : List ℕ) (s : Signature) (Own : ℕ → Type 0) (target : ℕ) → (Own target → IsMethod p target) → SelectsFrom p class s Own target → IsMethod p target
selected_stands p class s Own target own (upward h) = own h
selected_stands p class s Own target own (by_default none h) = let i = h.default.specific.inherited in (i.method, i.stands)
