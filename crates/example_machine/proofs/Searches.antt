-- What searches find in a program that is known, and what they do not find: by tests over its classes and its methods.
use Rattle.std.proofs.Common.{◌≡◌, inl, inr, ℕ, zero, suc, Bool, true, false, not, ◌&&◌, ◌||◌, List, [], ◌∷◌, Option, Some, None, bytes_eq, slice_get, refl, sym, ap, ◌∙◌, subst, true≢false}
use Rattle.std.specs.List.{list_all}
use Rattle.std.specs.Option.{option_map_or}
use Rattle.std.proofs.lemmas.Bool.{and_parts, and_from}
use Rattle.std.proofs.lemmas.Option.{same_Some, none-some}
use Rattle.std.proofs.lemmas.Slice.Eq.{bytes_eq-Decides}
use Rattle.jvm_model.specs.Lookups.{Signature}
use Rattle.jvm_model.specs.Programs.{Program, Class, Field, Method, is_abstract}
use Rattle.jvm_model.specs.Resolution.{Declares, IsFirst, IsFound, IsInherited, IsOnlyDefault}
use Rattle.jvm_model.specs.Subtypes.{class_named, IsChain, IsProperSubtype}
use Rattle.example_machine.proofs.Types.{among, super_among, found_passes, found_is_any, or_second}
use Rattle.list_laws.proofs.Tests.{passes_at}

-- names that differ
pub differ : (a b : List ℕ) → bytes_eq a b ≡ false → a ≡ b → ⊥
differ a b other e = true≢false (sym ((bytes_eq-Decides a b).1 e) ∙ other)

-- a class and its superclasses, so many at most
abbrev pub chain_up : Program → ℕ → Option (List ℕ) → List Class
chain_up p zero name = []
chain_up p (suc count) None = []
chain_up p (suc count) (Some name) = option_map_or (λ (c : Class). c ∷ chain_up p count c.super_class) (class_named p name) []

-- ---- no method

abbrev pub has_signature : Signature → Method → Bool
has_signature s m = bytes_eq m.signature.name s.name && bytes_eq m.signature.descriptor s.descriptor

signature_is : (s : Signature) (m : Method) → m.signature ≡ s → has_signature s m ≡ true
signature_is s m e =
    and_from _ _ ((bytes_eq-Decides m.signature.name s.name).1 (ap (λ (t : Signature). t.name) e)) ((bytes_eq-Decides m.signature.descriptor s.descriptor).1 (ap (λ (t : Signature). t.descriptor) e))

-- no class of these names declares a method of the name and descriptor
abbrev pub no_method : List (List ℕ) → Signature → Program → Bool
no_method names s p = list_all (λ (m : Method). not (among names m.class && has_signature s m)) p.methods

not_both : (a b : Bool) → not (a && b) ≡ true → a ≡ true → b ≡ true → ⊥
not_both true true h a b = true≢false (sym h)
not_both true false h a b = true≢false (sym b)
not_both false b h a c = true≢false (sym a)

module _ (p : Program) (names : List (List ℕ)) (s : Signature) (Is : ℕ → Method → Type 0) (is_so : (n : ℕ) (m : Method) → slice_get p.methods n ≡ Some m → Is n m → m.signature ≡ s) where
  pub none_declared : no_method names s p ≡ true → (class : List ℕ) → among names class ≡ true → (other : ℕ) → Declares p Is class other → ⊥
  none_declared none class inside other d =
      not_both (among names d.method.class) (has_signature s d.method)
      (passes_at (λ (m : Method). not (among names m.class && has_signature s m)) p.methods other d.method none d.stands)
      (subst (λ (n : List ℕ). among names n ≡ true) (sym d.of_class) inside) (signature_is s d.method (is_so other d.method d.stands d.is))

  -- the names are closed upward by superclasses
  abbrev pub chain_closed : Bool
  chain_closed = list_all (λ (c : Class). not (among names c.name) || super_among names c.super_class) p.classes

  start_among : (o : Option (List ℕ)) (name : List ℕ) → super_among names o ≡ true → o ≡ Some name → among names name ≡ true
  start_among o name h e = subst (λ (q : Option (List ℕ)). super_among names q ≡ true) e h

  none_first : no_method names s p ≡ true → chain_closed ≡ true → (o : Option (List ℕ)) → super_among names o ≡ true → (chain : List Class) → IsChain p o chain → (other : ℕ) → IsFirst p Is chain other → ⊥
  none_first none closed o inside [] of_start other first = first
  none_first none closed None inside (c ∷ chain) of_start other first = of_start
  none_first none closed (Some name) inside (c ∷ chain) of_start other first =
      let is : c.name ≡ name = (bytes_eq-Decides c.name name).0 (found_passes (λ (d : Class). bytes_eq d.name name) p.classes c of_start.0) in
      let here : among names c.name ≡ true = subst (λ (n : List ℕ). among names n ≡ true) (sym is) inside in
      let up = or_second (among names c.name) (super_among names c.super_class) here
      (found_is_any (λ (d : Class). bytes_eq d.name name) (λ (d : Class). not (among names d.name) || super_among names d.super_class) p.classes c of_start.0 closed) in
      by here (λ more. none_first none closed c.super_class up chain of_start.1 other more) first
    where
      by : among names c.name ≡ true → (IsFirst p Is chain other → ⊥) → IsFirst p Is (c ∷ chain) other → ⊥
      by here more (inl d) = none_declared none c.name here other d
      by here more (inr later) = more later.1

  -- the search finds no such method
  pub none_found : no_method names s p ≡ true → chain_closed ≡ true → (start : List ℕ) → among names start ≡ true → (other : ℕ) → IsFound p start Is other → ⊥
  none_found none closed start inside other f = none_first none closed (Some start) inside f.chain f.of_start other f.first

-- ---- the only method

-- the method at a place is the only one of the name and descriptor
abbrev pub is_only : Signature → ℕ → List Method → Bool
is_only s number [] = true
is_only s zero (m ∷ methods) = list_all (λ (n : Method). not (has_signature s n)) methods
is_only s (suc number) (m ∷ methods) = not (has_signature s m) && is_only s number methods

pub not_true : (b : Bool) → not b ≡ true → b ≡ true → ⊥
not_true true h e = true≢false (sym h)
not_true false h e = true≢false (sym e)

only_there : (s : Signature) (number : ℕ) (methods : List Method) (other : ℕ) (m : Method) → is_only s number methods ≡ true → slice_get methods other ≡ Some m → has_signature s m ≡ true → other ≡ number
only_there s number [] other m only stands has = absurd (none-some m stands)
only_there s zero (n ∷ methods) zero m only stands has = refl
only_there s zero (n ∷ methods) (suc other) m only stands has = absurd (not_true (has_signature s m) (passes_at (λ (k : Method). not (has_signature s k)) methods other m only stands) has)
only_there s (suc number) (n ∷ methods) zero m only stands has =
    absurd (not_true (has_signature s n) (and_parts (not (has_signature s n)) (is_only s number methods) only).0 (subst (λ (k : Method). has_signature s k ≡ true) (sym (same_Some n m stands)) has))
only_there s (suc number) (n ∷ methods) (suc other) m only stands has =
    ap suc (only_there s number methods other m (and_parts (not (has_signature s n)) (is_only s number methods) only).1 stands has)

-- an inherited method that is the only one of its name and descriptor is the only default
pub only_default : (p : Program) (class : List ℕ) (s : Signature) (number : ℕ) (i : IsInherited p class s number) → is_abstract i.method ≡ false → is_only s number p.methods ≡ true → IsOnlyDefault p class s number
only_default p class s number i concrete only = record {
  default = record { specific = record { inherited = i; lowest = lowest }; concrete = concrete };
  only = λ other d. is_it other d.specific.inherited;
}
  where
    is_it : (other : ℕ) → IsInherited p class s other → other ≡ number
    is_it other o = only_there s number p.methods other o.method only o.stands (signature_is s o.method o.same_call)

    lowest : (other : ℕ) (o : IsInherited p class s other) → IsProperSubtype p o.method.class i.method.class → ⊥
    lowest other o below = below.1 (ap (λ (m : Method). m.class) (same_Some o.method i.method (sym o.stands ∙ ap (slice_get p.methods) (is_it other o) ∙ i.stands)))

-- ---- no field

-- a class without fields declares none
pub no_field_of : (p : Program) (class : List ℕ) → list_all (λ (f : Field). not (bytes_eq f.class class)) p.fields ≡ true → (other : ℕ) (f : Field) → slice_get p.fields other ≡ Some f → f.class ≡ class → ⊥
no_field_of p class none other f stands of_class = not_true (bytes_eq f.class class) (passes_at (λ (g : Field). not (bytes_eq g.class class)) p.fields other f none stands) ((bytes_eq-Decides f.class class).1 of_class)
