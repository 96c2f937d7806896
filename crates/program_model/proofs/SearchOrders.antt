-- The list of the supertypes through interfaces is in the order in which a field is searched.
use Rattle.std.proofs.Common.{◌≡◌, ◌≢◌, ℕ, Bool, true, false, List, [], ◌∷◌, ◌++◌, map, filter, not, cond, AllPairs, Option, Some, None, option_map, refl, sym, ap, ◌∙◌, subst, inl, inr}
use Rattle.std.specs.Prelude.{nat_eq}
use Rattle.std.specs.Option.{option_to_list}
use Rattle.std.proofs.lemmas.Bool.{eqb-true}
use Rattle.std.proofs.lemmas.List.{map-append}
use Rattle.std.proofs.lemmas.Option.{same_Some}
use Rattle.jvm_model.specs.declared.program.Origin.{Origin}
use Rattle.jvm_model.specs.Linking.{names, program_from}
use Rattle.jvm_model.specs.Lookups.{Signature}
use Rattle.jvm_model.specs.Programs.{Class, Program}
use Rattle.jvm_model.specs.Resolution.{DeclaresField, FindsAmong, FindsField, itself, above, nowhere, first, later}
use Rattle.jvm_model.specs.Subtypes.{class_named}
use Rattle.program_index.specs.declared.parents.Parents.{Parents}
use Rattle.program_index.specs.AboveLists.{IsSearched}
use Rattle.program_model.specs.FieldSearches.{IsFirstField, IsSearchOrder}
use Rattle.program_model.specs.Numbering.{name_in, AreParents}
use Rattle.program_model.specs.Numbers.{name_at}
use Rattle.program_index.specs.SearchOrder.{ExpandsAll, none_left, first_then, firsts}
use Rattle.program_index.specs.Supertypes.{direct_of}
use Rattle.program_model.proofs.Bridges.{name_at_in, named_here, numbered_from, IsNumbered}

-- a class that declares none may be left out
without : (p : Program) (s : Signature) (x : ℕ) (ys : List ℕ) (found : Option ℕ) → ((other : ℕ) → DeclaresField p s (name_at p x) other → ⊥)
    → IsFirstField p s (filter (λ y. not (nat_eq x y)) ys) found → IsFirstField p s ys found
without p s x [] found none h = h
without p s x (y ∷ ys) found none h = by (without p s x ys found none) (nat_eq x y) refl h
  where
    by : (IsFirstField p s (filter (λ z. not (nat_eq x z)) ys) found → IsFirstField p s ys found) → (b : Bool) → nat_eq x y ≡ b
        → IsFirstField p s (cond (not b) (y ∷ filter (λ z. not (nat_eq x z)) ys) (filter (λ z. not (nat_eq x z)) ys)) found → IsFirstField p s (y ∷ ys) found
    by rest true e g = inr (subst (λ (n : ℕ). (other : ℕ) → DeclaresField p s (name_at p n) other → ⊥) (eqb-true x y e) none, rest g)
    by rest false e (inl g) = inl g
    by rest false e (inr g) = inr (g.0, rest g.1)

-- doubles may be left out
with_doubles : (p : Program) (s : Signature) (xs : List ℕ) (found : Option ℕ) → IsFirstField p s (firsts xs) found → IsFirstField p s xs found
with_doubles p s [] found h = h
with_doubles p s (x ∷ xs) found (inl h) = inl h
with_doubles p s (x ∷ xs) found (inr h) = inr (h.0, with_doubles p s xs found (without p s x (firsts xs) found h.0 h.1))

-- the first of two lists has it, or it has none and the second may have it
pub data InParts (p : Program) (s : Signature) (xs ys : List ℕ) (found : Option ℕ) : Type 0 where
  in_first : (number : ℕ) → found ≡ Some number → IsFirstField p s xs (Some number) → InParts p s xs ys found
  in_second : IsFirstField p s xs None → IsFirstField p s ys found → InParts p s xs ys found

in_parts : (p : Program) (s : Signature) (xs ys : List ℕ) (found : Option ℕ) → IsFirstField p s (xs ++ ys) found → InParts p s xs ys found
in_parts p s [] ys found h = in_second refl h
in_parts p s (x ∷ xs) ys found (inl h) = in_first h.0 h.1 (inl (h.0, refl, h.2))
in_parts p s (x ∷ xs) ys found (inr h) = by (in_parts p s xs ys found h.1)
  where
    by : InParts p s xs ys found → InParts p s (x ∷ xs) ys found
    by (in_first number e g) = in_first number e (inr (h.0, g))
    by (in_second none g) = in_second (inr (h.0, none)) g

map-option : {X Y : Type 0} (f : X → Y) (o : Option X) → map f (option_to_list o) ≡ option_to_list (option_map f o)
map-option f None = refl
map-option f (Some x) = refl

module _ (order : List Origin) (parents : List Parents) (differ : AllPairs (λ x y. x ≢ y) (names order)) (are : AreParents order parents) where
  abbrev p : Program
  p = program_from order

  abbrev name : ℕ → List ℕ
  name = name_in (names order)

  declared_in : (s : Signature) (k number : ℕ) → DeclaresField p s (name_at p k) number → DeclaresField p s (name k) number
  declared_in s k number d = subst (λ (n : List ℕ). DeclaresField p s n number) (name_at_in order k) d

  directly : (k : ℕ) (c : Class) (par : Parents) → IsNumbered order parents differ are k c par → map name (direct_of par) ≡ c.interfaces ++ option_to_list c.super_class
  directly k c par is =
      map-append name par.interfaces.items (option_to_list par.super_class)
      ∙ (λ i. is.are_supers.interfaces i ++ (map-option name par.super_class ∙ ap option_to_list is.are_supers.super_class) i)

  search : (s : Signature) (xs list : List ℕ) (found : Option ℕ) → ExpandsAll parents xs list → IsFirstField p s list found → FindsAmong p s (map name xs) found
  search s [] list found (none_left _ e) h =
      let none : found ≡ None = subst (λ (l : List ℕ). IsFirstField p s l found) e h in
      subst (FindsAmong p s []) (sym none) nowhere
  search s (x ∷ xs) list found (first_then _ _ _ par inner others stands expands more e) h =
      by (λ g f. search s (direct_of par) inner g expands f) (λ g f. search s xs others g more f) (subst (λ (l : List ℕ). IsFirstField p s l found) e h)
    where
      class : (c : Class) × IsNumbered order parents differ are x c par
      class = numbered_from order parents differ are x par stands

      named : class_named p (name x) ≡ Some class.0
      named = ap (class_named p) class.1.class.name ∙ named_here order parents differ are x class.0 class.1.class

      field_above : (g : Option ℕ) → ((other : ℕ) → DeclaresField p s (name_at p x) other → ⊥) → FindsAmong p s (map name (direct_of par)) g → FindsField p s (name x) g
      field_above g none among = above (name x) g class.0 named (λ other d. none other (subst (λ (n : List ℕ). DeclaresField p s n other) (sym (name_at_in order x)) d))
          (subst (λ (ns : List (List ℕ)). FindsAmong p s ns g) (directly x class.0 par class.1) among)

      rest : ((g : Option ℕ) → IsFirstField p s inner g → FindsAmong p s (map name (direct_of par)) g)
          → ((g : Option ℕ) → IsFirstField p s others g → FindsAmong p s (map name xs) g)
          → ((other : ℕ) → DeclaresField p s (name_at p x) other → ⊥) → InParts p s inner others found → FindsAmong p s (name x ∷ map name xs) found
      rest up on none (in_first number is g) = subst (FindsAmong p s (name x ∷ map name xs)) (sym is) (first (name x) (map name xs) number (field_above (Some number) none (up (Some number) g)))
      rest up on none (in_second nothing g) = later (name x) (map name xs) found (field_above None none (up None nothing)) (on found g)

      by : ((g : Option ℕ) → IsFirstField p s inner g → FindsAmong p s (map name (direct_of par)) g)
          → ((g : Option ℕ) → IsFirstField p s others g → FindsAmong p s (map name xs) g)
          → IsFirstField p s (x ∷ (inner ++ others)) found → FindsAmong p s (name x ∷ map name xs) found
      by up on (inl d) = subst (FindsAmong p s (name x ∷ map name xs)) (sym d.1) (first (name x) (map name xs) d.0 (itself (name x) d.0 (declared_in s x d.0 d.2)))
      by up on (inr d) = rest up on d.0 (in_parts p s inner others found d.1)

  -- the list of a class is in the order of the search
  pub search_order : (k : ℕ) (c : Class) (par : Parents) (list : List ℕ) → IsNumbered order parents differ are k c par → IsSearched parents k list → IsSearchOrder p c list
  search_order k c par list is searched = record {
    finds = λ s found h.
        let same : searched.parents ≡ par = same_Some searched.parents par (sym searched.stands ∙ is.stands) in
        let all = with_doubles p s searched.all found (subst (λ (l : List ℕ). IsFirstField p s l found) searched.is h) in
        let among = search s searched.parents.interfaces.items searched.all found searched.expands all in
        subst (λ (ns : List (List ℕ)). FindsAmong p s ns found) (ap (λ (q : Parents). map name q.interfaces.items) same ∙ is.are_supers.interfaces) among;
  }
