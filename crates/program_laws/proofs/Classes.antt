-- The classes of a program by their names, and their supertypes.
use Rattle.std.proofs.Common.{◌≡◌, ◌⊎◌, inl, inr, ℕ, map, Bool, true, false, cond, List, [], ◌∷◌, Some, refl, sym, ap, ◌∙◌, subst}
use Rattle.std.specs.List.{Contains, find}
use Rattle.std.specs.Str.{bytes_eq}
use Rattle.std.proofs.lemmas.List.Elements.{All-contains}
use Rattle.std.proofs.lemmas.Option.{none-some, same_Some}
use Rattle.jvm_model.specs.LinkedPrograms.{IsProgram, HasSupers, class_names}
use Rattle.jvm_model.specs.Programs.{Class, Program}
use Rattle.jvm_model.specs.Subtypes.{class_named}
use Rattle.std.proofs.lemmas.Slice.Eq.{bytes_eq-Decides}
use Rattle.list_laws.proofs.Members.{contains_cases, contains_first, contains_later, contains_none}
use Rattle.program_laws.proofs.Orders.{this_or_other}

-- what is found by a name stands among the classes, and has the name
abbrev Found : List Class → List ℕ → Class → Type 0
Found classes name c = Contains classes c × (c.name ≡ name)

found_there : (classes : List Class) (name : List ℕ) (c : Class) → find (λ (d : Class). bytes_eq d.name name) classes ≡ Some c → Found classes name c
found_there [] name c e = absurd (none-some c e)
found_there (d ∷ classes) name c e = by (found_there classes name c) (this_or_other d.name name)
  where
    here : d.name ≡ name → d ≡ c → Found (d ∷ classes) name c
    here named same = (subst (λ (x : Class). Contains (d ∷ classes) x) same (contains_first d classes), ap (λ (x : Class). x.name) (sym same) ∙ named)

    first : (b : Bool) → bytes_eq d.name name ≡ b → b ≡ true → d ≡ c
    first b is t = same_Some d c (sym (ap (λ (v : Bool). cond v (Some d) (find (λ (x : Class). bytes_eq x.name name) classes)) (is ∙ t)) ∙ e)

    by : (find (λ (x : Class). bytes_eq x.name name) classes ≡ Some c → Found classes name c) → (d.name ≡ name) ⊎ (bytes_eq d.name name ≡ false) → Found (d ∷ classes) name c
    by later (inl named) = here named (first (bytes_eq d.name name) refl ((bytes_eq-Decides d.name name).1 named))
    by later (inr differs) =
        let rest = later (sym (ap (λ (v : Bool). cond v (Some d) (find (λ (x : Class). bytes_eq x.name name) classes)) differs) ∙ e) in
        (contains_later d c classes rest.0, rest.1)

pub name_is : (p : Program) (name : List ℕ) (c : Class) → class_named p name ≡ Some c → c.name ≡ name
name_is p name c named = (found_there p.classes name c named).1

pub supers_of : (p : Program) → IsProgram p → (name : List ℕ) (c : Class) → class_named p name ≡ Some c → HasSupers p c
supers_of p program name c named = All-contains (HasSupers p) p.classes c program.supers (found_there p.classes name c named).0

-- the name is one of the program's
pub named_there : (p : Program) (name : List ℕ) (c : Class) → class_named p name ≡ Some c → Contains (class_names p) name
named_there p name c named = subst (Contains (class_names p)) (name_is p name c named) (mapped_there p.classes (found_there p.classes name c named).0)
  where
    mapped_there : (classes : List Class) → Contains classes c → Contains (map (λ (d : Class). d.name) classes) c.name
    mapped_there [] there = absurd (contains_none c there)
    mapped_there (d ∷ classes) there = by (mapped_there classes) (contains_cases d c classes there)
      where
        by : (Contains classes c → Contains (map (λ (x : Class). x.name) classes) c.name) → (d ≡ c) ⊎ Contains classes c → Contains (d.name ∷ map (λ (x : Class). x.name) classes) c.name
        by later (inl same) = subst (λ (x : Class). Contains (d.name ∷ map (λ (y : Class). y.name) classes) x.name) same (contains_first d.name (map (λ (y : Class). y.name) classes))
        by later (inr rest) = contains_later d.name c.name (map (λ (y : Class). y.name) classes) (later rest)
