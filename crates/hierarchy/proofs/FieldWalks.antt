-- The search for a field: in a class, in its superinterfaces, and then in its superclass.
use Rattle.std.proofs.Common.{◌≡◌, ℕ, ◌<◌, List, [], ◌∷◌, ◌++◌, ◌≤◌, length, get_or, drop, Option, Some, None, IfSome, refl, sym, subst, inl, inr}
use Rattle.std.specs.List.{slice_get}
use Rattle.std.specs.Option.{option_to_list}
use Rattle.std.proofs.Math.Seq.{drop-cons}
use Rattle.std.proofs.lemmas.List.{drop_all}
use Rattle.std.proofs.lemmas.Option.{slice_get_within, none-some}
use Rattle.jvm_model.specs.Lookups.{Signature}
use Rattle.jvm_model.specs.Programs.{Class, Program}
use Rattle.jvm_model.specs.Subtypes.{class_named, IsChain}
use Rattle.jvm_model.specs.Resolution.{DeclaresField, FindsField, FindsAmong, itself, above, nowhere, first, later}
use Rattle.jvm_model.specs.declared.number.FieldNo.{FieldNo}
use Rattle.program_model.specs.FieldSearches.{IsFirstField, IsSearchOrder}
use Rattle.program_model.specs.Numbers.{name_at, IsFieldNumber}
use Rattle.hierarchy.specs.Searches.{DeclaresNoField, FindsBelow, plain_field}
use Rattle.hierarchy.specs.Upward.{AnswersFirst}
use Rattle.hierarchy.proofs.ClassPlaces.{number_named, name_at-at}

-- ---- one class after another

-- What is found among the classes from a place on is what is found among all.
pub record IsRestOf (p : Program) (s : Signature) (classes : List ℕ) (place : ℕ) : Type 0 where
  pub whole : (found : Option ℕ) → IsFirstField p s (drop place classes) found → IsFirstField p s classes found

first_here : (p : Program) (s : Signature) (classes : List ℕ) (k number : ℕ) → k < length classes → DeclaresField p s (name_at p (get_or classes k 0)) number
    → IsRestOf p s classes k → IsFirstField p s classes (Some number)
first_here p s classes k number lt declares rest =
    rest.whole (Some number) (subst (λ (xs : List ℕ). IsFirstField p s xs (Some number)) (sym (drop-cons classes k 0 lt)) (inl (number, refl, declares)))

first_nowhere : (p : Program) (s : Signature) (classes : List ℕ) (k : ℕ) → length classes ≤ k → IsRestOf p s classes k → IsFirstField p s classes None
first_nowhere p s classes k all rest = rest.whole None (subst (λ (xs : List ℕ). IsFirstField p s xs None) (sym (drop_all k classes all)) refl)

-- ---- superinterfaces, and then the superclass

among_more : (p : Program) (s : Signature) (number : ℕ) (others more : List (List ℕ)) (found : Option ℕ) → found ≡ Some number → FindsAmong p s others found → FindsAmong p s (others ++ more) found
among_more p s number others more found e nowhere = absurd (none-some number e)
among_more p s number others more found e (first class rest n field) = first class (rest ++ more) n field
among_more p s number others more found e (later class rest _ none h) = later class (rest ++ more) found none (among_more p s number rest more found e h)

among_then : (p : Program) (s : Signature) (others more : List (List ℕ)) (before found : Option ℕ) → before ≡ None → FindsAmong p s others before → FindsAmong p s more found → FindsAmong p s (others ++ more) found
among_then p s others more before found e nowhere h = h
among_then p s others more before found e (first class rest n field) h = absurd (none-some n (sym e))
among_then p s others more before found e (later class rest _ none x) h = later class (rest ++ more) found none (among_then p s rest more before found e x h)

no_field : (p : Program) (s : Signature) (name : List ℕ) (c : Class) → class_named p name ≡ Some c → DeclaresNoField p s c → (number : ℕ) → DeclaresField p s name number → ⊥
no_field p s name c named none = subst (λ (x : List ℕ). (number : ℕ) → DeclaresField p s x number → ⊥) (number_named p name c named).2 none

-- What is found from the class of a name on, if there is one.
abbrev FindsFrom : Program → Signature → Option (List ℕ) → Option ℕ → Type 0
FindsFrom p s None found = FindsAmong p s [] found
FindsFrom p s (Some name) found = FindsField p s name found

among_from : (p : Program) (s : Signature) (start : Option (List ℕ)) (found : Option ℕ) → FindsFrom p s start found → FindsAmong p s (option_to_list start) found
among_from p s None found h = h
among_from p s (Some name) None h = later name [] None h nowhere
among_from p s (Some name) (Some number) h = first name [] number h

-- what is found above a class that finds nothing, nor its superinterfaces
beyond : (p : Program) (s : Signature) (name : List ℕ) (c : Class) (found : Option ℕ) → class_named p name ≡ Some c → FindsBelow p s c None → FindsFrom p s c.super_class found
    → FindsField p s name found
beyond p s name c found named none higher =
    above name found c named (no_field p s name c named none.0)
    (among_then p s c.interfaces (option_to_list c.super_class) None found refl none.1 (among_from p s c.super_class found higher))

-- what a walk finds that looks for a field
pub field_first : (p : Program) (s : Signature) (start : Option (List ℕ)) (chain : List Class) (found : Option FieldNo) → IsChain p start chain → AnswersFirst (FindsBelow p s) chain found
    → FindsFrom p s start (plain_field found)
field_first p s None [] None is h = nowhere
field_first p s None [] (Some field) is h = absurd h
field_first p s None (c ∷ chain) found is h = absurd is
field_first p s (Some name) [] found is h = absurd is
field_first p s (Some name) (c ∷ chain) (Some field) is (inl here) =
    elim here.0 [
      | inl declares ↦ itself name field.0 (subst (λ (x : List ℕ). DeclaresField p s x field.0) (number_named p name c is.0).2 declares)
      | inr among ↦
          above name (Some field.0) c is.0 (no_field p s name c is.0 among.0)
          (among_more p s field.0 c.interfaces (option_to_list c.super_class) (Some field.0) refl among.1)
    ]
field_first p s (Some name) (c ∷ chain) (Some field) is (inr h) = beyond p s name c (Some field.0) is.0 h.0 (field_first p s c.super_class chain (Some field) is.1 h.1)
field_first p s (Some name) (c ∷ chain) None is h = beyond p s name c None is.0 h.0 (field_first p s c.super_class chain None is.1 h.1)

-- the field is there
pub field_within : (p : Program) (s : Signature) (chain : List Class) (found : Option FieldNo) → AnswersFirst (FindsBelow p s) chain found → IfSome found (λ f. IsFieldNumber p f.0)
field_within p s chain None h = tt
field_within p s [] (Some field) h = absurd h
field_within p s (c ∷ chain) (Some field) (inl here) = here.1
field_within p s (c ∷ chain) (Some field) (inr h) = field_within p s chain (Some field) h.1

-- what a class declares itself
pub field_here : (p : Program) (s : Signature) (n : ℕ) (c : Class) (field : FieldNo) → slice_get p.classes n ≡ Some c → DeclaresField p s (name_at p n) field.0
    → FindsBelow p s c (Some field)
field_here p s n c field stands declares =
    (inl (subst (λ (x : List ℕ). DeclaresField p s x field.0) (name_at-at p n c stands) declares), slice_get_within p.fields field.0 declares.field declares.stands)

declares_none : (p : Program) (s : Signature) (n : ℕ) (c : Class) → slice_get p.classes n ≡ Some c → ((number : ℕ) → DeclaresField p s (name_at p n) number → ⊥) → DeclaresNoField p s c
declares_none p s n c stands = subst (λ (x : List ℕ). (number : ℕ) → DeclaresField p s x number → ⊥) (name_at-at p n c stands)

-- what is found in the superinterfaces of a class that declares none
pub found_among : (p : Program) (s : Signature) (n : ℕ) (c : Class) (numbers : List ℕ) (k : ℕ) (field : FieldNo) → slice_get p.classes n ≡ Some c → IsSearchOrder p c numbers
    → ((number : ℕ) → DeclaresField p s (name_at p n) number → ⊥) → IsRestOf p s numbers k → k < length numbers → DeclaresField p s (name_at p (get_or numbers k 0)) field.0
    → FindsBelow p s c (Some field)
found_among p s n c numbers k field stands order none rest lt declares = (
  inr (declares_none p s n c stands none, order.finds s (Some field.0) (first_here p s numbers k field.0 lt declares rest)),
  slice_get_within p.fields field.0 declares.field declares.stands,
)

pub none_among : (p : Program) (s : Signature) (n : ℕ) (c : Class) (numbers : List ℕ) (k : ℕ) → slice_get p.classes n ≡ Some c → IsSearchOrder p c numbers
    → ((number : ℕ) → DeclaresField p s (name_at p n) number → ⊥) → IsRestOf p s numbers k → length numbers ≤ k → FindsBelow p s c None
none_among p s n c numbers k stands order none rest all = (declares_none p s n c stands none, order.finds s None (first_nowhere p s numbers k all rest))
