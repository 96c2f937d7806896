-- What is searched from classes on: what is in it, and in the list without doubles.
use Rattle.std.proofs.Common.{◌≡◌, ℕ, List, [], ◌∷◌, ◌++◌, Some, refl, sym, ◌∙◌, ap, subst, inl, inr}
use Rattle.std.specs.List.{slice_get, Contains}
use Rattle.std.proofs.lemmas.Option.{same_Some}
use Rattle.std.proofs.lemmas.List.{append_assoc}
use Rattle.std.proofs.lemmas.List.Elements.{Contains-append_left, Contains-append_right, Contains-append_cases}
use Rattle.list_laws.proofs.Members.{contains_cases, contains_first, contains_later, contains_none}
use Rattle.program_index.specs.declared.parents.Parents.{Parents}
use Rattle.program_index.specs.Supertypes.{IsDirect, IsInterfaceOf, one_step, more_steps, IsAtOrAbove, at, above, direct_of}
use Rattle.program_index.specs.SearchOrder.{ExpandsAll, none_left, first_then}
use Rattle.program_index.specs.AboveLists.{IsSearched}
use Rattle.program_index.proofs.SearchedPlaces.{firsts_contains, contains_firsts}
use Rattle.program_index.proofs.UpwardSteps.{at_or_above_step}

-- classes searched one after another, and then others
pub expands_append : (g : List Parents) (xs ys all more : List ℕ) → ExpandsAll g xs all → ExpandsAll g ys more → ExpandsAll g (xs ++ ys) (all ++ more)
expands_append g [] ys all more (none_left _ e) b = subst (λ (zs : List ℕ). ExpandsAll g ys (zs ++ more)) (sym e) b
expands_append g (x ∷ xs) ys all more (first_then _ _ _ p inner others stands i o e) b =
    first_then x (xs ++ ys) (all ++ more) p inner (others ++ more) stands i (expands_append g xs ys others more o b)
    (ap (λ (zs : List ℕ). zs ++ more) e ∙ ap (λ (zs : List ℕ). x ∷ zs) (append_assoc inner others more))

-- What is searched is a class that the search began with, or above one.
pub from_searched : (g : List Parents) (xs all : List ℕ) → ExpandsAll g xs all → (y : ℕ) → Contains all y → (i : ℕ) × Contains xs i × IsAtOrAbove g i y
from_searched g [] all (none_left _ e) y c = absurd (contains_none y (subst (λ (zs : List ℕ). Contains zs y) e c))
from_searched g (x ∷ xs) all (first_then _ _ _ p inner others stands i o e) y c =
    elim (contains_cases x y (inner ++ others) (subst (λ (zs : List ℕ). Contains zs y) e c)) [
      | inl same ↦ (x, contains_first x xs, at same)
      | inr later ↦ elim (Contains-append_cases inner others y later) [
        | inl inside ↦ (let found = from_searched g (direct_of p) inner i y inside in
            (x, contains_first x xs, above (at_or_above_step g x found.0 y (record { parents = p; stands = stands; among = found.1 }) found.2)))
        | inr after ↦ (let found = from_searched g xs others o y after in (found.0, contains_later x found.0 xs found.1, found.2))
      ]
    ]

-- And each of these is searched.
searched_inside : (g : List Parents) (x y : ℕ) (p : Parents) (inner others : List ℕ) → ((j z : ℕ) → Contains (direct_of p) j → IsAtOrAbove g j z → Contains inner z)
    → (j : ℕ) → slice_get g x ≡ Some p → IsDirect g x j → IsAtOrAbove g j y → Contains (x ∷ (inner ++ others)) y
searched_inside g x y p inner others known j stands d a =
    let among : Contains (direct_of p) j = subst (λ (q : Parents). Contains (direct_of q) j) (same_Some d.parents p (sym d.stands ∙ stands)) d.among in
    contains_later x y (inner ++ others) (Contains-append_left inner others y (known j y among a))

searched_first : (g : List Parents) (x y : ℕ) (p : Parents) (inner others : List ℕ) → slice_get g x ≡ Some p
    → ((j z : ℕ) → Contains (direct_of p) j → IsAtOrAbove g j z → Contains inner z) → IsAtOrAbove g x y → Contains (x ∷ (inner ++ others)) y
searched_first g x y p inner others stands known (at e) = subst (λ (z : ℕ). Contains (x ∷ (inner ++ others)) z) e (contains_first x (inner ++ others))
searched_first g x y p inner others stands known (above (one_step _ _ d)) = searched_inside g x y p inner others known y stands d (at refl)
searched_first g x y p inner others stands known (above (more_steps _ j _ d a)) = searched_inside g x y p inner others known j stands d (above a)

pub to_searched : (g : List Parents) (xs all : List ℕ) → ExpandsAll g xs all → (i y : ℕ) → Contains xs i → IsAtOrAbove g i y → Contains all y
to_searched g [] all (none_left _ e) i y c a = absurd (contains_none i c)
to_searched g (x ∷ xs) all (first_then _ _ _ p inner others stands ie oe e) i y c a =
    subst (λ (zs : List ℕ). Contains zs y) (sym e)
    (elim (contains_cases x i xs c) [
      | inl same ↦ searched_first g x y p inner others stands (to_searched g (direct_of p) inner ie) (subst (λ (z : ℕ). IsAtOrAbove g z y) (sym same) a)
      | inr later ↦ contains_later x y (inner ++ others) (Contains-append_right inner others y (to_searched g xs others oe i y later a))
    ])

-- The list of a class has what is at or above one of its superinterfaces.
pub listed_from_interface : (g : List Parents) (c : ℕ) (list : List ℕ) → IsSearched g c list → (x : ℕ) → Contains list x → (i : ℕ) × IsInterfaceOf g c i × IsAtOrAbove g i x
listed_from_interface g c list searched x has =
    let all = contains_firsts searched.all x (subst (λ (zs : List ℕ). Contains zs x) searched.is has) in
    let found = from_searched g searched.parents.interfaces.items searched.all searched.expands x all in
    (found.0, record { parents = searched.parents; stands = searched.stands; among = found.1 }, found.2)

pub interface_is_listed : (g : List Parents) (c : ℕ) (list : List ℕ) → IsSearched g c list → (i x : ℕ) → IsInterfaceOf g c i → IsAtOrAbove g i x → Contains list x
interface_is_listed g c list searched i x interface a =
    let same = same_Some interface.parents searched.parents (sym interface.stands ∙ searched.stands) in
    let among = subst (λ (p : Parents). Contains p.interfaces.items i) same interface.among in
    subst (λ (zs : List ℕ). Contains zs x) (sym searched.is)
    (firsts_contains searched.all x (to_searched g searched.parents.interfaces.items searched.all searched.expands i x among a))
