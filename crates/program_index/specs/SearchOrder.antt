-- Public contracts rest on this module.
-- The order in which resolution searches the supertypes of a class (JVMS 5.4.3.2).
use Rattle.std.specs.Prelude.{◌≡◌, ℕ, List, [], ◌∷◌, ◌++◌, Some, nat_eq, not, filter, slice_get}
use Rattle.program_index.specs.declared.parents.Parents.{Parents}
use Rattle.program_index.specs.Supertypes.{direct_of}

-- What is searched, with doubles, where classes are searched one after another: a class, then its superinterfaces in order and
-- its superclass, each in the same way, and then the next class.
pub data ExpandsAll (g : List Parents) : List ℕ → List ℕ → Type 0 where
  none_left : (list : List ℕ) → list ≡ [] → ExpandsAll g [] list
  first_then : (x : ℕ) (xs list : List ℕ) (parents : Parents) (inner others : List ℕ) → slice_get g x ≡ Some parents
      → ExpandsAll g (direct_of parents) inner → ExpandsAll g xs others → list ≡ x ∷ (inner ++ others) → ExpandsAll g (x ∷ xs) list

-- What is searched from one class on.
abbrev pub Expands : List Parents → ℕ → List ℕ → Type 0
Expands g x list = ExpandsAll g (x ∷ []) list

-- The list without doubles, each number at its first place.
abbrev pub firsts : List ℕ → List ℕ
firsts [] = []
firsts (x ∷ xs) = x ∷ filter (λ y. not (nat_eq x y)) (firsts xs)
