-- Public contracts rest on this module.
-- Access paths: a root, and the instance fields that are followed from it, one after another; their order, and sets of them.
use Rattle.std.specs.Prelude.{ℕ, nat_eq, nat_lt, Bool, true, false, ◌&&◌, ◌||◌, List, [], ◌∷◌, ◌++◌, map, if◌then◌else◌}
use Rattle.std.specs.List.{list_any}
use Rattle.std.specs.Str.{bytes_eq}
use Rattle.jvm_model.specs.declared.number.FieldNo.{FieldNo}
use Rattle.access_paths.specs.declared.root.Root.{Root}
use Rattle.access_paths.specs.declared.root.Root.TheVariants.{Slot, Static, Returned, Thrown}

pub record Path : Type 0 where
  pub root : Root
  pub fields : List FieldNo

-- The path of a root alone.
abbrev pub bare : Root → Path
bare r = record { root = r; fields = [] }

-- A set has at most so many paths.
abbrev pub most_paths : ℕ
most_paths = 6

-- ---- the order of paths

abbrev pub number_of : FieldNo → ℕ
number_of f = f.0

-- The numbers by which paths are ordered: those of the root and then those of the fields. Slots come first, then static fields, the value
-- that is returned, and the value that is thrown.
abbrev pub root_key : Root → List ℕ
root_key (Slot z) = 0 ∷ z ∷ []
root_key (Static f) = 1 ∷ f.0 ∷ []
root_key Returned = 2 ∷ []
root_key Thrown = 3 ∷ []

abbrev pub path_key : Path → List ℕ
path_key x = root_key x.root ++ map number_of x.fields

-- The first number that differs decides, and a list comes before those that go on behind it.
abbrev pub comes_before : List ℕ → List ℕ → Bool
comes_before [] [] = false
comes_before [] (n ∷ ns) = true
comes_before (m ∷ ms) [] = false
comes_before (m ∷ ms) (n ∷ ns) = nat_lt m n || (nat_eq m n && comes_before ms ns)

abbrev pub same_root : Root → Root → Bool
same_root r s = bytes_eq (root_key r) (root_key s)

abbrev pub same_path : Path → Path → Bool
same_path x y = bytes_eq (path_key x) (path_key y)

-- ---- sets: lists in order, without doubles

abbrev pub has_path : List Path → Path → Bool
has_path set x = list_any (same_path x) set

-- The set with a path more, unless it has it.
abbrev pub with_path : Path → List Path → List Path
with_path x [] = x ∷ []
with_path x (y ∷ ys) =
    if comes_before (path_key x) (path_key y) then x ∷ y ∷ ys else if same_path x y then y ∷ ys else y ∷ with_path x ys

-- These paths as a set.
abbrev pub path_set : List Path → List Path
path_set [] = []
path_set (x ∷ xs) = with_path x (path_set xs)
