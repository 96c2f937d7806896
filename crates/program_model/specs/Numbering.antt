-- Public contracts rest on this module.
-- The direct supertypes of the classes of a program, by number.
use Rattle.std.specs.Prelude.{◌≡◌, ℕ, ◌<◌, List, [], map, length, All, Contains, option_map, unwrap_or, slice_get}
use Rattle.std.specs.List.{AllZip}
use Rattle.std.specs.Option.{option_to_list}
use Rattle.jvm_model.specs.declared.program.Origin.{Origin}
use Rattle.jvm_model.specs.Linking.{class_from, names}
use Rattle.jvm_model.specs.Programs.{Class}
use Rattle.program_index.specs.declared.parents.Parents.{Parents}
use Rattle.program_index.specs.Supertypes.{direct_of}

-- The name of a number.
abbrev pub name_in : List (List ℕ) → ℕ → List ℕ
name_in all number = unwrap_or (slice_get all number) []

-- The numbers are those of the supertypes of the class, among the names.
pub record IsParents (all : List (List ℕ)) (c : Class) (p : Parents) : Type 0 where
  pub below : All (λ n. n < length all) (direct_of p)
  pub super_class : option_map (name_in all) p.super_class ≡ c.super_class
  pub interfaces : map (name_in all) p.interfaces.items ≡ c.interfaces

-- So it is of each class.
abbrev pub AreParents : List Origin → List Parents → Type 0
AreParents order parents = AllZip (λ (o : Origin) (p : Parents). IsParents (names order) (class_from o) p) order parents

-- Each supertype of the class is named.
pub record HasNames (all : List (List ℕ)) (c : Class) : Type 0 where
  pub super_class : All (Contains all) (option_to_list c.super_class)
  pub interfaces : All (Contains all) c.interfaces
