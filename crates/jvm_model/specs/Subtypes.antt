-- Public contracts rest on this module.
-- Subtypes (JVMS 4.10.1.2, 5.5): the reflexive and transitive closure of the direct supertypes; chains of superclasses;
-- superinterfaces; and what an object of a class or an array may be cast to.
use Rattle.std.specs.Prelude.{codes, ◌≡◌, ◌≢◌, ◌⊎◌, ℕ, List, [], ◌∷◌, ◌++◌, find, Option, Some, None, Contains, IsTrue, if◌then◌else◌}
use Rattle.std.specs.Str.{bytes_eq}
use Rattle.jvm_model.specs.Programs.{Class, Program, object_name}
use Rattle.jvm_model.specs.Soundness.{is_array}

-- The class of a name.
abbrev pub class_named : Program → List ℕ → Option Class
class_named p name = find (λ (c : Class). bytes_eq c.name name) p.classes

-- The class's superclass, or one of its superinterfaces.
abbrev pub IsDirectSuper : Class → List ℕ → Type 0
IsDirectSuper c name = (c.super_class ≡ Some name) ⊎ Contains c.interfaces name

-- A class is a subtype of itself, and of what a direct supertype is a subtype of.
pub data IsSubtype (p : Program) (above : List ℕ) : List ℕ → Type 0 where
  same : (name : List ℕ) → name ≡ above → IsSubtype p above name
  below : (name : List ℕ) (c : Class) (super : List ℕ) → class_named p name ≡ Some c → IsDirectSuper c super → IsSubtype p above super → IsSubtype p above name

-- The class is another one than the one above it.
abbrev pub IsProperSubtype : Program → List ℕ → List ℕ → Type 0
IsProperSubtype p name above = IsSubtype p above name × (name ≢ above)

-- The class is above itself: it is a subtype of itself through a direct supertype (JVMS 5.3.5).
pub record IsCyclic (p : Program) (name : List ℕ) : Type 0 where
  pub class : Class
  pub named : class_named p name ≡ Some class
  pub super : List ℕ
  pub direct : IsDirectSuper class super
  pub back : IsSubtype p name super

-- A class and its superclasses, from the class of a name upward to the one that has no superclass.
abbrev pub IsChain : Program → Option (List ℕ) → List Class → Type 0
IsChain p None [] = Unit {0}
IsChain p None (c ∷ chain) = ⊥
IsChain p (Some name) [] = ⊥
IsChain p (Some name) (c ∷ chain) = (class_named p name ≡ Some c) × IsChain p c.super_class chain

-- The name is that of an interface of which the class is a proper subtype: a superinterface, direct or not.
pub record IsSuperinterface (p : Program) (class name : List ℕ) : Type 0 where
  pub interface : Class
  pub named : class_named p name ≡ Some interface
  pub kind : IsTrue interface.is_interface
  pub below : IsProperSubtype p class name

-- ---- classes and arrays

-- The descriptor of a reference type that a class entry names: of an array it is the name (JVMS 4.3.2, 4.4.1).
abbrev pub reference_descriptor : List ℕ → List ℕ
reference_descriptor name = if is_array name then name else codes "L" ++ name ++ codes ";"

-- The name of the array whose elements are of the reference type of a name.
abbrev pub array_of : List ℕ → List ℕ
array_of name = codes "[" ++ reference_descriptor name

-- The supertypes that each array has (JVMS 4.10.1.2).
abbrev pub IsArraySuper : List ℕ → Type 0
IsArraySuper name = (name ≡ object_name) ⊎ (name ≡ codes "java/lang/Cloneable") ⊎ (name ≡ codes "java/io/Serializable")

-- An object of the type with the lower name is one of the type with the upper name (JVMS 5.5, 6.5.checkcast): a class
-- of the program by its supertypes; an array by those of each array, as itself, or by its elements.
pub data Fits (p : Program) : (upper lower : List ℕ) → Type 0 where
  by_class : (upper lower : List ℕ) (c : Class) → class_named p lower ≡ Some c → IsSubtype p upper lower → Fits p upper lower
  by_array : (upper lower : List ℕ) → IsTrue (is_array lower) → IsArraySuper upper → Fits p upper lower
  by_itself : (upper lower : List ℕ) → IsTrue (is_array lower) → upper ≡ lower → Fits p upper lower
  by_elements : (upper lower above below : List ℕ) → upper ≡ array_of above → lower ≡ array_of below → Fits p above below → Fits p upper lower
