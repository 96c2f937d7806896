-- Public contracts rest on this module.
-- The initialisation that an instruction may start, as a node's exceptions depend on it (JVMS 5.5).
use Rattle.std.specs.Prelude.{codes, ◌≡◌, ◌⊎◌, ℕ, List, [], ◌∷◌, ◌++◌, map, flat_map, Option, Some, None, option_map, option_to_list, position, Contains}
use Rattle.std.specs.Str.{bytes_eq}
use Rattle.jvm_model.specs.declared.number.ClassNo.{ClassNo}
use Rattle.jvm_model.specs.Programs.{Class, Program}
use Rattle.jvm_model.specs.Table.{Raise}
use Rattle.machine_bytecode.specs.Machine.{exception_class}
use Rattle.machine_nodes.specs.Nodes.{IsClassNumber, HasInitialiser}

-- The class of the number, if there is one, has this name.
pub data IsTriggerOf (p : Program) (number : Option ClassNo) (class : Option (List ℕ)) : Type 0 where
  no_class : number ≡ None → class ≡ None → IsTriggerOf p number class
  a_class : (n : ClassNo) (name : List ℕ) → IsClassNumber p n name → number ≡ Some n → class ≡ Some name → IsTriggerOf p number class

-- The class of the name, if it is in the program, is added, and nothing else.
pub record AddsClass (p : Program) (name : List ℕ) (old new : List ClassNo) : Type 0 where
  pub only : (c : ClassNo) → Contains new c → Contains old c ⊎ IsClassNumber p c name
  pub kept : (c : ClassNo) → Contains old c → Contains new c
  pub added : (c : ClassNo) → IsClassNumber p c name → Contains new c

-- These are the classes of the program that are raised.
pub record AreRaised (p : Program) (raises : List Raise) (classes : List ClassNo) : Type 0 where
  pub only : (c : ClassNo) → Contains classes c → (raise : Raise) × Contains raises raise × IsClassNumber p c (exception_class raise)
  pub all : (c : ClassNo) (raise : Raise) → Contains raises raise → IsClassNumber p c (exception_class raise) → Contains classes c

-- ---- the order of the classes

-- The number of the class of the name, if it is in the program.
abbrev pub number_named : Program → List ℕ → List ClassNo
number_named p name = option_to_list (option_map (λ (n : ℕ). record { 0 = n }) (position (λ (c : Class). bytes_eq c.name name) p.classes))

-- The numbers of the classes of the names, of those that are in the program, in the order of the names.
abbrev pub numbers_named : Program → List (List ℕ) → List ClassNo
numbers_named p names = flat_map (number_named p) names

-- The errors of initialisation (JVMS 5.5).
abbrev pub initialisation_errors : List (List ℕ)
initialisation_errors = codes "java/lang/ExceptionInInitializerError" ∷ codes "java/lang/NoClassDefFoundError" ∷ []

-- What an instruction throws, in order: the classes that it raises, as its row lists them; and then the errors of initialisation, if
-- the class whose initialisation it may start has an initialiser.
pub data IsThrownList (p : Program) (raises : List Raise) (trigger : Option (List ℕ)) (throws : List ClassNo) : Type 0 where
  raised_alone : ((class : List ℕ) → trigger ≡ Some class → HasInitialiser p class → ⊥) → throws ≡ numbers_named p (map exception_class raises)
      → IsThrownList p raises trigger throws
  with_errors : (class : List ℕ) → trigger ≡ Some class → HasInitialiser p class → throws ≡ numbers_named p (map exception_class raises ++ initialisation_errors)
      → IsThrownList p raises trigger throws
