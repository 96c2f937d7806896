-- Public contracts rest on this module.
-- How the tables of the base stubs are written: methods, fields, classes and interfaces of the library.
use Rattle.std.specs.Prelude.{codes, ℕ, true, false, List, [], ◌∷◌, Some}
use Rattle.jvm_model.specs.declared.stub.StubArgument.{StubArgument}
use Rattle.jvm_model.specs.declared.stub.StubArgument.TheVariants.{Argument}
use Rattle.jvm_model.specs.declared.stub.StubResult.{StubResult}
use Rattle.jvm_model.specs.declared.stub.StubResult.TheVariants.{Void}
use Rattle.jvm_model.specs.declared.stub.StubMethod.{StubMethod}
use Rattle.jvm_model.specs.declared.stub.StubField.{StubField}
use Rattle.jvm_model.specs.declared.stub.StubClass.{StubClass}

-- A method by its name and descriptor, its results, what it throws, and the arguments that it keeps.
abbrev pub method : List ℕ → List ℕ → List StubResult → List (List ℕ) → List StubArgument → StubMethod
method name descriptor returns throws keeps =
    record { name = name; descriptor = descriptor; is_static = false; is_abstract = false; returns = returns; throws = throws; keeps = keeps }

abbrev pub static_method : List ℕ → List ℕ → List StubResult → List (List ℕ) → List StubArgument → StubMethod
static_method name descriptor returns throws keeps =
    record { name = name; descriptor = descriptor; is_static = true; is_abstract = false; returns = returns; throws = throws; keeps = keeps }

-- A method that an override has to describe.
abbrev pub abstract_method : List ℕ → List ℕ → StubMethod
abstract_method name descriptor =
    record { name = name; descriptor = descriptor; is_static = false; is_abstract = true; returns = []; throws = []; keeps = [] }

-- A static field, and the class of the object that it holds from the start.
abbrev pub held_field : List ℕ → List ℕ → List ℕ → StubField
held_field name descriptor class = record { name = name; descriptor = descriptor; is_static = true; holds = Some class }

-- A class by its name, its superclass, its interfaces, its methods and its fields. The file of a base stub is -.
abbrev pub library_class : List ℕ → List ℕ → List (List ℕ) → List StubMethod → List StubField → StubClass
library_class name super_class interfaces methods fields =
    record {
      file = codes "-";
      name = name;
      super_class = super_class;
      interfaces = interfaces;
      is_interface = false;
      is_patch = false;
      methods = methods;
      fields = fields;
    }

-- An interface by its name, those that it extends, and its methods.
abbrev pub library_interface : List ℕ → List (List ℕ) → List StubMethod → StubClass
library_interface name extended methods =
    record {
      file = codes "-";
      name = name;
      super_class = codes "java/lang/Object";
      interfaces = extended;
      is_interface = true;
      is_patch = false;
      methods = methods;
      fields = [];
    }

-- The constructors of an exception: without parameters, with a message, and with a message and a cause. Both are kept.
abbrev pub plain : List StubMethod
plain = method (codes "<init>") (codes "()V") (Void ∷ []) [] [] ∷ []

abbrev pub with_message : List StubMethod
with_message =
    method (codes "<init>") (codes "()V") (Void ∷ []) [] []
    ∷ method (codes "<init>") (codes "(Ljava/lang/String;)V") (Void ∷ []) [] (Argument 1 ∷ [])
    ∷ []

abbrev pub with_cause : List StubMethod
with_cause =
    method (codes "<init>") (codes "()V") (Void ∷ []) [] []
    ∷ method (codes "<init>") (codes "(Ljava/lang/String;)V") (Void ∷ []) [] (Argument 1 ∷ [])
    ∷ method (codes "<init>") (codes "(Ljava/lang/String;Ljava/lang/Throwable;)V") (Void ∷ []) [] (Argument 1 ∷ Argument 2 ∷ [])
    ∷ []
