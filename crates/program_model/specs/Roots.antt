-- Public contracts rest on this module.
-- The class at the top: java/lang/Object alone has no superclass (JVMS 4.1), so a program that has a class has it.
use Rattle.std.specs.Prelude.{◌≡◌, Some, Contains}
use Rattle.jvm_model.specs.Programs.{Class, Program, object_name}
use Rattle.jvm_model.specs.Subtypes.{class_named}

-- The class java/lang/Object is one of the program.
abbrev pub HasObject : Program → Type 0
HasObject p = (object : Class) × (class_named p object_name ≡ Some object)

-- It is, where there is a class.
abbrev pub HasRoot : Program → Type 0
HasRoot p = (c : Class) → Contains p.classes c → HasObject p
