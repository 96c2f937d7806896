-- Public contracts rest on this module.
-- When linking is given more than 32 bits can number.
use Rattle.std.specs.Prelude.{◌⊎◌, List, filter, map, Contains}
use Rattle.jvm_model.specs.declared.class_file.ClassFile.{ClassFile}
use Rattle.jvm_model.specs.declared.program.NamedClass.{NamedClass}
use Rattle.jvm_model.specs.declared.program.Origin.{Origin}
use Rattle.jvm_model.specs.declared.stub.StubClass.{StubClass}
use Rattle.jvm_model.specs.Linking.{Description, IsOrder, native_descriptions, origins, own_classes, stub_descriptions}
use Rattle.failure.specs.declared.Failure.{Failure}
use Rattle.failure.specs.declared.Failure.TheVariants.{Cause, OutOfMemory}
use Rattle.program_index.specs.declared.index_failure.TooMany.{TooMany}
use Rattle.program_index.specs.Limits.{AreTooMany}
use Rattle.program_model.specs.Assembling.{IsTooLarge}
use Rattle.program_model.specs.MemberLists.{AreTooManyKeys}
use Rattle.program_linking.specs.Claims.{all_names}
use Rattle.program_linking.specs.Patching.{is_patch_stub, method_key, native_keys}

-- The failure says that there is too much to number, and this is so; or out of memory.
abbrev pub TellsTooMany : Type 0 → Failure TooMany → Type 0
TellsTooMany Large (Cause _) = Large
TellsTooMany Large OutOfMemory = Unit {0}

-- ---- what is known of the methods of one class

-- There are too many descriptions, or too many different names and descriptors in them.
abbrev pub AreTooManyDescriptions : List Description → Type 0
AreTooManyDescriptions ds = AreTooManyKeys (map method_key ds)

-- So it is of the native methods of a class file, or of what patches say of these.
abbrev pub AreTooManyNatives : List StubClass → ClassFile → Type 0
AreTooManyNatives stubs c = AreTooManyKeys (native_keys c.pool c.methods) ⊎ AreTooManyDescriptions (native_descriptions stubs c)

-- So it is of what is said of one of these stubs; and of one of these class files.
pub record HasLargeStub (stubs classes : List StubClass) : Type 0 where
  pub class : StubClass
  pub among : Contains classes class
  pub many : AreTooManyDescriptions (stub_descriptions stubs class)

pub record HasLargeFile (stubs : List StubClass) (files : List NamedClass) : Type 0 where
  pub file : NamedClass
  pub among : Contains files file
  pub many : AreTooManyNatives stubs file.class

-- ---- what linking is given

-- The classes are too many, of class files and stubs together; or the patches are; or what is said of the methods of one stub, or
-- of the native methods of one class file; or the program of all classes has too much to number.
pub data IsTooLargeInput (files : List NamedClass) (stubs : List StubClass) : Type 0 where
  in_classes : AreTooMany (all_names files stubs) → IsTooLargeInput files stubs
  in_patches : AreTooMany (filter is_patch_stub stubs) → IsTooLargeInput files stubs
  in_stub : (c : StubClass) → Contains (own_classes stubs) c → AreTooManyDescriptions (stub_descriptions stubs c) → IsTooLargeInput files stubs
  in_file : (f : NamedClass) → Contains files f → AreTooManyDescriptions (native_descriptions stubs f.class) → IsTooLargeInput files stubs
  in_program : (order : List Origin) → IsOrder (origins files stubs) order → IsTooLarge order → IsTooLargeInput files stubs
