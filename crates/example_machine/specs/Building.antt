-- Public contracts rest on this module.
-- Builders of small programs: class files from constant pools and members, stub classes, and the program of both. Methods have
-- one attribute, their code. The texts that each class file needs stand first in its constant pool.
use Rattle.std.specs.Prelude.{codes, ℕ, Bool, false, true, List, [], ◌∷◌, None, Some}
use Rattle.jvm_model.specs.declared.automaton.Automaton.{Automaton}
use Rattle.jvm_model.specs.declared.automaton.Event.{Event}
use Rattle.jvm_model.specs.declared.class_file.ClassFile.{ClassFile}
use Rattle.jvm_model.specs.declared.class_file.Member.{Member}
use Rattle.jvm_model.specs.declared.code.Handler.{Handler}
use Rattle.jvm_model.specs.declared.pool.PoolEntry.{PoolEntry}
use Rattle.jvm_model.specs.declared.pool.PoolEntry.TheVariants.{Utf8, Class}
use Rattle.jvm_model.specs.declared.program.NamedClass.{NamedClass}
use Rattle.jvm_model.specs.declared.program.Origin.{Origin}
use Rattle.jvm_model.specs.declared.program.Origin.TheVariants.{Folder, Stub}
use Rattle.jvm_model.specs.declared.stub.StubArgument.{StubArgument}
use Rattle.jvm_model.specs.declared.stub.StubClass.{StubClass}
use Rattle.jvm_model.specs.declared.stub.StubField.{StubField}
use Rattle.jvm_model.specs.declared.stub.StubMethod.{StubMethod}
use Rattle.jvm_model.specs.declared.stub.StubResult.{StubResult}
use Rattle.jvm_model.specs.Code.{CodeBody, spell_code}
use Rattle.jvm_model.specs.Programs.{Program}
use Rattle.jvm_model.specs.Soundness.{plain_descriptor}
use Rattle.machine_bytecode.specs.Objects.{Subject}

-- ---- class files

-- A code by its two limits, its bytes and its handlers.
abbrev pub code : ℕ → ℕ → List ℕ → List Handler → CodeBody
code max_stack max_locals bytes handlers = record { max_stack = max_stack; max_locals = max_locals; bytes = bytes; handlers = handlers; attributes = [] }

-- A handler by where it begins and ends to cover, where it goes on, and the index of the class that it takes.
abbrev pub handler : ℕ → ℕ → ℕ → ℕ → Handler
handler start finish target catch_type = record { start = start; finish = finish; target = target; catch_type = catch_type }

-- The first five entries of each constant pool: the name of the attribute, then the class, and then its superclass.
abbrev pub pool_of : (name super : List ℕ) → List PoolEntry → List PoolEntry
pool_of name super others =
    Utf8 (codes "Code")  -- 1
    ∷ Utf8 name  -- 2
    ∷ Class 2  -- 3
    ∷ Utf8 super  -- 4
    ∷ Class 4  -- 5
    ∷ others

-- A method by its flags, and by the indices of its name and its descriptor.
abbrev pub method : (flags name descriptor : ℕ) → CodeBody → Member
method flags name descriptor k = record { flags = flags; name = name; descriptor = descriptor; attributes = record { name = 1; body = spell_code k } ∷ [] }

-- A method without code.
abbrev pub without_code : (flags name descriptor : ℕ) → Member
without_code flags name descriptor = record { flags = flags; name = name; descriptor = descriptor; attributes = [] }

abbrev pub field : (flags name descriptor : ℕ) → Member
field flags name descriptor = record { flags = flags; name = name; descriptor = descriptor; attributes = [] }

-- A class by its constant pool, whose first entries are those above, its flags, the indices of its superinterfaces, and its members.
-- Of its version a code needs no attribute for its branches (JVMS 4.7.4, 4.10).
abbrev pub class_with : List PoolEntry → (flags : ℕ) → (interfaces : List ℕ) → (fields methods : List Member) → ClassFile
class_with pool flags interfaces fields methods = record {
  minor = 0;
  major = 49;
  pool = pool;
  flags = flags;
  this_class = 3;
  super_class = 5;
  interfaces = interfaces;
  fields = fields;
  methods = methods;
  attributes = [];
}

-- It comes from a file of the folder, and patches describe native methods of it, or none.
abbrev pub in_folder_with : List ℕ → ClassFile → List StubMethod → Origin
in_folder_with file c natives = Folder (record { file = file; class = c }) natives

abbrev pub in_folder : List ℕ → ClassFile → Origin
in_folder file c = in_folder_with file c []

-- ---- stubs

-- A method by its results, and by the classes that it throws and the arguments that it keeps.
abbrev pub described_with : Bool → (name descriptor : List ℕ) → List StubResult → (throws : List (List ℕ)) → (keeps : List StubArgument) → StubMethod
described_with is_static name descriptor returns throws keeps =
    record { name = name; descriptor = descriptor; is_static = is_static; is_abstract = false; returns = returns; throws = throws; keeps = keeps }

-- One that only gives a result.
abbrev pub gives : (name descriptor : List ℕ) → StubResult → StubMethod
gives name descriptor result = described_with false name descriptor (result ∷ []) [] []

abbrev pub gives_static : (name descriptor : List ℕ) → StubResult → StubMethod
gives_static name descriptor result = described_with true name descriptor (result ∷ []) [] []

-- A static field that holds an object of a class.
abbrev pub holding : (name descriptor class : List ℕ) → StubField
holding name descriptor class = record { name = name; descriptor = descriptor; is_static = true; holds = Some class }

-- A field of each object.
abbrev pub instance_field : (name descriptor : List ℕ) → StubField
instance_field name descriptor = record { name = name; descriptor = descriptor; is_static = false; holds = None }

-- A class by its name, its superclass (none where that is empty), its methods and its fields.
abbrev pub library : (name super : List ℕ) → List StubMethod → List StubField → Origin
library name super methods fields = Stub (record {
  file = codes "-";
  name = name;
  super_class = super;
  interfaces = [];
  is_interface = false;
  is_patch = false;
  methods = methods;
  fields = fields;
})

-- A class of which nothing is said but its superclass.
abbrev pub library_class : (name super : List ℕ) → Origin
library_class name super = library name super [] []

-- ---- programs

-- The class files and the stubs that classes come from.
abbrev pub files_of : List Origin → List NamedClass
files_of [] = []
files_of (Folder f natives ∷ others) = f ∷ files_of others
files_of (Stub c ∷ others) = files_of others

abbrev pub stubs_of : List Origin → List StubClass
stubs_of [] = []
stubs_of (Folder f natives ∷ others) = stubs_of others
stubs_of (Stub c ∷ others) = c ∷ stubs_of others

-- A patch that describes methods of a class.
abbrev pub patch : List ℕ → List StubMethod → StubClass
patch name methods = record { file = codes "-"; name = name; super_class = []; interfaces = []; is_interface = false; is_patch = true; methods = methods; fields = [] }

-- ---- what is run

-- An event by its name and its next states: a call of a method without parameters and result.
abbrev pub event : List ℕ → List ℕ → Event
event name next = record { name = name; descriptor = plain_descriptor; next = next }

-- Objects of a class that are opened at first: after a call of `close` a second one is an error.
abbrev pub close_once : List ℕ → Automaton
close_once class = record {
  class_name = class;
  states = codes "opened" ∷ codes "closed" ∷ codes "error" ∷ [];
  initial = 0;
  error = 2;
  events = event (codes "close") (1 ∷ 2 ∷ 2 ∷ []) ∷ [];
}

-- A program from the method of a number, with such a property.
abbrev pub run_of : Program → (entry : ℕ) → (class : List ℕ) → Subject
run_of p entry class = record { program = p; property = close_once class; entry = entry }
