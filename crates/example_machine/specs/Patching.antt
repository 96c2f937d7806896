-- Public contracts rest on this module.
-- A program with a native method, which a patch describes: `main` of the class Main calls it.
use Rattle.std.specs.Prelude.{codes, List, [], ◌∷◌}
use Rattle.jvm_model.specs.declared.class_file.ClassFile.{ClassFile}
use Rattle.jvm_model.specs.declared.pool.PoolEntry.{PoolEntry}
use Rattle.jvm_model.specs.declared.pool.PoolEntry.TheVariants.{Utf8, Methodref, NameAndType}
use Rattle.jvm_model.specs.declared.program.Origin.{Origin}
use Rattle.jvm_model.specs.declared.stub.StubClass.{StubClass}
use Rattle.jvm_model.specs.declared.stub.StubMethod.{StubMethod}
use Rattle.jvm_model.specs.declared.stub.StubResult.TheVariants.{Primitive}
use Rattle.jvm_model.specs.Code.{CodeBody}
use Rattle.jvm_model.specs.Linking.{program_from}
use Rattle.jvm_model.specs.Programs.{Program, object_name}
use Rattle.jvm_model.specs.Soundness.{plain_descriptor}
use Rattle.machine_bytecode.specs.Objects.{Subject, string_name}
use Rattle.example_machine.specs.Building.{code, pool_of, method, without_code, class_with, patch, in_folder_with, gives_static, library_class, run_of}

abbrev pub main_pool : List PoolEntry
main_pool = pool_of (codes "Main") object_name (
    Utf8 (codes "main")  -- 6
    ∷ Utf8 plain_descriptor  -- 7
    ∷ Utf8 (codes "ping")  -- 8
    ∷ Utf8 (codes "()I")  -- 9
    ∷ NameAndType 8 9  -- 10
    ∷ Methodref 3 10  -- 11: Main.ping
    ∷ [])

abbrev pub pings : CodeBody
pings = code 1 0 (
    184 ∷ 0 ∷ 11  -- 0: invokestatic Main.ping
    ∷ 87  -- 3: pop
    ∷ 177  -- 4: return
    ∷ []) []

-- Both methods are static, and `ping` is native.
abbrev pub main_class : ClassFile
main_class = class_with main_pool 0x21 [] [] (method 9 6 7 pings ∷ without_code 0x109 8 9 ∷ [])

abbrev pub natives : List StubMethod
natives = gives_static (codes "ping") (codes "()I") Primitive ∷ []

abbrev pub main_patch : StubClass
main_patch = patch (codes "Main") natives

abbrev pub order : List Origin
order = in_folder_with (codes "Main.class") main_class natives ∷ library_class object_name [] ∷ library_class string_name object_name ∷ []

abbrev pub program : Program
program = program_from order

abbrev pub calls_native : Subject
calls_native = run_of program 0 (codes "Main")
