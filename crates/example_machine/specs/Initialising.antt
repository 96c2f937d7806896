-- Public contracts rest on this module.
-- Programs with initialisers of classes: those of Main, Ready and the interface Steady only return, and that of Broken throws. The
-- entry is `main` of the class Main, which gets a code each time.
use Rattle.std.specs.Prelude.{codes, ℕ, List, [], ◌∷◌}
use Rattle.jvm_model.specs.declared.class_file.ClassFile.{ClassFile}
use Rattle.jvm_model.specs.declared.pool.PoolEntry.{PoolEntry}
use Rattle.jvm_model.specs.declared.pool.PoolEntry.TheVariants.{Utf8, Class, Fieldref, Methodref, NameAndType}
use Rattle.jvm_model.specs.declared.program.Origin.{Origin}
use Rattle.jvm_model.specs.Code.{CodeBody}
use Rattle.jvm_model.specs.Linking.{program_from}
use Rattle.jvm_model.specs.Programs.{Program, object_name}
use Rattle.jvm_model.specs.Soundness.{plain_descriptor}
use Rattle.machine_bytecode.specs.Objects.{Subject, string_name}
use Rattle.example_machine.specs.Building.{code, handler, pool_of, method, field, class_with, in_folder, library_class, run_of}
use Rattle.example_machine.specs.Calling.{object, only_returns}
use Rattle.example_machine.specs.Excepting.{alarm}

-- ---- the classes

abbrev pub initialiser_name : List ℕ
initialiser_name = codes "<clinit>"

abbrev pub broken_pool : List PoolEntry
broken_pool = pool_of (codes "Broken") object_name (
    Utf8 initialiser_name  -- 6
    ∷ Utf8 plain_descriptor  -- 7
    ∷ Utf8 (codes "lib/Alarm")  -- 8
    ∷ Class 8  -- 9
    ∷ Utf8 (codes "fire")  -- 10
    ∷ Utf8 (codes "Ljava/lang/Exception;")  -- 11
    ∷ NameAndType 10 11  -- 12
    ∷ Fieldref 9 12  -- 13: Alarm.fire, static
    ∷ [])

abbrev pub breaks : CodeBody
breaks = code 1 0 (
    178 ∷ 0 ∷ 13  -- 0: getstatic Alarm.fire
    ∷ 191  -- 3: athrow
    ∷ []) []

abbrev pub broken_class : ClassFile
broken_class = class_with broken_pool 0x21 [] [] (method 8 6 7 breaks ∷ [])

abbrev pub ready_pool : List PoolEntry
ready_pool = pool_of (codes "Ready") object_name (
    Utf8 initialiser_name  -- 6
    ∷ Utf8 plain_descriptor  -- 7
    ∷ Utf8 (codes "go")  -- 8
    ∷ Utf8 (codes "size")  -- 9
    ∷ Utf8 (codes "I")  -- 10
    ∷ [])

-- It has a static field and a static method too.
abbrev pub ready_class : ClassFile
ready_class = class_with ready_pool 0x21 [] (field 9 9 10 ∷ []) (method 8 6 7 only_returns ∷ method 9 8 7 only_returns ∷ [])

abbrev pub main_pool : List PoolEntry
main_pool = pool_of (codes "Main") object_name (
    Utf8 (codes "main")  -- 6
    ∷ Utf8 plain_descriptor  -- 7
    ∷ Utf8 initialiser_name  -- 8
    ∷ Utf8 (codes "Ready")  -- 9
    ∷ Class 9  -- 10
    ∷ Utf8 (codes "Broken")  -- 11
    ∷ Class 11  -- 12
    ∷ Utf8 (codes "go")  -- 13
    ∷ NameAndType 13 7  -- 14
    ∷ Methodref 10 14  -- 15: Ready.go
    ∷ Utf8 (codes "size")  -- 16
    ∷ Utf8 (codes "I")  -- 17
    ∷ NameAndType 16 17  -- 18
    ∷ Fieldref 10 18  -- 19: Ready.size
    ∷ Utf8 (codes "Late")  -- 20
    ∷ Class 20  -- 21
    ∷ Fieldref 21 18  -- 22: Late.size
    ∷ Utf8 (codes "Table")  -- 23
    ∷ Class 23  -- 24
    ∷ [])

abbrev pub main_class : CodeBody → ClassFile
main_class k = class_with main_pool 0x21 [] [] (method 9 6 7 k ∷ method 8 8 7 only_returns ∷ [])

-- A class without an initialiser of its own: its superclass is Ready.
abbrev pub late_class : ClassFile
late_class = class_with (pool_of (codes "Late") (codes "Ready") []) 0x21 [] [] []

abbrev pub steady_pool : List PoolEntry
steady_pool = pool_of (codes "Steady") object_name (
    Utf8 initialiser_name  -- 6
    ∷ Utf8 plain_descriptor  -- 7
    ∷ Utf8 (codes "stand")  -- 8
    ∷ [])

-- An interface with an initialiser, and with a method that is not abstract, which the version 52 allows (JVMS 4.6).
abbrev pub steady_class : ClassFile
steady_class = record (class_with steady_pool 0x601 [] [] (method 8 6 7 only_returns ∷ method 1 8 7 only_returns ∷ [])) { major = 52 }

-- A class of that interface, without an initialiser of its own.
abbrev pub table_class : ClassFile
table_class = class_with (pool_of (codes "Table") object_name (Utf8 (codes "Steady") ∷ Class 6 ∷ [])) 0x21 (7 ∷ []) [] []

-- The classes in byte order of their names.
abbrev pub order : CodeBody → List Origin
order k =
    in_folder (codes "Broken.class") broken_class
    ∷ in_folder (codes "Late.class") late_class
    ∷ in_folder (codes "Main.class") (main_class k)
    ∷ in_folder (codes "Ready.class") ready_class
    ∷ in_folder (codes "Steady.class") steady_class
    ∷ in_folder (codes "Table.class") table_class
    ∷ library_class (codes "java/lang/Exception") (codes "java/lang/Throwable")
    ∷ object
    ∷ library_class string_name object_name
    ∷ library_class (codes "java/lang/Throwable") object_name
    ∷ alarm
    ∷ []

abbrev pub program_with : CodeBody → Program
program_with k = program_from (order k)

-- `main` has the number 1.
abbrev pub runs : CodeBody → Subject
runs k = run_of (program_with k) 1 (codes "Ready")

-- ---- the codes of `main`

abbrev pub makes_ready : CodeBody
makes_ready = code 1 0 (
    187 ∷ 0 ∷ 10  -- 0: new Ready
    ∷ 87  -- 3: pop
    ∷ 177  -- 4: return
    ∷ []) []

abbrev pub makes_late : CodeBody
makes_late = code 1 0 (
    187 ∷ 0 ∷ 21  -- 0: new Late
    ∷ 87  -- 3: pop
    ∷ 177  -- 4: return
    ∷ []) []

abbrev pub calls_ready : CodeBody
calls_ready = code 1 0 (
    184 ∷ 0 ∷ 15  -- 0: invokestatic Ready.go
    ∷ 177  -- 3: return
    ∷ []) []

abbrev pub reads_ready : CodeBody
reads_ready = code 1 0 (
    178 ∷ 0 ∷ 19  -- 0: getstatic Ready.size
    ∷ 87  -- 3: pop
    ∷ 177  -- 4: return
    ∷ []) []

abbrev pub makes_table : CodeBody
makes_table = code 1 0 (
    187 ∷ 0 ∷ 24  -- 0: new Table
    ∷ 87  -- 3: pop
    ∷ 177  -- 4: return
    ∷ []) []

abbrev pub writes_ready : CodeBody
writes_ready = code 1 0 (
    3  -- 0: iconst_0
    ∷ 179 ∷ 0 ∷ 19  -- 1: putstatic Ready.size
    ∷ 177  -- 4: return
    ∷ []) []

-- The field of Ready is read as one of Late.
abbrev pub reads_late : CodeBody
reads_late = code 1 0 (
    178 ∷ 0 ∷ 22  -- 0: getstatic Late.size
    ∷ 87  -- 3: pop
    ∷ 177  -- 4: return
    ∷ []) []

-- An object of Broken is made, and whatever that throws is caught; and then it is tried again.
abbrev pub makes_broken : CodeBody
makes_broken = code 1 0 (
    187 ∷ 0 ∷ 12  -- 0: new Broken
    ∷ 87  -- 3: pop
    ∷ 177  -- 4: return
    ∷ 87  -- 5: pop
    ∷ 187 ∷ 0 ∷ 12  -- 6: new Broken
    ∷ 87  -- 9: pop
    ∷ 177  -- 10: return
    ∷ []) (handler 0 3 5 0 ∷ [])  -- from 0 to 3, whatever it is: 5
