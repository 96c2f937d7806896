-- Public contracts rest on this module.
-- Programs that throw: `main` of the class Main, which gets a code each time. `main` may call `middle`, which calls `inner`, which
-- throws. The library has an alarm, with an exception from the start.
use Rattle.std.specs.Prelude.{codes, List, [], ◌∷◌}
use Rattle.jvm_model.specs.declared.class_file.ClassFile.{ClassFile}
use Rattle.jvm_model.specs.declared.pool.PoolEntry.{PoolEntry}
use Rattle.jvm_model.specs.declared.pool.PoolEntry.TheVariants.{Utf8, Class, Fieldref, Methodref, NameAndType}
use Rattle.jvm_model.specs.declared.program.Origin.{Origin}
use Rattle.jvm_model.specs.Code.{CodeBody}
use Rattle.jvm_model.specs.Linking.{program_from}
use Rattle.jvm_model.specs.Programs.{Program, object_name}
use Rattle.jvm_model.specs.Soundness.{plain_descriptor}
use Rattle.machine_bytecode.specs.Objects.{Subject, string_name}
use Rattle.example_machine.specs.Building.{code, handler, pool_of, method, class_with, in_folder, holding, library, library_class, run_of}
use Rattle.example_machine.specs.Calling.{object}

-- ---- the classes

abbrev pub main_pool : List PoolEntry
main_pool = pool_of (codes "Main") object_name (
    Utf8 (codes "main")  -- 6
    ∷ Utf8 plain_descriptor  -- 7
    ∷ Utf8 (codes "middle")  -- 8
    ∷ NameAndType 8 7  -- 9
    ∷ Methodref 3 9  -- 10: Main.middle
    ∷ Utf8 (codes "inner")  -- 11
    ∷ NameAndType 11 7  -- 12
    ∷ Methodref 3 12  -- 13: Main.inner
    ∷ Utf8 (codes "lib/Alarm")  -- 14
    ∷ Class 14  -- 15
    ∷ Utf8 (codes "fire")  -- 16
    ∷ Utf8 (codes "Ljava/lang/Exception;")  -- 17
    ∷ NameAndType 16 17  -- 18
    ∷ Fieldref 15 18  -- 19: Alarm.fire, static
    ∷ Utf8 (codes "java/lang/Exception")  -- 20
    ∷ Class 20  -- 21
    ∷ Utf8 (codes "java/lang/Error")  -- 22
    ∷ Class 22  -- 23
    ∷ Utf8 (codes "hashCode")  -- 24
    ∷ Utf8 (codes "()I")  -- 25
    ∷ NameAndType 24 25  -- 26
    ∷ Methodref 5 26  -- 27: Object.hashCode
    ∷ [])

-- `middle` calls `inner`, and catches errors alone.
abbrev pub middle : CodeBody
middle = code 1 0 (
    184 ∷ 0 ∷ 13  -- 0: invokestatic Main.inner
    ∷ 177  -- 3: return
    ∷ 87  -- 4: pop
    ∷ 177  -- 5: return
    ∷ []) (handler 0 3 4 23 ∷ [])  -- from 0 to 3, java/lang/Error: 4

abbrev pub inner : CodeBody
inner = code 1 0 (
    178 ∷ 0 ∷ 19  -- 0: getstatic Alarm.fire
    ∷ 191  -- 3: athrow
    ∷ []) []

-- The methods of Main are static.
abbrev pub main_class : CodeBody → ClassFile
main_class k = class_with main_pool 0x21 [] [] (method 9 6 7 k ∷ method 9 8 7 middle ∷ method 9 11 7 inner ∷ [])

abbrev pub alarm : Origin
alarm = library (codes "lib/Alarm") object_name [] (holding (codes "fire") (codes "Ljava/lang/Exception;") (codes "java/lang/Exception") ∷ [])

-- The classes in byte order of their names.
abbrev pub order : CodeBody → List Origin
order k =
    in_folder (codes "Main.class") (main_class k)
    ∷ library_class (codes "java/lang/Error") (codes "java/lang/Throwable")
    ∷ library_class (codes "java/lang/Exception") (codes "java/lang/Throwable")
    ∷ object
    ∷ library_class string_name object_name
    ∷ library_class (codes "java/lang/Throwable") object_name
    ∷ alarm
    ∷ []

abbrev pub program_with : CodeBody → Program
program_with k = program_from (order k)

abbrev pub runs : CodeBody → Subject
runs k = run_of (program_with k) 0 (codes "lib/Alarm")

-- ---- the codes of `main`

-- An exception is thrown, and caught by the second handler of the same method.
abbrev pub catches_here : CodeBody
catches_here = code 1 0 (
    178 ∷ 0 ∷ 19  -- 0: getstatic Alarm.fire
    ∷ 191  -- 3: athrow
    ∷ 87  -- 4: pop
    ∷ 177  -- 5: return
    ∷ []) (handler 0 4 4 23 ∷ handler 0 4 4 21 ∷ [])  -- from 0 to 4, java/lang/Error: 4; java/lang/Exception: 4

-- It is thrown by `inner`, and caught here.
abbrev pub catches_above : CodeBody
catches_above = code 1 0 (
    184 ∷ 0 ∷ 10  -- 0: invokestatic Main.middle
    ∷ 177  -- 3: return
    ∷ 87  -- 4: pop
    ∷ 177  -- 5: return
    ∷ []) (handler 0 3 4 21 ∷ [])  -- from 0 to 3, java/lang/Exception: 4

-- It is caught nowhere.
abbrev pub catches_nothing : CodeBody
catches_nothing = code 1 0 (
    178 ∷ 0 ∷ 19  -- 0: getstatic Alarm.fire
    ∷ 191  -- 3: athrow
    ∷ []) []

abbrev pub calls_null : CodeBody
calls_null = code 1 0 (
    1  -- 0: aconst_null
    ∷ 182 ∷ 0 ∷ 27  -- 1: invokevirtual Object.hashCode
    ∷ 87  -- 4: pop
    ∷ 177  -- 5: return
    ∷ []) []
