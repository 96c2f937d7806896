-- Public contracts rest on this module.
-- Programs whose steps stay within one method: `main` of the class Main, which gets a code each time. Beside Main there is a class
-- of the library, Box, with a static field that holds a box from the start.
use Rattle.std.specs.Prelude.{codes, ℕ, List, [], ◌∷◌}
use Rattle.jvm_model.specs.declared.class_file.ClassFile.{ClassFile}
use Rattle.jvm_model.specs.declared.pool.PoolEntry.{PoolEntry}
use Rattle.jvm_model.specs.declared.pool.PoolEntry.TheVariants.{Utf8, Class, Str, Fieldref, NameAndType}
use Rattle.jvm_model.specs.declared.program.Origin.{Origin}
use Rattle.jvm_model.specs.declared.stub.StubResult.TheVariants.{Void}
use Rattle.jvm_model.specs.Code.{CodeBody}
use Rattle.jvm_model.specs.Linking.{program_from}
use Rattle.jvm_model.specs.Programs.{Program, object_name}
use Rattle.jvm_model.specs.Subtypes.{array_of}
use Rattle.machine_bytecode.specs.Objects.{Subject, string_name}
use Rattle.example_machine.specs.Building.{code, pool_of, method, field, class_with, in_folder, gives, holding, instance_field, library, library_class, run_of}

-- ---- the classes

abbrev pub main_pool : List PoolEntry
main_pool = pool_of (codes "Main") object_name (
    Utf8 (codes "main")  -- 6
    ∷ Utf8 (codes "()V")  -- 7
    ∷ Utf8 (codes "([Ljava/lang/String;)V")  -- 8
    ∷ Utf8 (codes "lib/Box")  -- 9
    ∷ Class 9  -- 10
    ∷ Utf8 (codes "it")  -- 11
    ∷ Utf8 (codes "Llib/Box;")  -- 12
    ∷ NameAndType 11 12  -- 13
    ∷ Fieldref 10 13  -- 14: Box.it, static
    ∷ Utf8 (codes "next")  -- 15
    ∷ NameAndType 15 12  -- 16
    ∷ Fieldref 10 16  -- 17: Box.next
    ∷ Utf8 (codes "count")  -- 18
    ∷ Utf8 (codes "I")  -- 19
    ∷ NameAndType 18 19  -- 20
    ∷ Fieldref 10 20  -- 21: Box.count
    ∷ Utf8 (codes "last")  -- 22
    ∷ NameAndType 22 12  -- 23
    ∷ Fieldref 3 23  -- 24: Main.last, static
    ∷ Str 6  -- 25: the string "main"
    ∷ Utf8 (codes "[[I")  -- 26
    ∷ Class 26  -- 27
    ∷ Utf8 string_name  -- 28
    ∷ Class 28  -- 29
    ∷ Utf8 (array_of object_name)  -- 30
    ∷ Class 30  -- 31
    ∷ [])

-- Main has one static field, `last`, and one method, `main`, which is static and has the descriptor at an index.
abbrev pub main_class : (descriptor : ℕ) → CodeBody → ClassFile
main_class descriptor k = class_with main_pool 0x21 [] (field 9 22 12 ∷ []) (method 9 6 descriptor k ∷ [])

-- A box has two fields, and there is one from the start, in the static field `it`.
abbrev pub box : Origin
box =
    library (codes "lib/Box") object_name (gives (codes "close") (codes "()V") Void ∷ [])
    (holding (codes "it") (codes "Llib/Box;") (codes "lib/Box") ∷ instance_field (codes "next") (codes "Llib/Box;") ∷ instance_field (codes "count") (codes "I") ∷ [])

-- The classes in byte order of their names.
abbrev pub order : (descriptor : ℕ) → CodeBody → List Origin
order descriptor k = in_folder (codes "Main.class") (main_class descriptor k) ∷ library_class object_name [] ∷ library_class string_name object_name ∷ box ∷ []

abbrev pub program_with : (descriptor : ℕ) → CodeBody → Program
program_with descriptor k = program_from (order descriptor k)

-- `main` of ()V, with a code, is run.
abbrev pub runs : CodeBody → Subject
runs k = run_of (program_with 7 k) 0 (codes "lib/Box")

-- `main` with an array of strings is run.
abbrev pub runs_with_arguments : CodeBody → Subject
runs_with_arguments k = run_of (program_with 8 k) 0 (codes "lib/Box")

-- ---- the codes: at each instruction stands its offset

abbrev pub branch : CodeBody
branch = code 1 0 (
    3  -- 0: iconst_0
    ∷ 153 ∷ 0 ∷ 4  -- 1: ifeq 5
    ∷ 0  -- 4: nop
    ∷ 177  -- 5: return
    ∷ []) []

abbrev pub switch : CodeBody
switch = code 1 0 (
    3  -- 0: iconst_0
    ∷ 170 ∷ 0 ∷ 0  -- 1: tableswitch, and its padding
    ∷ 0 ∷ 0 ∷ 0 ∷ 19  -- its default: 20
    ∷ 0 ∷ 0 ∷ 0 ∷ 0 ∷ 0 ∷ 0 ∷ 0 ∷ 0  -- from 0 to 0
    ∷ 0 ∷ 0 ∷ 0 ∷ 20  -- for 0: 21
    ∷ 177  -- 20: return
    ∷ 177  -- 21: return
    ∷ []) []

abbrev pub wide_iinc : CodeBody
wide_iinc = code 1 1 (
    3  -- 0: iconst_0
    ∷ 59  -- 1: istore_0
    ∷ 196 ∷ 132 ∷ 0 ∷ 0 ∷ 0 ∷ 1  -- 2: wide iinc 0 1
    ∷ 177  -- 8: return
    ∷ []) []

-- The box's field `next` is written and read.
abbrev pub links : CodeBody
links = code 2 0 (
    178 ∷ 0 ∷ 14  -- 0: getstatic Box.it
    ∷ 178 ∷ 0 ∷ 14  -- 3: getstatic Box.it
    ∷ 181 ∷ 0 ∷ 17  -- 6: putfield Box.next
    ∷ 178 ∷ 0 ∷ 14  -- 9: getstatic Box.it
    ∷ 180 ∷ 0 ∷ 17  -- 12: getfield Box.next
    ∷ 87  -- 15: pop
    ∷ 177  -- 16: return
    ∷ []) []

-- Its field `count` is, which is of a primitive type.
abbrev pub counts : CodeBody
counts = code 2 0 (
    178 ∷ 0 ∷ 14  -- 0: getstatic Box.it
    ∷ 4  -- 3: iconst_1
    ∷ 181 ∷ 0 ∷ 21  -- 4: putfield Box.count
    ∷ 178 ∷ 0 ∷ 14  -- 7: getstatic Box.it
    ∷ 180 ∷ 0 ∷ 21  -- 10: getfield Box.count
    ∷ 87  -- 13: pop
    ∷ 177  -- 14: return
    ∷ []) []

abbrev pub statics : CodeBody
statics = code 1 0 (
    178 ∷ 0 ∷ 14  -- 0: getstatic Box.it
    ∷ 179 ∷ 0 ∷ 24  -- 3: putstatic Main.last
    ∷ 178 ∷ 0 ∷ 24  -- 6: getstatic Main.last
    ∷ 87  -- 9: pop
    ∷ 177  -- 10: return
    ∷ []) []

abbrev pub constant : CodeBody
constant = code 1 0 (
    18 ∷ 25  -- 0: ldc "main"
    ∷ 87  -- 2: pop
    ∷ 177  -- 3: return
    ∷ []) []

abbrev pub makes : CodeBody
makes = code 1 0 (
    187 ∷ 0 ∷ 10  -- 0: new Box
    ∷ 87  -- 3: pop
    ∷ 177  -- 4: return
    ∷ []) []

abbrev pub numbers : CodeBody
numbers = code 1 0 (
    5  -- 0: iconst_2
    ∷ 188 ∷ 10  -- 1: newarray int
    ∷ 190  -- 3: arraylength
    ∷ 87  -- 4: pop
    ∷ 177  -- 5: return
    ∷ []) []

abbrev pub tables : CodeBody
tables = code 2 0 (
    5  -- 0: iconst_2
    ∷ 4  -- 1: iconst_1
    ∷ 197 ∷ 0 ∷ 27 ∷ 2  -- 2: multianewarray [[I, two dimensions
    ∷ 87  -- 6: pop
    ∷ 177  -- 7: return
    ∷ []) []

abbrev pub boxes : CodeBody
boxes = code 3 1 (
    4  -- 0: iconst_1
    ∷ 189 ∷ 0 ∷ 10  -- 1: anewarray Box
    ∷ 75  -- 4: astore_0
    ∷ 42  -- 5: aload_0
    ∷ 3  -- 6: iconst_0
    ∷ 178 ∷ 0 ∷ 14  -- 7: getstatic Box.it
    ∷ 83  -- 10: aastore
    ∷ 42  -- 11: aload_0
    ∷ 3  -- 12: iconst_0
    ∷ 50  -- 13: aaload
    ∷ 87  -- 14: pop
    ∷ 177  -- 15: return
    ∷ []) []

-- A box is stored into an array of strings.
abbrev pub misfit : CodeBody
misfit = code 3 0 (
    4  -- 0: iconst_1
    ∷ 189 ∷ 0 ∷ 29  -- 1: anewarray String
    ∷ 3  -- 4: iconst_0
    ∷ 178 ∷ 0 ∷ 14  -- 5: getstatic Box.it
    ∷ 83  -- 8: aastore
    ∷ 177  -- 9: return
    ∷ []) []

abbrev pub division : CodeBody
division = code 2 0 (
    4  -- 0: iconst_1
    ∷ 3  -- 1: iconst_0
    ∷ 108  -- 2: idiv
    ∷ 87  -- 3: pop
    ∷ 177  -- 4: return
    ∷ []) []

abbrev pub null_cast : CodeBody
null_cast = code 1 0 (
    1  -- 0: aconst_null
    ∷ 192 ∷ 0 ∷ 10  -- 1: checkcast Box
    ∷ 87  -- 4: pop
    ∷ 177  -- 5: return
    ∷ []) []

abbrev pub box_cast : CodeBody
box_cast = code 1 0 (
    178 ∷ 0 ∷ 14  -- 0: getstatic Box.it
    ∷ 192 ∷ 0 ∷ 10  -- 3: checkcast Box
    ∷ 87  -- 6: pop
    ∷ 177  -- 7: return
    ∷ []) []

-- A box is cast to a string.
abbrev pub string_cast : CodeBody
string_cast = code 1 0 (
    178 ∷ 0 ∷ 14  -- 0: getstatic Box.it
    ∷ 192 ∷ 0 ∷ 29  -- 3: checkcast String
    ∷ 87  -- 6: pop
    ∷ 177  -- 7: return
    ∷ []) []

-- An array of boxes is cast to an array of objects.
abbrev pub array_cast : CodeBody
array_cast = code 1 0 (
    4  -- 0: iconst_1
    ∷ 189 ∷ 0 ∷ 10  -- 1: anewarray Box
    ∷ 192 ∷ 0 ∷ 31  -- 4: checkcast Object[]
    ∷ 87  -- 7: pop
    ∷ 177  -- 8: return
    ∷ []) []

-- An element of the argument of `main` is read.
abbrev pub argument : CodeBody
argument = code 2 1 (
    42  -- 0: aload_0
    ∷ 3  -- 1: iconst_0
    ∷ 50  -- 2: aaload
    ∷ 87  -- 3: pop
    ∷ 177  -- 4: return
    ∷ []) []

-- ---- tests of references, other constants, and what may raise

abbrev pub null_branch : CodeBody
null_branch = code 1 0 (
    1  -- 0: aconst_null
    ∷ 198 ∷ 0 ∷ 4  -- 1: ifnull 5
    ∷ 177  -- 4: return
    ∷ 177  -- 5: return
    ∷ []) []

abbrev pub box_branch : CodeBody
box_branch = code 1 0 (
    178 ∷ 0 ∷ 14  -- 0: getstatic Box.it
    ∷ 198 ∷ 0 ∷ 4  -- 3: ifnull 7
    ∷ 177  -- 6: return
    ∷ 177  -- 7: return
    ∷ []) []

abbrev pub same_branch : CodeBody
same_branch = code 2 0 (
    178 ∷ 0 ∷ 14  -- 0: getstatic Box.it
    ∷ 178 ∷ 0 ∷ 14  -- 3: getstatic Box.it
    ∷ 165 ∷ 0 ∷ 4  -- 6: if_acmpeq 10
    ∷ 177  -- 9: return
    ∷ 177  -- 10: return
    ∷ []) []

abbrev pub other_branch : CodeBody
other_branch = code 2 0 (
    178 ∷ 0 ∷ 14  -- 0: getstatic Box.it
    ∷ 1  -- 3: aconst_null
    ∷ 165 ∷ 0 ∷ 4  -- 4: if_acmpeq 8
    ∷ 177  -- 7: return
    ∷ 177  -- 8: return
    ∷ []) []

abbrev pub null_jump : CodeBody
null_jump = code 1 0 (
    1  -- 0: aconst_null
    ∷ 199 ∷ 0 ∷ 4  -- 1: ifnonnull 5
    ∷ 177  -- 4: return
    ∷ 177  -- 5: return
    ∷ []) []

abbrev pub box_jump : CodeBody
box_jump = code 1 0 (
    178 ∷ 0 ∷ 14  -- 0: getstatic Box.it
    ∷ 199 ∷ 0 ∷ 4  -- 3: ifnonnull 7
    ∷ 177  -- 6: return
    ∷ 177  -- 7: return
    ∷ []) []

-- A box is compared with itself.
abbrev pub same_jump : CodeBody
same_jump = code 2 0 (
    187 ∷ 0 ∷ 10  -- 0: new Box
    ∷ 89  -- 3: dup
    ∷ 166 ∷ 0 ∷ 4  -- 4: if_acmpne 8
    ∷ 177  -- 7: return
    ∷ 177  -- 8: return
    ∷ []) []

abbrev pub other_jump : CodeBody
other_jump = code 2 0 (
    178 ∷ 0 ∷ 14  -- 0: getstatic Box.it
    ∷ 1  -- 3: aconst_null
    ∷ 166 ∷ 0 ∷ 4  -- 4: if_acmpne 8
    ∷ 177  -- 7: return
    ∷ 177  -- 8: return
    ∷ []) []

-- Two boxes are compared.
abbrev pub two_branch : CodeBody
two_branch = code 2 0 (
    187 ∷ 0 ∷ 10  -- 0: new Box
    ∷ 187 ∷ 0 ∷ 10  -- 3: new Box
    ∷ 165 ∷ 0 ∷ 4  -- 6: if_acmpeq 10
    ∷ 177  -- 9: return
    ∷ 177  -- 10: return
    ∷ []) []

-- A string is compared with a string.
abbrev pub string_branch : CodeBody
string_branch = code 2 0 (
    18 ∷ 25  -- 0: ldc "main"
    ∷ 18 ∷ 25  -- 2: ldc "main"
    ∷ 165 ∷ 0 ∷ 4  -- 4: if_acmpeq 8
    ∷ 177  -- 7: return
    ∷ 177  -- 8: return
    ∷ []) []

abbrev pub lookup : CodeBody
lookup = code 1 0 (
    3  -- 0: iconst_0
    ∷ 171 ∷ 0 ∷ 0  -- 1: lookupswitch, and its padding
    ∷ 0 ∷ 0 ∷ 0 ∷ 19  -- its default: 20
    ∷ 0 ∷ 0 ∷ 0 ∷ 1  -- one pair
    ∷ 0 ∷ 0 ∷ 0 ∷ 5 ∷ 0 ∷ 0 ∷ 0 ∷ 20  -- for 5: 21
    ∷ 177  -- 20: return
    ∷ 177  -- 21: return
    ∷ []) []

abbrev pub class_constant : CodeBody
class_constant = code 1 0 (
    18 ∷ 10  -- 0: ldc Box
    ∷ 87  -- 2: pop
    ∷ 177  -- 3: return
    ∷ []) []

abbrev pub monitor : CodeBody
monitor = code 1 0 (
    178 ∷ 0 ∷ 14  -- 0: getstatic Box.it
    ∷ 194  -- 3: monitorenter
    ∷ 178 ∷ 0 ∷ 14  -- 4: getstatic Box.it
    ∷ 195  -- 7: monitorexit
    ∷ 177  -- 8: return
    ∷ []) []

abbrev pub first_number : CodeBody
first_number = code 2 0 (
    4  -- 0: iconst_1
    ∷ 188 ∷ 10  -- 1: newarray int
    ∷ 3  -- 3: iconst_0
    ∷ 46  -- 4: iaload
    ∷ 87  -- 5: pop
    ∷ 177  -- 6: return
    ∷ []) []

abbrev pub null_field : CodeBody
null_field = code 1 0 (
    1  -- 0: aconst_null
    ∷ 180 ∷ 0 ∷ 17  -- 1: getfield Box.next
    ∷ 87  -- 4: pop
    ∷ 177  -- 5: return
    ∷ []) []

abbrev pub null_throw : CodeBody
null_throw = code 1 0 (
    1  -- 0: aconst_null
    ∷ 191  -- 1: athrow
    ∷ []) []

-- ---- units that are put in another order

abbrev pub shuffles : CodeBody
shuffles = code 10 0 (
    1  -- 0: aconst_null
    ∷ 3  -- 1: iconst_0
    ∷ 90  -- 2: dup_x1
    ∷ 91  -- 3: dup_x2
    ∷ 92  -- 4: dup2
    ∷ 93  -- 5: dup2_x1
    ∷ 94  -- 6: dup2_x2
    ∷ 95  -- 7: swap
    ∷ 177  -- 8: return
    ∷ []) []
