-- Public contracts rest on this module.
-- Examples of runs: small class files, the property files beside them, and the words of the run. Laws say which executions their programs have.
use Rattle.std.specs.Prelude.{codes, ◌≡◌, ℕ, ◌+◌, List, [], ◌∷◌, ◌++◌, All, Contains, Some}
use Rattle.std.specs.List.{flat_map}
use Rattle.ts_outside.specs.Files.{File}
use Rattle.jvm_model.specs.declared.class_file.ClassFile.{ClassFile}
use Rattle.jvm_model.specs.declared.class_file.Member.{Member}
use Rattle.jvm_model.specs.declared.pool.PoolEntry.{PoolEntry}
use Rattle.jvm_model.specs.declared.pool.PoolEntry.TheVariants.{Utf8, Class, Methodref, NameAndType}
use Rattle.jvm_model.specs.declared.site.Site.{Site}
use Rattle.jvm_model.specs.declared.site.SiteKind.TheVariants.{New}
use Rattle.jvm_model.specs.Code.{CodeBody, spell_code}
use Rattle.jvm_model.specs.Spelling.{spell}
use Rattle.machine_bytecode.specs.Executions.{IsExecution}
use Rattle.machine_bytecode.specs.Objects.{Subject}
use Rattle.machine_bytecode.specs.States.{Object, State, World, ended}

-- ---- class files

-- The constant pool of the class F. Its first entry has the index 1, and its last one, the call of `make`, the index 21.
abbrev pub example_pool : List PoolEntry
example_pool =
    Utf8 (codes "F")  -- 1
    ∷ Class 1  -- 2
    ∷ Utf8 (codes "java/lang/Object")  -- 3
    ∷ Class 3  -- 4
    ∷ Utf8 (codes "<init>")  -- 5
    ∷ Utf8 (codes "()V")  -- 6
    ∷ Utf8 (codes "Code")  -- 7
    ∷ Utf8 (codes "main")  -- 8
    ∷ Utf8 (codes "read")  -- 9
    ∷ Utf8 (codes "close")  -- 10
    ∷ NameAndType 5 6  -- 11
    ∷ Methodref 4 11  -- 12: the constructor of Object
    ∷ Methodref 2 11  -- 13: the constructor of F
    ∷ NameAndType 9 6  -- 14
    ∷ Methodref 2 14  -- 15: F.read
    ∷ NameAndType 10 6  -- 16
    ∷ Methodref 2 16  -- 17: F.close
    ∷ Utf8 (codes "make")  -- 18
    ∷ Utf8 (codes "()LF;")  -- 19
    ∷ NameAndType 18 19  -- 20
    ∷ Methodref 2 20  -- 21: F.make
    ∷ []

-- A code of these bytes, with its two limits, and without handlers.
abbrev pub code_with : ℕ → ℕ → List ℕ → CodeBody
code_with max_stack max_locals bytes = record { max_stack = max_stack; max_locals = max_locals; bytes = bytes; handlers = []; attributes = [] }

-- A method with these flags, and with a name and a descriptor at two indices: it has one attribute, its code.
abbrev pub method_with : ℕ → ℕ → ℕ → CodeBody → Member
method_with flags name descriptor code =
    record { flags = flags; name = name; descriptor = descriptor; attributes = record { name = 7; body = spell_code code } ∷ [] }

-- A code that makes an object, and goes on with these bytes.
abbrev pub making : List ℕ → CodeBody
making rest = code_with 2 1 (
    187 ∷ 0 ∷ 2  -- 0: new F
    ∷ 89  -- 3: dup
    ∷ 183 ∷ 0 ∷ 13  -- 4: invokespecial F.<init>
    ∷ rest)  -- 7

-- `make` gives a new object.
abbrev pub make_code : CodeBody
make_code = making (176 ∷ [])  -- areturn

-- The constructor calls the one of java/lang/Object.
abbrev pub constructor_code : CodeBody
constructor_code = code_with 1 1 (
    42  -- 0: aload_0
    ∷ 183 ∷ 0 ∷ 12  -- 1: invokespecial Object.<init>
    ∷ 177  -- 4: return
    ∷ [])

-- A method that only returns.
abbrev pub empty_code : CodeBody
empty_code = code_with 0 1 (177 ∷ [])  -- 0: return

-- The class F. The examples differ in the code of its static method `main`. Besides it has a constructor, the methods `read` and `close`, which do
-- nothing, and the static method `make`.
abbrev pub class_with_main : CodeBody → ClassFile
class_with_main main = record {
  minor = 0;
  major = 52;
  pool = example_pool;
  flags = 0x21;
  this_class = 2;
  super_class = 4;
  interfaces = [];
  fields = [];
  methods =
      method_with 9 8 6 main
      ∷ method_with 1 5 6 constructor_code
      ∷ method_with 1 9 6 empty_code
      ∷ method_with 1 10 6 empty_code
      ∷ method_with 9 18 19 make_code
      ∷ [];
  attributes = [];
}

-- ---- codes of main

-- Calls of the methods at these indices, one after another, on the object in the local variable 0.
abbrev pub calls_of : List ℕ → List ℕ
calls_of called = flat_map (λ (index : ℕ). 42 ∷ 182 ∷ 0 ∷ index ∷ []) called  -- aload_0, invokevirtual index

-- The indices of the calls of `read` and of `close`.
abbrev pub call_read : ℕ
call_read = 15

abbrev pub call_close : ℕ
call_close = 17

-- `main` makes an object, puts it into its local variable 0, and calls the methods at these indices on it.
abbrev pub main_code : List ℕ → CodeBody
main_code called = making (75 ∷ (calls_of called ++ 177 ∷ []))  -- astore_0, .., return

abbrev pub class_with_calls : List ℕ → ClassFile
class_with_calls called = class_with_main (main_code called)

-- It calls `read` twice.
abbrev pub two_reads : ClassFile
two_reads = class_with_calls (call_read ∷ call_read ∷ [])

-- It calls `close` twice, and then `read`.
abbrev pub close_twice_then_read : ClassFile
close_twice_then_read = class_with_calls (call_close ∷ call_close ∷ call_read ∷ [])

-- It calls `read`, and then `close`.
abbrev pub read_then_close : ClassFile
read_then_close = class_with_calls (call_read ∷ call_close ∷ [])

-- `main` gets an object of `make`, and puts it into its local variable 0.
abbrev pub make_next : List ℕ
make_next = 184 ∷ 0 ∷ 21 ∷ 75 ∷ []  -- invokestatic F.make, astore_0

-- It puts the object in its local variable 0 into a new array.
abbrev pub put_into_array : List ℕ
put_into_array = 4 ∷ 189 ∷ 0 ∷ 2 ∷ 3 ∷ 42 ∷ 83 ∷ []  -- iconst_1, anewarray F, iconst_0, aload_0, aastore

-- It does the first, executes these bytes, calls `read` and `close` on the object, does the first again, and calls `read` on the next object.
abbrev pub next_code : List ℕ → CodeBody
next_code between =
    code_with 3 1 (make_next ++ (between ++ (calls_of (call_read ∷ call_close ∷ []) ++ (make_next ++ (calls_of (call_read ∷ []) ++ 177 ∷ [])))))

-- Nothing stands between: the two objects have one site, and the second is read while the first is closed.
abbrev pub two_objects : ClassFile
two_objects = class_with_main (next_code [])

-- The first object is put into an array.
abbrev pub object_in_array : ClassFile
object_in_array = class_with_main (next_code put_into_array)

-- The bytes of the first of them, as they stand in the file cases/two-reads/folder/F.class.
abbrev pub two_reads_bytes : List ℕ
two_reads_bytes =
    202 ∷ 254 ∷ 186 ∷ 190 ∷ 0 ∷ 0 ∷ 0 ∷ 52 ∷ 0 ∷ 22 ∷ 1 ∷ 0 ∷ 1 ∷ 70 ∷ 7 ∷ 0 ∷ 1 ∷ 1 ∷ 0 ∷ 16 ∷ 106 ∷ 97 ∷ 118 ∷ 97 ∷ 47 ∷ 108 ∷ 97 ∷ 110 ∷ 103 ∷ 47 ∷ 79
    ∷ 98 ∷ 106 ∷ 101 ∷ 99 ∷ 116 ∷ 7 ∷ 0 ∷ 3 ∷ 1 ∷ 0 ∷ 6 ∷ 60 ∷ 105 ∷ 110 ∷ 105 ∷ 116 ∷ 62 ∷ 1 ∷ 0 ∷ 3 ∷ 40 ∷ 41 ∷ 86 ∷ 1 ∷ 0 ∷ 4 ∷ 67 ∷ 111 ∷ 100 ∷ 101 ∷ 1
    ∷ 0 ∷ 4 ∷ 109 ∷ 97 ∷ 105 ∷ 110 ∷ 1 ∷ 0 ∷ 4 ∷ 114 ∷ 101 ∷ 97 ∷ 100 ∷ 1 ∷ 0 ∷ 5 ∷ 99 ∷ 108 ∷ 111 ∷ 115 ∷ 101 ∷ 12 ∷ 0 ∷ 5 ∷ 0 ∷ 6 ∷ 10 ∷ 0 ∷ 4 ∷ 0 ∷ 11
    ∷ 10 ∷ 0 ∷ 2 ∷ 0 ∷ 11 ∷ 12 ∷ 0 ∷ 9 ∷ 0 ∷ 6 ∷ 10 ∷ 0 ∷ 2 ∷ 0 ∷ 14 ∷ 12 ∷ 0 ∷ 10 ∷ 0 ∷ 6 ∷ 10 ∷ 0 ∷ 2 ∷ 0 ∷ 16 ∷ 1 ∷ 0 ∷ 4 ∷ 109 ∷ 97 ∷ 107
    ∷ 101 ∷ 1 ∷ 0 ∷ 5 ∷ 40 ∷ 41 ∷ 76 ∷ 70 ∷ 59 ∷ 12 ∷ 0 ∷ 18 ∷ 0 ∷ 19 ∷ 10 ∷ 0 ∷ 2 ∷ 0 ∷ 20 ∷ 0 ∷ 33 ∷ 0 ∷ 2 ∷ 0 ∷ 4 ∷ 0 ∷ 0 ∷ 0 ∷ 0 ∷ 0 ∷ 5
    ∷ 0 ∷ 9 ∷ 0 ∷ 8 ∷ 0 ∷ 6 ∷ 0 ∷ 1 ∷ 0 ∷ 7 ∷ 0 ∷ 0 ∷ 0 ∷ 29 ∷ 0 ∷ 2 ∷ 0 ∷ 1 ∷ 0 ∷ 0 ∷ 0 ∷ 17 ∷ 187 ∷ 0 ∷ 2 ∷ 89 ∷ 183 ∷ 0 ∷ 13 ∷ 75 ∷ 42
    ∷ 182 ∷ 0 ∷ 15 ∷ 42 ∷ 182 ∷ 0 ∷ 15 ∷ 177 ∷ 0 ∷ 0 ∷ 0 ∷ 0 ∷ 0 ∷ 1 ∷ 0 ∷ 5 ∷ 0 ∷ 6 ∷ 0 ∷ 1 ∷ 0 ∷ 7 ∷ 0 ∷ 0 ∷ 0 ∷ 17 ∷ 0 ∷ 1 ∷ 0 ∷ 1 ∷ 0
    ∷ 0 ∷ 0 ∷ 5 ∷ 42 ∷ 183 ∷ 0 ∷ 12 ∷ 177 ∷ 0 ∷ 0 ∷ 0 ∷ 0 ∷ 0 ∷ 1 ∷ 0 ∷ 9 ∷ 0 ∷ 6 ∷ 0 ∷ 1 ∷ 0 ∷ 7 ∷ 0 ∷ 0 ∷ 0 ∷ 13 ∷ 0 ∷ 0 ∷ 0 ∷ 1 ∷ 0
    ∷ 0 ∷ 0 ∷ 1 ∷ 177 ∷ 0 ∷ 0 ∷ 0 ∷ 0 ∷ 0 ∷ 1 ∷ 0 ∷ 10 ∷ 0 ∷ 6 ∷ 0 ∷ 1 ∷ 0 ∷ 7 ∷ 0 ∷ 0 ∷ 0 ∷ 13 ∷ 0 ∷ 0 ∷ 0 ∷ 1 ∷ 0 ∷ 0 ∷ 0 ∷ 1 ∷ 177
    ∷ 0 ∷ 0 ∷ 0 ∷ 0 ∷ 0 ∷ 9 ∷ 0 ∷ 18 ∷ 0 ∷ 19 ∷ 0 ∷ 1 ∷ 0 ∷ 7 ∷ 0 ∷ 0 ∷ 0 ∷ 20 ∷ 0 ∷ 2 ∷ 0 ∷ 1 ∷ 0 ∷ 0 ∷ 0 ∷ 8 ∷ 187 ∷ 0 ∷ 2 ∷ 89 ∷ 183
    ∷ 0 ∷ 13 ∷ 176 ∷ 0 ∷ 0 ∷ 0 ∷ 0 ∷ 0 ∷ 0 ∷ []

-- Those of the second, as they stand in cases/read-after-close/folder/F.class.
abbrev pub close_twice_then_read_bytes : List ℕ
close_twice_then_read_bytes =
    202 ∷ 254 ∷ 186 ∷ 190 ∷ 0 ∷ 0 ∷ 0 ∷ 52 ∷ 0 ∷ 22 ∷ 1 ∷ 0 ∷ 1 ∷ 70 ∷ 7 ∷ 0 ∷ 1 ∷ 1 ∷ 0 ∷ 16 ∷ 106 ∷ 97 ∷ 118 ∷ 97 ∷ 47 ∷ 108 ∷ 97 ∷ 110 ∷ 103 ∷ 47 ∷ 79
    ∷ 98 ∷ 106 ∷ 101 ∷ 99 ∷ 116 ∷ 7 ∷ 0 ∷ 3 ∷ 1 ∷ 0 ∷ 6 ∷ 60 ∷ 105 ∷ 110 ∷ 105 ∷ 116 ∷ 62 ∷ 1 ∷ 0 ∷ 3 ∷ 40 ∷ 41 ∷ 86 ∷ 1 ∷ 0 ∷ 4 ∷ 67 ∷ 111 ∷ 100 ∷ 101 ∷ 1
    ∷ 0 ∷ 4 ∷ 109 ∷ 97 ∷ 105 ∷ 110 ∷ 1 ∷ 0 ∷ 4 ∷ 114 ∷ 101 ∷ 97 ∷ 100 ∷ 1 ∷ 0 ∷ 5 ∷ 99 ∷ 108 ∷ 111 ∷ 115 ∷ 101 ∷ 12 ∷ 0 ∷ 5 ∷ 0 ∷ 6 ∷ 10 ∷ 0 ∷ 4 ∷ 0 ∷ 11
    ∷ 10 ∷ 0 ∷ 2 ∷ 0 ∷ 11 ∷ 12 ∷ 0 ∷ 9 ∷ 0 ∷ 6 ∷ 10 ∷ 0 ∷ 2 ∷ 0 ∷ 14 ∷ 12 ∷ 0 ∷ 10 ∷ 0 ∷ 6 ∷ 10 ∷ 0 ∷ 2 ∷ 0 ∷ 16 ∷ 1 ∷ 0 ∷ 4 ∷ 109 ∷ 97 ∷ 107
    ∷ 101 ∷ 1 ∷ 0 ∷ 5 ∷ 40 ∷ 41 ∷ 76 ∷ 70 ∷ 59 ∷ 12 ∷ 0 ∷ 18 ∷ 0 ∷ 19 ∷ 10 ∷ 0 ∷ 2 ∷ 0 ∷ 20 ∷ 0 ∷ 33 ∷ 0 ∷ 2 ∷ 0 ∷ 4 ∷ 0 ∷ 0 ∷ 0 ∷ 0 ∷ 0 ∷ 5
    ∷ 0 ∷ 9 ∷ 0 ∷ 8 ∷ 0 ∷ 6 ∷ 0 ∷ 1 ∷ 0 ∷ 7 ∷ 0 ∷ 0 ∷ 0 ∷ 33 ∷ 0 ∷ 2 ∷ 0 ∷ 1 ∷ 0 ∷ 0 ∷ 0 ∷ 21 ∷ 187 ∷ 0 ∷ 2 ∷ 89 ∷ 183 ∷ 0 ∷ 13 ∷ 75 ∷ 42
    ∷ 182 ∷ 0 ∷ 17 ∷ 42 ∷ 182 ∷ 0 ∷ 17 ∷ 42 ∷ 182 ∷ 0 ∷ 15 ∷ 177 ∷ 0 ∷ 0 ∷ 0 ∷ 0 ∷ 0 ∷ 1 ∷ 0 ∷ 5 ∷ 0 ∷ 6 ∷ 0 ∷ 1 ∷ 0 ∷ 7 ∷ 0 ∷ 0 ∷ 0 ∷ 17 ∷ 0
    ∷ 1 ∷ 0 ∷ 1 ∷ 0 ∷ 0 ∷ 0 ∷ 5 ∷ 42 ∷ 183 ∷ 0 ∷ 12 ∷ 177 ∷ 0 ∷ 0 ∷ 0 ∷ 0 ∷ 0 ∷ 1 ∷ 0 ∷ 9 ∷ 0 ∷ 6 ∷ 0 ∷ 1 ∷ 0 ∷ 7 ∷ 0 ∷ 0 ∷ 0 ∷ 13 ∷ 0
    ∷ 0 ∷ 0 ∷ 1 ∷ 0 ∷ 0 ∷ 0 ∷ 1 ∷ 177 ∷ 0 ∷ 0 ∷ 0 ∷ 0 ∷ 0 ∷ 1 ∷ 0 ∷ 10 ∷ 0 ∷ 6 ∷ 0 ∷ 1 ∷ 0 ∷ 7 ∷ 0 ∷ 0 ∷ 0 ∷ 13 ∷ 0 ∷ 0 ∷ 0 ∷ 1 ∷ 0
    ∷ 0 ∷ 0 ∷ 1 ∷ 177 ∷ 0 ∷ 0 ∷ 0 ∷ 0 ∷ 0 ∷ 9 ∷ 0 ∷ 18 ∷ 0 ∷ 19 ∷ 0 ∷ 1 ∷ 0 ∷ 7 ∷ 0 ∷ 0 ∷ 0 ∷ 20 ∷ 0 ∷ 2 ∷ 0 ∷ 1 ∷ 0 ∷ 0 ∷ 0 ∷ 8 ∷ 187
    ∷ 0 ∷ 2 ∷ 89 ∷ 183 ∷ 0 ∷ 13 ∷ 176 ∷ 0 ∷ 0 ∷ 0 ∷ 0 ∷ 0 ∷ 0 ∷ []

-- Those of the third, as they stand in cases/read-and-close-by-default/folder/F.class.
abbrev pub read_then_close_bytes : List ℕ
read_then_close_bytes =
    202 ∷ 254 ∷ 186 ∷ 190 ∷ 0 ∷ 0 ∷ 0 ∷ 52 ∷ 0 ∷ 22 ∷ 1 ∷ 0 ∷ 1 ∷ 70 ∷ 7 ∷ 0 ∷ 1 ∷ 1 ∷ 0 ∷ 16 ∷ 106 ∷ 97 ∷ 118 ∷ 97 ∷ 47 ∷ 108 ∷ 97 ∷ 110 ∷ 103 ∷ 47 ∷ 79
    ∷ 98 ∷ 106 ∷ 101 ∷ 99 ∷ 116 ∷ 7 ∷ 0 ∷ 3 ∷ 1 ∷ 0 ∷ 6 ∷ 60 ∷ 105 ∷ 110 ∷ 105 ∷ 116 ∷ 62 ∷ 1 ∷ 0 ∷ 3 ∷ 40 ∷ 41 ∷ 86 ∷ 1 ∷ 0 ∷ 4 ∷ 67 ∷ 111 ∷ 100 ∷ 101 ∷ 1
    ∷ 0 ∷ 4 ∷ 109 ∷ 97 ∷ 105 ∷ 110 ∷ 1 ∷ 0 ∷ 4 ∷ 114 ∷ 101 ∷ 97 ∷ 100 ∷ 1 ∷ 0 ∷ 5 ∷ 99 ∷ 108 ∷ 111 ∷ 115 ∷ 101 ∷ 12 ∷ 0 ∷ 5 ∷ 0 ∷ 6 ∷ 10 ∷ 0 ∷ 4 ∷ 0 ∷ 11
    ∷ 10 ∷ 0 ∷ 2 ∷ 0 ∷ 11 ∷ 12 ∷ 0 ∷ 9 ∷ 0 ∷ 6 ∷ 10 ∷ 0 ∷ 2 ∷ 0 ∷ 14 ∷ 12 ∷ 0 ∷ 10 ∷ 0 ∷ 6 ∷ 10 ∷ 0 ∷ 2 ∷ 0 ∷ 16 ∷ 1 ∷ 0 ∷ 4 ∷ 109 ∷ 97 ∷ 107
    ∷ 101 ∷ 1 ∷ 0 ∷ 5 ∷ 40 ∷ 41 ∷ 76 ∷ 70 ∷ 59 ∷ 12 ∷ 0 ∷ 18 ∷ 0 ∷ 19 ∷ 10 ∷ 0 ∷ 2 ∷ 0 ∷ 20 ∷ 0 ∷ 33 ∷ 0 ∷ 2 ∷ 0 ∷ 4 ∷ 0 ∷ 0 ∷ 0 ∷ 0 ∷ 0 ∷ 5
    ∷ 0 ∷ 9 ∷ 0 ∷ 8 ∷ 0 ∷ 6 ∷ 0 ∷ 1 ∷ 0 ∷ 7 ∷ 0 ∷ 0 ∷ 0 ∷ 29 ∷ 0 ∷ 2 ∷ 0 ∷ 1 ∷ 0 ∷ 0 ∷ 0 ∷ 17 ∷ 187 ∷ 0 ∷ 2 ∷ 89 ∷ 183 ∷ 0 ∷ 13 ∷ 75 ∷ 42
    ∷ 182 ∷ 0 ∷ 15 ∷ 42 ∷ 182 ∷ 0 ∷ 17 ∷ 177 ∷ 0 ∷ 0 ∷ 0 ∷ 0 ∷ 0 ∷ 1 ∷ 0 ∷ 5 ∷ 0 ∷ 6 ∷ 0 ∷ 1 ∷ 0 ∷ 7 ∷ 0 ∷ 0 ∷ 0 ∷ 17 ∷ 0 ∷ 1 ∷ 0 ∷ 1 ∷ 0
    ∷ 0 ∷ 0 ∷ 5 ∷ 42 ∷ 183 ∷ 0 ∷ 12 ∷ 177 ∷ 0 ∷ 0 ∷ 0 ∷ 0 ∷ 0 ∷ 1 ∷ 0 ∷ 9 ∷ 0 ∷ 6 ∷ 0 ∷ 1 ∷ 0 ∷ 7 ∷ 0 ∷ 0 ∷ 0 ∷ 13 ∷ 0 ∷ 0 ∷ 0 ∷ 1 ∷ 0
    ∷ 0 ∷ 0 ∷ 1 ∷ 177 ∷ 0 ∷ 0 ∷ 0 ∷ 0 ∷ 0 ∷ 1 ∷ 0 ∷ 10 ∷ 0 ∷ 6 ∷ 0 ∷ 1 ∷ 0 ∷ 7 ∷ 0 ∷ 0 ∷ 0 ∷ 13 ∷ 0 ∷ 0 ∷ 0 ∷ 1 ∷ 0 ∷ 0 ∷ 0 ∷ 1 ∷ 177
    ∷ 0 ∷ 0 ∷ 0 ∷ 0 ∷ 0 ∷ 9 ∷ 0 ∷ 18 ∷ 0 ∷ 19 ∷ 0 ∷ 1 ∷ 0 ∷ 7 ∷ 0 ∷ 0 ∷ 0 ∷ 20 ∷ 0 ∷ 2 ∷ 0 ∷ 1 ∷ 0 ∷ 0 ∷ 0 ∷ 8 ∷ 187 ∷ 0 ∷ 2 ∷ 89 ∷ 183
    ∷ 0 ∷ 13 ∷ 176 ∷ 0 ∷ 0 ∷ 0 ∷ 0 ∷ 0 ∷ 0 ∷ []

-- Those of the last two, as they stand in cases/two-objects/folder/F.class and cases/object-in-an-array/folder/F.class.
abbrev pub two_objects_bytes : List ℕ
two_objects_bytes =
    202 ∷ 254 ∷ 186 ∷ 190 ∷ 0 ∷ 0 ∷ 0 ∷ 52 ∷ 0 ∷ 22 ∷ 1 ∷ 0 ∷ 1 ∷ 70 ∷ 7 ∷ 0 ∷ 1 ∷ 1 ∷ 0 ∷ 16 ∷ 106 ∷ 97 ∷ 118 ∷ 97 ∷ 47 ∷ 108 ∷ 97 ∷ 110 ∷ 103 ∷ 47 ∷ 79
    ∷ 98 ∷ 106 ∷ 101 ∷ 99 ∷ 116 ∷ 7 ∷ 0 ∷ 3 ∷ 1 ∷ 0 ∷ 6 ∷ 60 ∷ 105 ∷ 110 ∷ 105 ∷ 116 ∷ 62 ∷ 1 ∷ 0 ∷ 3 ∷ 40 ∷ 41 ∷ 86 ∷ 1 ∷ 0 ∷ 4 ∷ 67 ∷ 111 ∷ 100 ∷ 101 ∷ 1
    ∷ 0 ∷ 4 ∷ 109 ∷ 97 ∷ 105 ∷ 110 ∷ 1 ∷ 0 ∷ 4 ∷ 114 ∷ 101 ∷ 97 ∷ 100 ∷ 1 ∷ 0 ∷ 5 ∷ 99 ∷ 108 ∷ 111 ∷ 115 ∷ 101 ∷ 12 ∷ 0 ∷ 5 ∷ 0 ∷ 6 ∷ 10 ∷ 0 ∷ 4 ∷ 0 ∷ 11
    ∷ 10 ∷ 0 ∷ 2 ∷ 0 ∷ 11 ∷ 12 ∷ 0 ∷ 9 ∷ 0 ∷ 6 ∷ 10 ∷ 0 ∷ 2 ∷ 0 ∷ 14 ∷ 12 ∷ 0 ∷ 10 ∷ 0 ∷ 6 ∷ 10 ∷ 0 ∷ 2 ∷ 0 ∷ 16 ∷ 1 ∷ 0 ∷ 4 ∷ 109 ∷ 97 ∷ 107
    ∷ 101 ∷ 1 ∷ 0 ∷ 5 ∷ 40 ∷ 41 ∷ 76 ∷ 70 ∷ 59 ∷ 12 ∷ 0 ∷ 18 ∷ 0 ∷ 19 ∷ 10 ∷ 0 ∷ 2 ∷ 0 ∷ 20 ∷ 0 ∷ 33 ∷ 0 ∷ 2 ∷ 0 ∷ 4 ∷ 0 ∷ 0 ∷ 0 ∷ 0 ∷ 0 ∷ 5
    ∷ 0 ∷ 9 ∷ 0 ∷ 8 ∷ 0 ∷ 6 ∷ 0 ∷ 1 ∷ 0 ∷ 7 ∷ 0 ∷ 0 ∷ 0 ∷ 33 ∷ 0 ∷ 3 ∷ 0 ∷ 1 ∷ 0 ∷ 0 ∷ 0 ∷ 21 ∷ 184 ∷ 0 ∷ 21 ∷ 75 ∷ 42 ∷ 182 ∷ 0 ∷ 15 ∷ 42
    ∷ 182 ∷ 0 ∷ 17 ∷ 184 ∷ 0 ∷ 21 ∷ 75 ∷ 42 ∷ 182 ∷ 0 ∷ 15 ∷ 177 ∷ 0 ∷ 0 ∷ 0 ∷ 0 ∷ 0 ∷ 1 ∷ 0 ∷ 5 ∷ 0 ∷ 6 ∷ 0 ∷ 1 ∷ 0 ∷ 7 ∷ 0 ∷ 0 ∷ 0 ∷ 17 ∷ 0
    ∷ 1 ∷ 0 ∷ 1 ∷ 0 ∷ 0 ∷ 0 ∷ 5 ∷ 42 ∷ 183 ∷ 0 ∷ 12 ∷ 177 ∷ 0 ∷ 0 ∷ 0 ∷ 0 ∷ 0 ∷ 1 ∷ 0 ∷ 9 ∷ 0 ∷ 6 ∷ 0 ∷ 1 ∷ 0 ∷ 7 ∷ 0 ∷ 0 ∷ 0 ∷ 13 ∷ 0
    ∷ 0 ∷ 0 ∷ 1 ∷ 0 ∷ 0 ∷ 0 ∷ 1 ∷ 177 ∷ 0 ∷ 0 ∷ 0 ∷ 0 ∷ 0 ∷ 1 ∷ 0 ∷ 10 ∷ 0 ∷ 6 ∷ 0 ∷ 1 ∷ 0 ∷ 7 ∷ 0 ∷ 0 ∷ 0 ∷ 13 ∷ 0 ∷ 0 ∷ 0 ∷ 1 ∷ 0
    ∷ 0 ∷ 0 ∷ 1 ∷ 177 ∷ 0 ∷ 0 ∷ 0 ∷ 0 ∷ 0 ∷ 9 ∷ 0 ∷ 18 ∷ 0 ∷ 19 ∷ 0 ∷ 1 ∷ 0 ∷ 7 ∷ 0 ∷ 0 ∷ 0 ∷ 20 ∷ 0 ∷ 2 ∷ 0 ∷ 1 ∷ 0 ∷ 0 ∷ 0 ∷ 8 ∷ 187
    ∷ 0 ∷ 2 ∷ 89 ∷ 183 ∷ 0 ∷ 13 ∷ 176 ∷ 0 ∷ 0 ∷ 0 ∷ 0 ∷ 0 ∷ 0 ∷ []

abbrev pub object_in_array_bytes : List ℕ
object_in_array_bytes =
    202 ∷ 254 ∷ 186 ∷ 190 ∷ 0 ∷ 0 ∷ 0 ∷ 52 ∷ 0 ∷ 22 ∷ 1 ∷ 0 ∷ 1 ∷ 70 ∷ 7 ∷ 0 ∷ 1 ∷ 1 ∷ 0 ∷ 16 ∷ 106 ∷ 97 ∷ 118 ∷ 97 ∷ 47 ∷ 108 ∷ 97 ∷ 110 ∷ 103 ∷ 47 ∷ 79
    ∷ 98 ∷ 106 ∷ 101 ∷ 99 ∷ 116 ∷ 7 ∷ 0 ∷ 3 ∷ 1 ∷ 0 ∷ 6 ∷ 60 ∷ 105 ∷ 110 ∷ 105 ∷ 116 ∷ 62 ∷ 1 ∷ 0 ∷ 3 ∷ 40 ∷ 41 ∷ 86 ∷ 1 ∷ 0 ∷ 4 ∷ 67 ∷ 111 ∷ 100 ∷ 101 ∷ 1
    ∷ 0 ∷ 4 ∷ 109 ∷ 97 ∷ 105 ∷ 110 ∷ 1 ∷ 0 ∷ 4 ∷ 114 ∷ 101 ∷ 97 ∷ 100 ∷ 1 ∷ 0 ∷ 5 ∷ 99 ∷ 108 ∷ 111 ∷ 115 ∷ 101 ∷ 12 ∷ 0 ∷ 5 ∷ 0 ∷ 6 ∷ 10 ∷ 0 ∷ 4 ∷ 0 ∷ 11
    ∷ 10 ∷ 0 ∷ 2 ∷ 0 ∷ 11 ∷ 12 ∷ 0 ∷ 9 ∷ 0 ∷ 6 ∷ 10 ∷ 0 ∷ 2 ∷ 0 ∷ 14 ∷ 12 ∷ 0 ∷ 10 ∷ 0 ∷ 6 ∷ 10 ∷ 0 ∷ 2 ∷ 0 ∷ 16 ∷ 1 ∷ 0 ∷ 4 ∷ 109 ∷ 97 ∷ 107
    ∷ 101 ∷ 1 ∷ 0 ∷ 5 ∷ 40 ∷ 41 ∷ 76 ∷ 70 ∷ 59 ∷ 12 ∷ 0 ∷ 18 ∷ 0 ∷ 19 ∷ 10 ∷ 0 ∷ 2 ∷ 0 ∷ 20 ∷ 0 ∷ 33 ∷ 0 ∷ 2 ∷ 0 ∷ 4 ∷ 0 ∷ 0 ∷ 0 ∷ 0 ∷ 0 ∷ 5
    ∷ 0 ∷ 9 ∷ 0 ∷ 8 ∷ 0 ∷ 6 ∷ 0 ∷ 1 ∷ 0 ∷ 7 ∷ 0 ∷ 0 ∷ 0 ∷ 40 ∷ 0 ∷ 3 ∷ 0 ∷ 1 ∷ 0 ∷ 0 ∷ 0 ∷ 28 ∷ 184 ∷ 0 ∷ 21 ∷ 75 ∷ 4 ∷ 189 ∷ 0 ∷ 2 ∷ 3
    ∷ 42 ∷ 83 ∷ 42 ∷ 182 ∷ 0 ∷ 15 ∷ 42 ∷ 182 ∷ 0 ∷ 17 ∷ 184 ∷ 0 ∷ 21 ∷ 75 ∷ 42 ∷ 182 ∷ 0 ∷ 15 ∷ 177 ∷ 0 ∷ 0 ∷ 0 ∷ 0 ∷ 0 ∷ 1 ∷ 0 ∷ 5 ∷ 0 ∷ 6 ∷ 0 ∷ 1
    ∷ 0 ∷ 7 ∷ 0 ∷ 0 ∷ 0 ∷ 17 ∷ 0 ∷ 1 ∷ 0 ∷ 1 ∷ 0 ∷ 0 ∷ 0 ∷ 5 ∷ 42 ∷ 183 ∷ 0 ∷ 12 ∷ 177 ∷ 0 ∷ 0 ∷ 0 ∷ 0 ∷ 0 ∷ 1 ∷ 0 ∷ 9 ∷ 0 ∷ 6 ∷ 0 ∷ 1
    ∷ 0 ∷ 7 ∷ 0 ∷ 0 ∷ 0 ∷ 13 ∷ 0 ∷ 0 ∷ 0 ∷ 1 ∷ 0 ∷ 0 ∷ 0 ∷ 1 ∷ 177 ∷ 0 ∷ 0 ∷ 0 ∷ 0 ∷ 0 ∷ 1 ∷ 0 ∷ 10 ∷ 0 ∷ 6 ∷ 0 ∷ 1 ∷ 0 ∷ 7 ∷ 0 ∷ 0
    ∷ 0 ∷ 13 ∷ 0 ∷ 0 ∷ 0 ∷ 1 ∷ 0 ∷ 0 ∷ 0 ∷ 1 ∷ 177 ∷ 0 ∷ 0 ∷ 0 ∷ 0 ∷ 0 ∷ 9 ∷ 0 ∷ 18 ∷ 0 ∷ 19 ∷ 0 ∷ 1 ∷ 0 ∷ 7 ∷ 0 ∷ 0 ∷ 0 ∷ 20 ∷ 0 ∷ 2
    ∷ 0 ∷ 1 ∷ 0 ∷ 0 ∷ 0 ∷ 8 ∷ 187 ∷ 0 ∷ 2 ∷ 89 ∷ 183 ∷ 0 ∷ 13 ∷ 176 ∷ 0 ∷ 0 ∷ 0 ∷ 0 ∷ 0 ∷ 0 ∷ []

-- ---- property files

-- A property file of the class F with the states opened, closed and error. Of `read` it has these names of next states; `close` leads from opened and
-- from closed to closed.
abbrev pub property_file_with : List ℕ → List ℕ
property_file_with next =
    codes "version = 1\nclass = \"F\"\nstates = [\"opened\", \"closed\", \"error\"]\ninitial = \"opened\"\nerror = \"error\"\n"
    ++ codes "[[event]]\nname = \"read\"\ndescriptor = \"()V\"\nnext = [" ++ next ++ codes "]\n"
    ++ codes "[[event]]\nname = \"close\"\ndescriptor = \"()V\"\nnext = [\"closed\", \"closed\", \"error\"]\n"

-- Any number of reads, and no read after a close.
abbrev pub read_then_close_file : List ℕ
read_then_close_file = property_file_with (codes "\"opened\", \"error\", \"error\"")

-- At most one read: it closes the object.
abbrev pub one_read_file : List ℕ
one_read_file = property_file_with (codes "\"closed\", \"error\", \"error\"")

-- ---- runs

-- The words of a run by all stages: the class files are in a folder, the property file has this name there, and the entry is `main` of F.
abbrev pub default_words : List (List ℕ)
default_words = codes "--classes" ∷ codes "classes" ∷ codes "--property" ∷ codes "p.toml" ∷ codes "--entry" ∷ codes "F.main" ∷ []

-- Those of a run by the first stage alone.
abbrev pub words : List (List ℕ)
words = default_words ++ codes "--stages" ∷ codes "1" ∷ []

-- The folder has two files, the class file and the property file.
abbrev pub folder_with : ClassFile → List ℕ → List File
folder_with c property = record { name = codes "F.class"; bytes = spell c } ∷ record { name = codes "p.toml"; bytes = property } ∷ []

-- The folders of the examples.
abbrev pub two_reads_folder : List File
two_reads_folder = folder_with two_reads read_then_close_file

abbrev pub second_read_folder : List File
second_read_folder = folder_with two_reads one_read_file

abbrev pub read_after_close_folder : List File
read_after_close_folder = folder_with close_twice_then_read read_then_close_file

abbrev pub read_then_close_folder : List File
read_then_close_folder = folder_with read_then_close read_then_close_file

abbrev pub two_objects_folder : List File
two_objects_folder = folder_with two_objects read_then_close_file

abbrev pub object_in_array_folder : List File
object_in_array_folder = folder_with object_in_array read_then_close_file

-- ---- executions

-- The site where the method of a number makes an object of the class F: its first instruction.
abbrev pub made_in : ℕ → Site
made_in number = record { kind = New; method = Some (record { 0 = number }); offset = 0; class = codes "F" }

-- The sites in the entry, which is the first method of the class F, and in `make`, which is the fifth.
abbrev pub made_by_entry : Subject → Site
made_by_entry x = made_in x.entry

abbrev pub made_by_make : Subject → Site
made_by_make x = made_in (x.entry + 4)

-- An object of the site is in this state of the automaton.
pub record HasOneIn (w : World) (site : Site) (state : ℕ) : Type 0 where
  pub object : Object
  pub lives : Contains w.heap object
  pub of_site : object.site ≡ site
  pub in_state : object.automaton ≡ state

-- Some execution ends, and in its last state an object of the site is in each of these states of the automaton.
pub record EndsIn (x : Subject) (site : Site) (states : List ℕ) : Type 0 where
  pub before : List State
  pub last : State
  pub execution : IsExecution x (before ++ last ∷ [])
  pub is_end : last.mode ≡ ended
  pub each : All (HasOneIn last.world site) states
