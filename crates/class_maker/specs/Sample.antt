-- Public contracts rest on this module.
-- The sample of so many methods: three files, which are a property, the class F that the property is of, and the class Sample. Each of
-- the methods of Sample makes an object of F and calls methods on it, in one of three ways.
use Rattle.std.specs.Prelude.{codes, ℕ, ◌+◌, ◌-◌, ◌*◌, ◌%◌, ◌^◌, ◌==◌, if◌then◌else◌, List, [], ◌∷◌, ◌++◌, map}
use Rattle.std.specs.Fmt.{decimal}
use Rattle.std.specs.List.{flat_map, range_with_len}
use Rattle.ts_outside.specs.Files.{File}
use Rattle.jvm_model.specs.declared.class_file.ClassFile.{ClassFile}
use Rattle.jvm_model.specs.declared.class_file.Member.{Member}
use Rattle.jvm_model.specs.declared.pool.PoolEntry.{PoolEntry}
use Rattle.jvm_model.specs.declared.pool.PoolEntry.TheVariants.{Utf8, Class, Methodref, NameAndType}
use Rattle.jvm_model.specs.Code.{spell_code}
use Rattle.jvm_model.specs.Spelling.{u2, spell}

-- ---- instructions (JVMS 6.5), with their indices of the constant pool

abbrev pub iconst_0 : List ℕ
iconst_0 = 3 ∷ []

abbrev pub aload_0 : List ℕ
aload_0 = 42 ∷ []

abbrev pub aload_1 : List ℕ
aload_1 = 43 ∷ []

abbrev pub astore_0 : List ℕ
astore_0 = 75 ∷ []

abbrev pub astore_1 : List ℕ
astore_1 = 76 ∷ []

abbrev pub dup : List ℕ
dup = 89 ∷ []

-- A branch back by so many bytes.
abbrev pub ifeq_back : ℕ → List ℕ
ifeq_back distance = 153 ∷ u2 (2 ^ 16 - distance)

abbrev pub return_void : List ℕ
return_void = 177 ∷ []

abbrev pub invokevirtual : ℕ → List ℕ
invokevirtual method = 182 ∷ u2 method

abbrev pub invokespecial : ℕ → List ℕ
invokespecial method = 183 ∷ u2 method

abbrev pub invokestatic : ℕ → List ℕ
invokestatic method = 184 ∷ u2 method

abbrev pub new : ℕ → List ℕ
new class = 187 ∷ u2 class

-- ---- both classes

-- The first entries of both constant pools. The first one has the index 1.
abbrev pub shared_entries : List PoolEntry
shared_entries =
    Utf8 (codes "Code")  -- 1
    ∷ Utf8 (codes "()V")  -- 2
    ∷ Utf8 (codes "java/lang/Object")  -- 3
    ∷ Class 3  -- 4
    ∷ Utf8 (codes "F")  -- 5
    ∷ Class 5  -- 6
    ∷ Utf8 (codes "<init>")  -- 7
    ∷ NameAndType 7 2  -- 8
    ∷ []

-- The body of a Code attribute with this code: four units of the operand stack, three local variables, no handlers (JVMS 4.7.3).
abbrev pub body_with : List ℕ → List ℕ
body_with code = spell_code (record { max_stack = 4; max_locals = 3; bytes = code; handlers = []; attributes = [] })

-- A method of the descriptor ()V by its flags, the index of its name, and its code.
abbrev pub method : (flags name : ℕ) → (code : List ℕ) → Member
method flags name code = record { flags = flags; name = name; descriptor = 2; attributes = record { name = 1; body = body_with code } ∷ [] }

-- A public class without fields, which extends Object, by its constant pool, the index of its name, and its methods. Of its version a
-- code needs no attribute for its branches (JVMS 4.7.4, 4.10).
abbrev pub class_with : List PoolEntry → (this_class : ℕ) → (methods : List Member) → ClassFile
class_with pool this_class methods = record {
  minor = 0;
  major = 49;
  pool = pool;
  flags = 0x21;
  this_class = this_class;
  super_class = 4;
  interfaces = [];
  fields = [];
  methods = methods;
  attributes = [];
}

-- ---- the class F

-- The further entries of its constant pool.
abbrev pub entries_of_f : List PoolEntry
entries_of_f =
    Methodref 4 8  -- 9: the constructor of Object
    ∷ Utf8 (codes "open")  -- 10
    ∷ Utf8 (codes "read")  -- 11
    ∷ Utf8 (codes "close")  -- 12
    ∷ []

-- Its constructor, and three methods that do nothing; all are public.
abbrev pub class_f : ClassFile
class_f = class_with (shared_entries ++ entries_of_f) 6 (
    method 1 7 (aload_0 ++ invokespecial 9 ++ return_void)  -- <init>
    ∷ method 1 10 return_void  -- open
    ∷ method 1 11 return_void  -- read
    ∷ method 1 12 return_void  -- close
    ∷ [])

-- ---- the class Sample

-- The further entries of its constant pool, but for those of its numbered methods.
abbrev pub entries_of_sample : List PoolEntry
entries_of_sample =
    Methodref 6 8  -- 9: the constructor of F
    ∷ Utf8 (codes "read")  -- 10
    ∷ NameAndType 10 2  -- 11
    ∷ Methodref 6 11  -- 12: F.read
    ∷ Utf8 (codes "close")  -- 13
    ∷ NameAndType 13 2  -- 14
    ∷ Methodref 6 14  -- 15: F.close
    ∷ Utf8 (codes "Sample")  -- 16
    ∷ Class 16  -- 17
    ∷ Utf8 (codes "main")  -- 18
    ∷ []

-- The methods m0, m1 and so on have three entries each, from the index 19 on: the name, the name with the descriptor, and the method.
abbrev pub name_of : ℕ → ℕ
name_of number = 19 + 3 * number

abbrev pub entries_of_method : ℕ → List PoolEntry
entries_of_method number =
    Utf8 (codes "m" ++ decimal number)
    ∷ NameAndType (name_of number) 2
    ∷ Methodref 17 (name_of number + 1)
    ∷ []

-- The numbers below a number.
abbrev pub below : ℕ → List ℕ
below count = range_with_len 0 count

abbrev pub sample_pool : ℕ → List PoolEntry
sample_pool count = shared_entries ++ entries_of_sample ++ flat_map entries_of_method (below count)

-- An object of F is made, and put into the local variable 0.
abbrev pub made_object : List ℕ
made_object =
    new 6  -- 0
    ++ dup  -- 3
    ++ invokespecial 9  -- 4
    ++ astore_0  -- 7

abbrev pub read_then_close : List ℕ
read_then_close =
    made_object
    ++ aload_0  -- 8
    ++ invokevirtual 12  -- 9: read
    ++ aload_0  -- 12
    ++ invokevirtual 15  -- 13: close

-- The object is read and closed.
abbrev pub once_code : List ℕ
once_code = read_then_close ++ return_void  -- 16

-- So in a loop, with a new object each time.
abbrev pub loop_code : List ℕ
loop_code =
    read_then_close
    ++ iconst_0  -- 16
    ++ ifeq_back 17  -- 17: to 0
    ++ return_void  -- 20

-- The object is closed by the local variable 1, and then read by the local variable 0.
abbrev pub alias_code : List ℕ
alias_code =
    made_object
    ++ aload_0  -- 8
    ++ astore_1  -- 9
    ++ aload_1  -- 10
    ++ invokevirtual 15  -- 11: close
    ++ aload_0  -- 14
    ++ invokevirtual 12  -- 15: read
    ++ return_void  -- 18

-- The code of the method of a number, by the remainder of the number by three.
abbrev pub code_of : ℕ → List ℕ
code_of number =
    if number % 3 == 0 then once_code
    else if number % 3 == 1 then loop_code
    else alias_code

-- The method of a number: public and static.
abbrev pub numbered_method : ℕ → Member
numbered_method number = method 9 (name_of number) (code_of number)

-- The code of main calls the methods in order.
abbrev pub call_of : ℕ → List ℕ
call_of number = invokestatic (name_of number + 2)

abbrev pub main_code : ℕ → List ℕ
main_code count = flat_map call_of (below count) ++ return_void

abbrev pub main_method : ℕ → Member
main_method count = method 9 18 (main_code count)

abbrev pub class_sample : ℕ → ClassFile
class_sample count = class_with (sample_pool count) 17 (main_method count ∷ map numbered_method (below count))

-- ---- the files

-- An object is opened at first, and may be read until it is closed.
abbrev pub property_text : List ℕ
property_text =
    codes "version = 1\nclass = \"F\"\nstates = [\"opened\", \"closed\", \"error\"]\ninitial = \"opened\"\nerror = \"error\"\n"
    ++ codes "[[event]]\nname = \"read\"\ndescriptor = \"()V\"\nnext = [\"opened\", \"error\", \"error\"]\n"
    ++ codes "[[event]]\nname = \"close\"\ndescriptor = \"()V\"\nnext = [\"closed\", \"closed\", \"error\"]\n"

abbrev pub sample_files : ℕ → List File
sample_files count =
    record { name = codes "sample.toml"; bytes = property_text }
    ∷ record { name = codes "F.class"; bytes = spell class_f }
    ∷ record { name = codes "Sample.class"; bytes = spell (class_sample count) }
    ∷ []
