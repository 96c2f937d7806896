-- Public contracts rest on this module.
-- Programs with calls: `main` of the class Main, which gets a code each time. A gate is a door, whose class implements the interface
-- Closing. The library has a house, with a gate from the start, and methods whose results are of each kind.
use Rattle.std.specs.Prelude.{codes, true, List, [], ◌∷◌}
use Rattle.jvm_model.specs.declared.class_file.ClassFile.{ClassFile}
use Rattle.jvm_model.specs.declared.pool.PoolEntry.{PoolEntry}
use Rattle.jvm_model.specs.declared.pool.PoolEntry.TheVariants.{Utf8, Class, Fieldref, Methodref, InterfaceMethodref, NameAndType}
use Rattle.jvm_model.specs.declared.program.Origin.{Origin}
use Rattle.jvm_model.specs.declared.stub.StubArgument.TheVariants.{This, Argument}
use Rattle.jvm_model.specs.declared.stub.StubMethod.{StubMethod}
use Rattle.jvm_model.specs.declared.stub.StubResult.TheVariants.{Primitive, Void, Null, Given, New, Kept}
use Rattle.jvm_model.specs.Code.{CodeBody}
use Rattle.jvm_model.specs.Linking.{program_from}
use Rattle.jvm_model.specs.Programs.{Program, object_name}
use Rattle.jvm_model.specs.Soundness.{plain_descriptor}
use Rattle.machine_bytecode.specs.Objects.{Subject, string_name}
use Rattle.example_machine.specs.Building.{code, handler, pool_of, method, without_code, field, class_with, in_folder, described_with, gives, gives_static, holding, library, library_class, run_of}

-- ---- the classes of the folder

-- A method that only returns.
abbrev pub only_returns : CodeBody
only_returns = code 0 1 (177 ∷ []) []  -- 0: return

abbrev pub closing_pool : List PoolEntry
closing_pool = pool_of (codes "Closing") object_name (
    Utf8 (codes "close")  -- 6
    ∷ Utf8 plain_descriptor  -- 7
    ∷ Utf8 (codes "shut")  -- 8
    ∷ [])

-- An interface: `close` is abstract, and `shut` is not, which the version 52 allows (JVMS 4.6).
abbrev pub closing_class : ClassFile
closing_class = record (class_with closing_pool 0x601 [] [] (without_code 0x401 6 7 ∷ method 1 8 7 only_returns ∷ [])) { major = 52 }

abbrev pub door_pool : List PoolEntry
door_pool = pool_of (codes "Door") object_name (
    Utf8 (codes "close")  -- 6
    ∷ Utf8 plain_descriptor  -- 7
    ∷ Utf8 (codes "Closing")  -- 8
    ∷ Class 8  -- 9
    ∷ [])

abbrev pub door_class : ClassFile
door_class = class_with door_pool 0x21 (9 ∷ []) [] (method 1 6 7 only_returns ∷ [])

abbrev pub gate_pool : List PoolEntry
gate_pool = pool_of (codes "Gate") (codes "Door") (
    Utf8 (codes "close")  -- 6
    ∷ Utf8 plain_descriptor  -- 7
    ∷ NameAndType 6 7  -- 8
    ∷ Methodref 5 8  -- 9: Door.close
    ∷ [])

-- `close` of a gate calls that of its superclass.
abbrev pub gate_close : CodeBody
gate_close = code 1 1 (
    42  -- 0: aload_0
    ∷ 183 ∷ 0 ∷ 9  -- 1: invokespecial Door.close
    ∷ 177  -- 4: return
    ∷ []) []

abbrev pub gate_class : ClassFile
gate_class = class_with gate_pool 0x21 [] [] (method 1 6 7 gate_close ∷ [])

abbrev pub main_pool : List PoolEntry
main_pool = pool_of (codes "Main") object_name (
    Utf8 (codes "main")  -- 6
    ∷ Utf8 plain_descriptor  -- 7
    ∷ Utf8 (codes "same")  -- 8
    ∷ Utf8 (codes "(I)I")  -- 9
    ∷ NameAndType 8 9  -- 10
    ∷ Methodref 3 10  -- 11: Main.same
    ∷ Utf8 (codes "Door")  -- 12
    ∷ Class 12  -- 13
    ∷ Utf8 (codes "close")  -- 14
    ∷ NameAndType 14 7  -- 15
    ∷ Methodref 13 15  -- 16: Door.close
    ∷ Utf8 (codes "Closing")  -- 17
    ∷ Class 17  -- 18
    ∷ InterfaceMethodref 18 15  -- 19: Closing.close
    ∷ Utf8 (codes "shut")  -- 20
    ∷ NameAndType 20 7  -- 21
    ∷ InterfaceMethodref 18 21  -- 22: Closing.shut
    ∷ Utf8 (codes "hashCode")  -- 23
    ∷ Utf8 (codes "()I")  -- 24
    ∷ NameAndType 23 24  -- 25
    ∷ Methodref 5 25  -- 26: Object.hashCode
    ∷ Utf8 (codes "lib/House")  -- 27
    ∷ Class 27  -- 28
    ∷ Utf8 (codes "gate")  -- 29
    ∷ Utf8 (codes "LDoor;")  -- 30
    ∷ NameAndType 29 30  -- 31
    ∷ Fieldref 28 31  -- 32: House.gate, static
    ∷ Utf8 (codes "count")  -- 33
    ∷ NameAndType 33 24  -- 34
    ∷ Methodref 28 34  -- 35: House.count
    ∷ Utf8 (codes "ring")  -- 36
    ∷ NameAndType 36 7  -- 37
    ∷ Methodref 28 37  -- 38: House.ring
    ∷ Utf8 (codes "none")  -- 39
    ∷ Utf8 (codes "()LDoor;")  -- 40
    ∷ NameAndType 39 40  -- 41
    ∷ Methodref 28 41  -- 42: House.none
    ∷ Utf8 (codes "(LDoor;)LDoor;")  -- 43
    ∷ NameAndType 8 43  -- 44
    ∷ Methodref 28 44  -- 45: House.same
    ∷ Utf8 (codes "fresh")  -- 46
    ∷ NameAndType 46 40  -- 47
    ∷ Methodref 28 47  -- 48: House.fresh
    ∷ Utf8 (codes "put")  -- 49
    ∷ Utf8 (codes "(LDoor;)V")  -- 50
    ∷ NameAndType 49 50  -- 51
    ∷ Methodref 28 51  -- 52: House.put
    ∷ Utf8 (codes "take")  -- 53
    ∷ NameAndType 53 40  -- 54
    ∷ Methodref 28 54  -- 55: House.take
    ∷ Utf8 (codes "fail")  -- 56
    ∷ NameAndType 56 7  -- 57
    ∷ Methodref 28 57  -- 58: House.fail
    ∷ Utf8 (codes "java/lang/Exception")  -- 59
    ∷ Class 59  -- 60
    ∷ Utf8 (codes "<init>")  -- 61
    ∷ NameAndType 61 7  -- 62
    ∷ Methodref 5 62  -- 63: the constructor of Object
    ∷ InterfaceMethodref 18 25  -- 64: Closing.hashCode
    ∷ Methodref 13 21  -- 65: Door.shut
    ∷ Utf8 (codes "make")  -- 66
    ∷ Utf8 (codes "()Llib/House;")  -- 67
    ∷ NameAndType 66 67  -- 68
    ∷ Methodref 28 68  -- 69: House.make
    ∷ Utf8 (codes "pick")  -- 70
    ∷ Utf8 (codes "(JLDoor;)LDoor;")  -- 71
    ∷ NameAndType 70 71  -- 72
    ∷ Methodref 28 72  -- 73: House.pick
    ∷ Utf8 (codes "me")  -- 74
    ∷ NameAndType 74 67  -- 75
    ∷ Methodref 28 75  -- 76: House.me
    ∷ Utf8 (codes "title")  -- 77
    ∷ Utf8 (codes "Ljava/lang/String;")  -- 78
    ∷ NameAndType 77 78  -- 79
    ∷ Fieldref 3 79  -- 80: Main.title, static
    ∷ [])

-- `same` returns its number.
abbrev pub same_number : CodeBody
same_number = code 1 1 (
    26  -- 0: iload_0
    ∷ 172  -- 1: ireturn
    ∷ []) []

-- `main` and `same` are static, and so is the field `title`.
abbrev pub main_class : CodeBody → ClassFile
main_class k = class_with main_pool 0x21 [] (field 9 77 78 ∷ []) (method 9 6 7 k ∷ method 9 8 9 same_number ∷ [])

-- ---- the library

-- The methods of a house, which are static but for the last two.
abbrev pub house_methods : List StubMethod
house_methods =
    gives_static (codes "count") (codes "()I") Primitive
    ∷ gives_static (codes "ring") plain_descriptor Void
    ∷ gives_static (codes "none") (codes "()LDoor;") Null
    ∷ gives_static (codes "same") (codes "(LDoor;)LDoor;") (Given (Argument 1))
    ∷ gives_static (codes "fresh") (codes "()LDoor;") (New (codes "Gate"))
    ∷ described_with true (codes "put") (codes "(LDoor;)V") (Void ∷ []) [] (Argument 1 ∷ [])
    ∷ gives_static (codes "take") (codes "()LDoor;") Kept
    ∷ described_with true (codes "fail") plain_descriptor [] (codes "java/lang/Exception" ∷ []) []
    ∷ gives_static (codes "make") (codes "()Llib/House;") (New (codes "lib/House"))
    ∷ gives (codes "pick") (codes "(JLDoor;)LDoor;") (Given (Argument 2))
    ∷ gives (codes "me") (codes "()Llib/House;") (Given This)
    ∷ []

abbrev pub house : Origin
house = library (codes "lib/House") object_name house_methods (holding (codes "gate") (codes "LDoor;") (codes "Gate") ∷ [])

abbrev pub object : Origin
object = library object_name [] (gives (codes "hashCode") (codes "()I") Primitive ∷ gives (codes "<init>") plain_descriptor Void ∷ []) []

-- ---- the program

-- The classes in byte order of their names.
abbrev pub order : CodeBody → List Origin
order k =
    in_folder (codes "Closing.class") closing_class
    ∷ in_folder (codes "Door.class") door_class
    ∷ in_folder (codes "Gate.class") gate_class
    ∷ in_folder (codes "Main.class") (main_class k)
    ∷ library_class (codes "java/lang/Exception") (codes "java/lang/Throwable")
    ∷ object
    ∷ library_class string_name object_name
    ∷ library_class (codes "java/lang/Throwable") object_name
    ∷ house
    ∷ []

abbrev pub program_with : CodeBody → Program
program_with k = program_from (order k)

-- `main` is run, whose number is 4. Doors are closed once.
abbrev pub runs : CodeBody → Subject
runs k = run_of (program_with k) 4 (codes "Door")

-- ---- the codes of `main`

abbrev pub calls_same : CodeBody
calls_same = code 1 0 (
    4  -- 0: iconst_1
    ∷ 184 ∷ 0 ∷ 11  -- 1: invokestatic Main.same
    ∷ 87  -- 4: pop
    ∷ 177  -- 5: return
    ∷ []) []

-- A gate is closed, as a door, and then again.
abbrev pub closes : CodeBody
closes = code 1 0 (
    178 ∷ 0 ∷ 32  -- 0: getstatic House.gate
    ∷ 182 ∷ 0 ∷ 16  -- 3: invokevirtual Door.close
    ∷ 178 ∷ 0 ∷ 32  -- 6: getstatic House.gate
    ∷ 182 ∷ 0 ∷ 16  -- 9: invokevirtual Door.close
    ∷ 177  -- 12: return
    ∷ []) []

-- It is closed by a call of the interface's method.
abbrev pub closes_by_interface : CodeBody
closes_by_interface = code 1 0 (
    178 ∷ 0 ∷ 32  -- 0: getstatic House.gate
    ∷ 185 ∷ 0 ∷ 19 ∷ 1 ∷ 0  -- 3: invokeinterface Closing.close
    ∷ 177  -- 8: return
    ∷ []) []

abbrev pub shuts : CodeBody
shuts = code 1 0 (
    178 ∷ 0 ∷ 32  -- 0: getstatic House.gate
    ∷ 185 ∷ 0 ∷ 22 ∷ 1 ∷ 0  -- 3: invokeinterface Closing.shut
    ∷ 177  -- 8: return
    ∷ []) []

abbrev pub hashes : CodeBody
hashes = code 1 0 (
    4  -- 0: iconst_1
    ∷ 188 ∷ 10  -- 1: newarray int
    ∷ 182 ∷ 0 ∷ 26  -- 3: invokevirtual Object.hashCode
    ∷ 87  -- 6: pop
    ∷ 177  -- 7: return
    ∷ []) []

abbrev pub counts : CodeBody
counts = code 1 0 (
    184 ∷ 0 ∷ 35  -- 0: invokestatic House.count
    ∷ 87  -- 3: pop
    ∷ 177  -- 4: return
    ∷ []) []

abbrev pub rings : CodeBody
rings = code 0 0 (
    184 ∷ 0 ∷ 38  -- 0: invokestatic House.ring
    ∷ 177  -- 3: return
    ∷ []) []

abbrev pub gets_none : CodeBody
gets_none = code 1 0 (
    184 ∷ 0 ∷ 42  -- 0: invokestatic House.none
    ∷ 87  -- 3: pop
    ∷ 177  -- 4: return
    ∷ []) []

abbrev pub gets_same : CodeBody
gets_same = code 1 0 (
    178 ∷ 0 ∷ 32  -- 0: getstatic House.gate
    ∷ 184 ∷ 0 ∷ 45  -- 3: invokestatic House.same
    ∷ 87  -- 6: pop
    ∷ 177  -- 7: return
    ∷ []) []

abbrev pub gets_fresh : CodeBody
gets_fresh = code 1 0 (
    184 ∷ 0 ∷ 48  -- 0: invokestatic House.fresh
    ∷ 87  -- 3: pop
    ∷ 177  -- 4: return
    ∷ []) []

-- The gate is put into the house, and taken out.
abbrev pub keeps : CodeBody
keeps = code 1 0 (
    178 ∷ 0 ∷ 32  -- 0: getstatic House.gate
    ∷ 184 ∷ 0 ∷ 52  -- 3: invokestatic House.put
    ∷ 184 ∷ 0 ∷ 55  -- 6: invokestatic House.take
    ∷ 87  -- 9: pop
    ∷ 177  -- 10: return
    ∷ []) []

-- What a call throws is caught.
abbrev pub fails : CodeBody
fails = code 1 0 (
    184 ∷ 0 ∷ 58  -- 0: invokestatic House.fail
    ∷ 177  -- 3: return
    ∷ 87  -- 4: pop
    ∷ 177  -- 5: return
    ∷ []) (handler 0 3 4 60 ∷ [])  -- from 0 to 3, java/lang/Exception: 4

-- ---- more calls

-- An object is made, and its constructor is called.
abbrev pub creates : CodeBody
creates = code 2 0 (
    187 ∷ 0 ∷ 5  -- 0: new Object
    ∷ 89  -- 3: dup
    ∷ 183 ∷ 0 ∷ 63  -- 4: invokespecial Object.<init>
    ∷ 87  -- 7: pop
    ∷ 177  -- 8: return
    ∷ []) []

-- A method of java/lang/Object is called as one of the interface.
abbrev pub hashes_gate : CodeBody
hashes_gate = code 1 0 (
    178 ∷ 0 ∷ 32  -- 0: getstatic House.gate
    ∷ 185 ∷ 0 ∷ 64 ∷ 1 ∷ 0  -- 3: invokeinterface Closing.hashCode
    ∷ 87  -- 8: pop
    ∷ 177  -- 9: return
    ∷ []) []

-- The interface's method is called as one of the class.
abbrev pub shuts_door : CodeBody
shuts_door = code 1 0 (
    178 ∷ 0 ∷ 32  -- 0: getstatic House.gate
    ∷ 182 ∷ 0 ∷ 65  -- 3: invokevirtual Door.shut
    ∷ 177  -- 6: return
    ∷ []) []

-- The second argument is given back, after a receiver and a long.
abbrev pub picks : CodeBody
picks = code 4 0 (
    184 ∷ 0 ∷ 69  -- 0: invokestatic House.make
    ∷ 10  -- 3: lconst_1
    ∷ 178 ∷ 0 ∷ 32  -- 4: getstatic House.gate
    ∷ 182 ∷ 0 ∷ 73  -- 7: invokevirtual House.pick
    ∷ 87  -- 10: pop
    ∷ 177  -- 11: return
    ∷ []) []

abbrev pub gets_me : CodeBody
gets_me = code 1 0 (
    184 ∷ 0 ∷ 69  -- 0: invokestatic House.make
    ∷ 182 ∷ 0 ∷ 76  -- 3: invokevirtual House.me
    ∷ 87  -- 6: pop
    ∷ 177  -- 7: return
    ∷ []) []

-- ---- a static field of type String

abbrev pub reads_title : CodeBody
reads_title = code 1 0 (
    178 ∷ 0 ∷ 80  -- 0: getstatic Main.title
    ∷ 87  -- 3: pop
    ∷ 177  -- 4: return
    ∷ []) []
