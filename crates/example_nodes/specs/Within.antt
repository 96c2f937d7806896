-- Public contracts rest on this module.
-- The nodes of `main` of programs whose steps stay within one method. The classes have the numbers 0 to 3: Main, Object, String and
-- Box; and the fields too: last, it, next and count.
use Rattle.std.specs.Prelude.{codes, ℕ, List, [], ◌∷◌, None}
use Rattle.jvm_model.specs.Code.{CodeBody}
use Rattle.op_model.specs.declared.lowered.LoweredMethod.{LoweredMethod}
use Rattle.op_model.specs.declared.node.Node.{Node}
use Rattle.op_model.specs.declared.op.Move.{Move}
use Rattle.op_model.specs.declared.op.Op.{Op}
use Rattle.op_model.specs.declared.op.Op.TheVariants.{Assign, Load, Store, LoadElement, StoreElement, LoadStatic, StoreStatic, New, NewArray, Constant, Return, Cast, Probe}
use Rattle.op_model.specs.Supplies.{Given}
use Rattle.jvm_model.specs.Programs.{object_name}
use Rattle.jvm_model.specs.Subtypes.{array_of}
use Rattle.machine_bytecode.specs.Objects.{string_name}
use Rattle.machine_bytecode.specs.Start.{boot_site}
use Rattle.machine_bytecode.specs.States.{Value}
use Rattle.example_machine.specs.Within.{runs}
use Rattle.example_nodes.specs.Lowering.{node, with_trigger, lowered, given_by, site_in, primitive_in, null_in, copy_of, field_no}
use Rattle.example_nodes.specs.Taking.{TakesNode, OperatesTo}

-- `main` alone is given.
abbrev pub given_main : LoweredMethod → Given
given_main m = given_by (m ∷ [])

-- `main` of a code, as nodes, makes an operation that leads to an offset, with these slots.
abbrev pub MakesOperation : CodeBody → LoweredMethod → Op → ℕ → List Value → Type 0
MakesOperation k m op offset slots = TakesNode (runs k) (given_main m) (OperatesTo (runs k) (given_main m) op offset slots)

-- ---- the methods: at each node stands its instruction

-- The instruction reads the static field of a box, which is in the class Box.
abbrev pub reads_it : (offset slot next : ℕ) → Node
reads_it offset slot next = with_trigger 3 (node offset (LoadStatic (field_no 1) slot) (next ∷ []))

abbrev pub pops : (offset slot next : ℕ) → Node
pops offset slot next = node offset (Assign (primitive_in slot ∷ [])) (next ∷ [])

abbrev pub pushes_number : (offset slot next : ℕ) → Node
pushes_number offset slot next = node offset (Assign (primitive_in slot ∷ [])) (next ∷ [])

abbrev pub returns : ℕ → Node
returns offset = node offset (Return None) []

abbrev pub makes_nodes : LoweredMethod
makes_nodes = lowered 0 0 1 0 (
    with_trigger 3 (node 0 (New (site_in 0 0 (codes "lib/Box")) 0) (3 ∷ []))  -- new Box
    ∷ pops 3 0 4  -- pop
    ∷ returns 4  -- return
    ∷ [])

-- It may go on at either target.
abbrev pub switch_nodes : LoweredMethod
switch_nodes = lowered 0 0 1 0 (
    pushes_number 0 0 1  -- iconst_0
    ∷ node 1 (Assign (primitive_in 0 ∷ [])) (20 ∷ 21 ∷ [])  -- tableswitch
    ∷ returns 20  -- return
    ∷ returns 21  -- return
    ∷ [])

abbrev pub wide_iinc_nodes : LoweredMethod
wide_iinc_nodes = lowered 0 1 1 0 (
    pushes_number 0 1 1  -- iconst_0
    ∷ node 1 (Assign (primitive_in 0 ∷ primitive_in 1 ∷ [])) (2 ∷ [])  -- istore_0
    ∷ node 2 (Assign (primitive_in 0 ∷ [])) (8 ∷ [])  -- wide iinc 0 1
    ∷ returns 8  -- return
    ∷ [])

abbrev pub links_nodes : LoweredMethod
links_nodes = lowered 0 0 2 0 (
    reads_it 0 0 3  -- getstatic Box.it
    ∷ reads_it 3 1 6  -- getstatic Box.it
    ∷ node 6 (Store 0 (field_no 2) 1) (9 ∷ [])  -- putfield Box.next
    ∷ reads_it 9 0 12  -- getstatic Box.it
    ∷ node 12 (Load 0 (field_no 2) 0) (15 ∷ [])  -- getfield Box.next
    ∷ pops 15 0 16  -- pop
    ∷ returns 16  -- return
    ∷ [])

-- The field is of a primitive type.
abbrev pub counts_nodes : LoweredMethod
counts_nodes = lowered 0 0 2 0 (
    reads_it 0 0 3  -- getstatic Box.it
    ∷ pushes_number 3 1 4  -- iconst_1
    ∷ node 4 (Probe 0) (7 ∷ [])  -- putfield Box.count
    ∷ reads_it 7 0 10  -- getstatic Box.it
    ∷ node 10 (Probe 0) (13 ∷ [])  -- getfield Box.count
    ∷ pops 13 0 14  -- pop
    ∷ returns 14  -- return
    ∷ [])

abbrev pub statics_nodes : LoweredMethod
statics_nodes = lowered 0 0 1 0 (
    reads_it 0 0 3  -- getstatic Box.it
    ∷ with_trigger 0 (node 3 (StoreStatic (field_no 0) 0) (6 ∷ []))  -- putstatic Main.last
    ∷ with_trigger 0 (node 6 (LoadStatic (field_no 0) 0) (9 ∷ []))  -- getstatic Main.last
    ∷ pops 9 0 10  -- pop
    ∷ returns 10  -- return
    ∷ [])

abbrev pub constant_nodes : LoweredMethod
constant_nodes = lowered 0 0 1 0 (
    node 0 (Constant (boot_site string_name) 0) (2 ∷ [])  -- ldc "main"
    ∷ pops 2 0 3  -- pop
    ∷ returns 3  -- return
    ∷ [])

abbrev pub tables_nodes : LoweredMethod
tables_nodes = lowered 0 0 2 0 (
    pushes_number 0 0 1  -- iconst_2
    ∷ pushes_number 1 1 2  -- iconst_1
    ∷ node 2 (NewArray (site_in 0 2 (codes "[[I") ∷ site_in 0 2 (codes "[I") ∷ []) 0) (6 ∷ [])  -- multianewarray [[I
    ∷ pops 6 0 7  -- pop
    ∷ returns 7  -- return
    ∷ [])

abbrev pub boxes_nodes : LoweredMethod
boxes_nodes = lowered 0 1 3 0 (
    pushes_number 0 1 1  -- iconst_1
    ∷ node 1 (NewArray (site_in 0 1 (codes "[Llib/Box;") ∷ []) 1) (4 ∷ [])  -- anewarray Box
    ∷ node 4 (Assign (copy_of 1 0 ∷ primitive_in 1 ∷ [])) (5 ∷ [])  -- astore_0
    ∷ node 5 (Assign (copy_of 0 1 ∷ [])) (6 ∷ [])  -- aload_0
    ∷ pushes_number 6 2 7  -- iconst_0
    ∷ reads_it 7 3 10  -- getstatic Box.it
    ∷ node 10 (StoreElement 1 3) (11 ∷ [])  -- aastore
    ∷ node 11 (Assign (copy_of 0 1 ∷ [])) (12 ∷ [])  -- aload_0
    ∷ pushes_number 12 2 13  -- iconst_0
    ∷ node 13 (LoadElement 1 1) (14 ∷ [])  -- aaload
    ∷ pops 14 1 15  -- pop
    ∷ returns 15  -- return
    ∷ [])

abbrev pub box_cast_nodes : LoweredMethod
box_cast_nodes = lowered 0 0 1 0 (
    reads_it 0 0 3  -- getstatic Box.it
    ∷ node 3 (Cast (codes "lib/Box") 0) (6 ∷ [])  -- checkcast Box
    ∷ pops 6 0 7  -- pop
    ∷ returns 7  -- return
    ∷ [])

-- It has a parameter, the array of the arguments.
abbrev pub argument_nodes : LoweredMethod
argument_nodes = lowered 0 1 2 1 (
    node 0 (Assign (copy_of 0 1 ∷ [])) (1 ∷ [])  -- aload_0
    ∷ pushes_number 1 2 2  -- iconst_0
    ∷ node 2 (LoadElement 1 1) (3 ∷ [])  -- aaload
    ∷ pops 3 1 4  -- pop
    ∷ returns 4  -- return
    ∷ [])

-- ---- tests, other constants, and what may raise; here the classes of the exceptions are not there

abbrev pub pushes_null : (offset slot next : ℕ) → Node
pushes_null offset slot next = node offset (Assign (null_in slot ∷ [])) (next ∷ [])

abbrev pub branch_nodes : LoweredMethod
branch_nodes = lowered 0 0 1 0 (
    pushes_number 0 0 1  -- iconst_0
    ∷ node 1 (Assign (primitive_in 0 ∷ [])) (4 ∷ 5 ∷ [])  -- ifeq 5
    ∷ node 4 (Assign []) (5 ∷ [])  -- nop
    ∷ returns 5  -- return
    ∷ [])

abbrev pub numbers_nodes : LoweredMethod
numbers_nodes = lowered 0 0 1 0 (
    pushes_number 0 0 1  -- iconst_2
    ∷ node 1 (NewArray (site_in 0 1 (codes "[I") ∷ []) 0) (3 ∷ [])  -- newarray int
    ∷ node 3 (Probe 0) (4 ∷ [])  -- arraylength
    ∷ pops 4 0 5  -- pop
    ∷ returns 5  -- return
    ∷ [])

abbrev pub null_cast_nodes : LoweredMethod
null_cast_nodes = lowered 0 0 1 0 (
    pushes_null 0 0 1  -- aconst_null
    ∷ node 1 (Cast (codes "lib/Box") 0) (4 ∷ [])  -- checkcast Box
    ∷ pops 4 0 5  -- pop
    ∷ returns 5  -- return
    ∷ [])

abbrev pub null_branch_nodes : LoweredMethod
null_branch_nodes = lowered 0 0 1 0 (
    pushes_null 0 0 1  -- aconst_null
    ∷ node 1 (Assign (primitive_in 0 ∷ [])) (4 ∷ 5 ∷ [])  -- ifnull 5
    ∷ returns 4  -- return
    ∷ returns 5  -- return
    ∷ [])

abbrev pub box_branch_nodes : LoweredMethod
box_branch_nodes = lowered 0 0 1 0 (
    reads_it 0 0 3  -- getstatic Box.it
    ∷ node 3 (Assign (primitive_in 0 ∷ [])) (6 ∷ 7 ∷ [])  -- ifnull 7
    ∷ returns 6  -- return
    ∷ returns 7  -- return
    ∷ [])

abbrev pub same_branch_nodes : LoweredMethod
same_branch_nodes = lowered 0 0 2 0 (
    reads_it 0 0 3  -- getstatic Box.it
    ∷ reads_it 3 1 6  -- getstatic Box.it
    ∷ node 6 (Assign (primitive_in 0 ∷ primitive_in 1 ∷ [])) (9 ∷ 10 ∷ [])  -- if_acmpeq 10
    ∷ returns 9  -- return
    ∷ returns 10  -- return
    ∷ [])

abbrev pub other_branch_nodes : LoweredMethod
other_branch_nodes = lowered 0 0 2 0 (
    reads_it 0 0 3  -- getstatic Box.it
    ∷ pushes_null 3 1 4  -- aconst_null
    ∷ node 4 (Assign (primitive_in 0 ∷ primitive_in 1 ∷ [])) (7 ∷ 8 ∷ [])  -- if_acmpeq 8
    ∷ returns 7  -- return
    ∷ returns 8  -- return
    ∷ [])

abbrev pub lookup_nodes : LoweredMethod
lookup_nodes = lowered 0 0 1 0 (
    pushes_number 0 0 1  -- iconst_0
    ∷ node 1 (Assign (primitive_in 0 ∷ [])) (20 ∷ 21 ∷ [])  -- lookupswitch
    ∷ returns 20  -- return
    ∷ returns 21  -- return
    ∷ [])

abbrev pub class_constant_nodes : LoweredMethod
class_constant_nodes = lowered 0 0 1 0 (
    node 0 (Constant (boot_site (codes "java/lang/Class")) 0) (2 ∷ [])  -- ldc Box
    ∷ pops 2 0 3  -- pop
    ∷ returns 3  -- return
    ∷ [])

abbrev pub monitor_nodes : LoweredMethod
monitor_nodes = lowered 0 0 1 0 (
    reads_it 0 0 3  -- getstatic Box.it
    ∷ node 3 (Probe 0) (4 ∷ [])  -- monitorenter
    ∷ reads_it 4 0 7  -- getstatic Box.it
    ∷ node 7 (Probe 0) (8 ∷ [])  -- monitorexit
    ∷ returns 8  -- return
    ∷ [])

abbrev pub first_number_nodes : LoweredMethod
first_number_nodes = lowered 0 0 2 0 (
    pushes_number 0 0 1  -- iconst_1
    ∷ node 1 (NewArray (site_in 0 1 (codes "[I") ∷ []) 0) (3 ∷ [])  -- newarray int
    ∷ pushes_number 3 1 4  -- iconst_0
    ∷ node 4 (Probe 0) (5 ∷ [])  -- iaload
    ∷ pops 5 0 6  -- pop
    ∷ returns 6  -- return
    ∷ [])

-- ---- comparisons, a cast of an array, and units that are put in another order

abbrev pub makes_box : (offset slot next : ℕ) → Node
makes_box offset slot next = with_trigger 3 (node offset (New (site_in 0 offset (codes "lib/Box")) slot) (next ∷ []))

-- The two upper units of a stack of two are compared.
abbrev pub compares : (offset next target : ℕ) → Node
compares offset next target = node offset (Assign (primitive_in 0 ∷ primitive_in 1 ∷ [])) (next ∷ target ∷ [])

abbrev pub null_jump_nodes : LoweredMethod
null_jump_nodes = lowered 0 0 1 0 (
    pushes_null 0 0 1  -- aconst_null
    ∷ node 1 (Assign (primitive_in 0 ∷ [])) (4 ∷ 5 ∷ [])  -- ifnonnull 5
    ∷ returns 4  -- return
    ∷ returns 5  -- return
    ∷ [])

abbrev pub box_jump_nodes : LoweredMethod
box_jump_nodes = lowered 0 0 1 0 (
    reads_it 0 0 3  -- getstatic Box.it
    ∷ node 3 (Assign (primitive_in 0 ∷ [])) (6 ∷ 7 ∷ [])  -- ifnonnull 7
    ∷ returns 6  -- return
    ∷ returns 7  -- return
    ∷ [])

abbrev pub same_jump_nodes : LoweredMethod
same_jump_nodes = lowered 0 0 2 0 (
    makes_box 0 0 3  -- new Box
    ∷ node 3 (Assign (copy_of 0 1 ∷ [])) (4 ∷ [])  -- dup
    ∷ compares 4 7 8  -- if_acmpne 8
    ∷ returns 7  -- return
    ∷ returns 8  -- return
    ∷ [])

abbrev pub other_jump_nodes : LoweredMethod
other_jump_nodes = lowered 0 0 2 0 (
    reads_it 0 0 3  -- getstatic Box.it
    ∷ pushes_null 3 1 4  -- aconst_null
    ∷ compares 4 7 8  -- if_acmpne 8
    ∷ returns 7  -- return
    ∷ returns 8  -- return
    ∷ [])

abbrev pub two_branch_nodes : LoweredMethod
two_branch_nodes = lowered 0 0 2 0 (
    makes_box 0 0 3  -- new Box
    ∷ makes_box 3 1 6  -- new Box
    ∷ compares 6 9 10  -- if_acmpeq 10
    ∷ returns 9  -- return
    ∷ returns 10  -- return
    ∷ [])

abbrev pub string_branch_nodes : LoweredMethod
string_branch_nodes = lowered 0 0 2 0 (
    node 0 (Constant (boot_site string_name) 0) (2 ∷ [])  -- ldc "main"
    ∷ node 2 (Constant (boot_site string_name) 1) (4 ∷ [])  -- ldc "main"
    ∷ compares 4 7 8  -- if_acmpeq 8
    ∷ returns 7  -- return
    ∷ returns 8  -- return
    ∷ [])

abbrev pub array_cast_nodes : LoweredMethod
array_cast_nodes = lowered 0 0 1 0 (
    pushes_number 0 0 1  -- iconst_1
    ∷ node 1 (NewArray (site_in 0 1 (codes "[Llib/Box;") ∷ []) 0) (4 ∷ [])  -- anewarray Box
    ∷ node 4 (Cast (array_of object_name) 0) (7 ∷ [])  -- checkcast Object[]
    ∷ pops 7 0 8  -- pop
    ∷ returns 8  -- return
    ∷ [])

-- The moves of each instruction that puts units in another order, in the program `shuffles`.
abbrev pub below_one : List Move
below_one = copy_of 1 0 ∷ copy_of 0 1 ∷ copy_of 1 2 ∷ []

abbrev pub below_two : List Move
below_two = copy_of 2 0 ∷ copy_of 0 1 ∷ copy_of 1 2 ∷ copy_of 2 3 ∷ []

abbrev pub both : List Move
both = copy_of 2 4 ∷ copy_of 3 5 ∷ []

abbrev pub both_below_one : List Move
both_below_one = copy_of 4 3 ∷ copy_of 5 4 ∷ copy_of 3 5 ∷ copy_of 4 6 ∷ copy_of 5 7 ∷ []

abbrev pub both_below_two : List Move
both_below_two = copy_of 6 4 ∷ copy_of 7 5 ∷ copy_of 4 6 ∷ copy_of 5 7 ∷ copy_of 6 8 ∷ copy_of 7 9 ∷ []

abbrev pub swapped : List Move
swapped = copy_of 9 8 ∷ copy_of 8 9 ∷ []

abbrev pub shuffles_nodes : LoweredMethod
shuffles_nodes = lowered 0 0 10 0 (
    pushes_null 0 0 1  -- aconst_null
    ∷ pushes_number 1 1 2  -- iconst_0
    ∷ node 2 (Assign below_one) (3 ∷ [])  -- dup_x1
    ∷ node 3 (Assign below_two) (4 ∷ [])  -- dup_x2
    ∷ node 4 (Assign both) (5 ∷ [])  -- dup2
    ∷ node 5 (Assign both_below_one) (6 ∷ [])  -- dup2_x1
    ∷ node 6 (Assign both_below_two) (7 ∷ [])  -- dup2_x2
    ∷ node 7 (Assign swapped) (8 ∷ [])  -- swap
    ∷ returns 8  -- return
    ∷ [])
