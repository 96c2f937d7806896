-- Public contracts rest on this module.
-- What an instruction uses of the local variables of its method and of the constant pool (JVMS 4.9.1, 6.5).
use Rattle.std.specs.Prelude.{ℕ, suc, ◌+◌, Bool, true, false, ◌&&◌, ◌||◌, not, ◌==◌, nat_le, nat_eq, List, [], ◌∷◌, length, Option, Some, None, if◌then◌else◌}
use Rattle.std.specs.Option.{option_map_or}
use Rattle.jvm_model.specs.declared.pool.EntryKind.{EntryKind}
use Rattle.jvm_model.specs.declared.pool.EntryKind.TheVariants as kinds
use Rattle.jvm_model.specs.declared.pool.PoolEntry.{PoolEntry}
use Rattle.jvm_model.specs.Instructions.{DecodedInstruction}
use Rattle.jvm_model.specs.Lookups.{class_name_at}
use Rattle.jvm_model.specs.Soundness.{is_array, leads_to}
use Rattle.jvm_model.specs.Table.{Row, Operands, implied, local_1, local_and_value, pool_1, pool_2, pool_2_and_count, pool_2_and_zeros, pool_2_and_dimensions, PoolTarget, loadable, wide_number, a_field, class_method, any_method, interface_method, call_site, any_class, no_array, an_array, Flow, onward, jump, branch, branch_if_null, branch_if_object, branch_if_same, branch_if_other, leave, subroutine}

-- ---- local variables

-- The row's instructions name a local variable.
abbrev pub names_local : Operands → Bool
names_local (implied local) = true
names_local local_1 = true
names_local local_and_value = true
names_local _ = false

-- How many local variables an instruction uses from the one on that it names: as many units as it pushes or stores, two
-- for a long or a double (JVMS 2.6.1); ret does neither, and uses one.
abbrev pub local_units : Row → ℕ
local_units r = if nat_eq (length r.pushes + length r.stores) 0 then 1 else length r.pushes + length r.stores

-- They are below the limit.
abbrev pub locals_fit : ℕ → DecodedInstruction → Bool
locals_fit limit i = not (names_local i.row.operands) || nat_le (i.operand + local_units i.row) limit

-- jsr, jsr_w and ret.
abbrev pub is_subroutine : Flow → Bool
is_subroutine onward = false
is_subroutine jump = false
is_subroutine branch = false
is_subroutine branch_if_null = false
is_subroutine branch_if_object = false
is_subroutine branch_if_same = false
is_subroutine branch_if_other = false
is_subroutine leave = false
is_subroutine subroutine = true

-- ---- the constant pool

-- What the index of an instruction has to lead to, if it has one.
abbrev pub pool_target : Operands → Option PoolTarget
pool_target (pool_1 target) = Some target
pool_target (pool_2 target) = Some target
pool_target pool_2_and_count = Some interface_method
pool_target pool_2_and_zeros = Some call_site
pool_target pool_2_and_dimensions = Some an_array
pool_target _ = None

-- The kinds of entries that it may lead to.
abbrev pub target_kinds : PoolTarget → List EntryKind
target_kinds loadable = kinds.Integer ∷ kinds.Float ∷ kinds.Str ∷ kinds.Class ∷ kinds.MethodHandle ∷ kinds.MethodType ∷ []
target_kinds wide_number = kinds.Long ∷ kinds.Double ∷ []
target_kinds a_field = kinds.Field ∷ []
target_kinds class_method = kinds.Method ∷ []
target_kinds any_method = kinds.Method ∷ kinds.InterfaceMethod ∷ []
target_kinds interface_method = kinds.InterfaceMethod ∷ []
target_kinds call_site = kinds.InvokeDynamic ∷ []
target_kinds any_class = kinds.Class ∷ []
target_kinds no_array = kinds.Class ∷ []
target_kinds an_array = kinds.Class ∷ []

-- The name of a class at an index, if there is one, is that of an array, or not, as it should.
abbrev pub has_shape : Option (List ℕ) → PoolTarget → Bool
has_shape None target = true
has_shape (Some name) no_array = not (is_array name)
has_shape (Some name) an_array = is_array name
has_shape (Some name) _ = true

abbrev pub leads_there : List PoolEntry → ℕ → PoolTarget → Bool
leads_there pool index target = leads_to pool (target_kinds target) index && has_shape (class_name_at pool index) target

-- The index of the instruction, if it has one, leads to what it should.
abbrev pub leads_right : List PoolEntry → DecodedInstruction → Bool
leads_right pool i = option_map_or (leads_there pool i.operand) (pool_target i.row.operands) true

-- How many [ the text begins with: the dimensions of an array, by its descriptor (JVMS 4.3.2).
abbrev pub brackets : List ℕ → ℕ
brackets [] = 0
brackets (b ∷ rest) = if b == 91 then suc (brackets rest) else 0

-- Where the instruction names an array, it has no more dimensions than this one (JVMS 6.5.multianewarray); what is no
-- array is no matter of this.
abbrev pub within_dimensions : List PoolEntry → DecodedInstruction → Bool
within_dimensions pool i = option_map_or (λ name. not (is_array name) || nat_le i.dimensions (brackets name)) (class_name_at pool i.operand) true
