use Rattle.std.proofs.Common.{◌≡◌, ◌+◌, List, ℕ, [], ◌∷◌, ◌++◌, length, Option, None, Some, ap, subst, arith}
use Rattle.jvm_model.specs.declared.class_file.ClassFile.{ClassFile}
use Rattle.jvm_model.specs.declared.pool.PoolEntry.{PoolEntry}
use Rattle.jvm_model.specs.declared.reason.Reason.{Reason}
use Rattle.jvm_model.specs.Soundness.{PlacedUse, Use, at_offset, class_uses, superclass, no_array, each_place, flags_offset, interfaces_offset}
use Rattle.jvm_model.proofs.Lengths.{spell_length}
use Rattle.classfile_reader.specs.FirstPlace.{IsFirstBreach}
use Rattle.classfile_reader.proofs.FirstPlaces.{goes_on, stops, moved_uses, moved_items}
use Rattle.classfile_reader.proofs.soundness.header.header_fault.Goals as goal

-- the uses of the superclass, and the places of the class, of its superclass and of its interfaces
abbrev super_uses : ClassFile → List Use
super_uses class = superclass class.this_class class.super_class ∷ no_array class.super_class ∷ []

abbrev of_class : ClassFile → List PlacedUse
of_class class = at_offset (flags_offset class + 2) (class_uses class.this_class)

abbrev of_super : ClassFile → List PlacedUse
of_super class = at_offset (flags_offset class + 4) (super_uses class)

abbrev of_interfaces : ClassFile → List PlacedUse
of_interfaces class = each_place {X = ℕ} (λ offset earlier index. at_offset offset (class_uses index)) (λ index. 2) (interfaces_offset class) [] class.interfaces

-- what was told, where the pool and the offset of the flags were read
module _ (class : ClassFile) (pool : List PoolEntry) (flags : ℕ) (same_pool : pool ≡ class.pool) (same_flags : flags ≡ flags_offset class) where
  told_at : (n : ℕ) (uses : List Use) (read answer : Option (ℕ × Reason)) → read ≡ answer → IsFirstBreach pool (at_offset (flags + n) uses) read → IsFirstBreach class.pool (at_offset (flags_offset class + n) uses) answer
  told_at n uses read answer is first =
      subst (IsFirstBreach class.pool (at_offset (flags_offset class + n) uses)) is (moved_uses pool class.pool (flags + n) (flags_offset class + n) uses read same_pool (ap (λ k. k + n) same_flags) first)

pub returns-in-Some : goal.returns-in-Some
returns-in-Some c =
    let class = c.args.class.now in
    let uses = class_uses class.this_class in
    let first = told_at class c.as_slice-pool.result.now c.flags_offset-flags.result c.as_slice-pool.ensures c.flags_offset-flags.ensures 2 uses _ (Some c.in-Some.fault) c.in-Some.is (c.at_offset.ensures c.as_slice-pool.result.now uses c.class_reason-reason.ensures) in
    stops class.pool (of_class class) (of_super class ++ of_interfaces class) c.in-Some.fault first

pub returns-in-Some-at_offset : goal.returns-in-Some-at_offset
returns-in-Some-at_offset c =
    let class = c.args.class.now in
    let pool = c.as_slice-pool.result.now in
    let told = told_at class pool c.flags_offset-flags.result c.as_slice-pool.ensures c.flags_offset-flags.ensures in
    let none = told 2 (class_uses class.this_class) _ None c.in_default.is (c.at_offset.ensures pool (class_uses class.this_class) c.class_reason-reason.ensures) in
    let first = told 4 (super_uses class) _ (Some c.in-Some-at_offset.fault) c.in-Some-at_offset.is (c.at_offset-2.ensures pool (super_uses class) c.superclass_reason-reason.ensures) in
    goes_on class.pool (of_class class) (of_super class ++ of_interfaces class) (Some c.in-Some-at_offset.fault) none (stops class.pool (of_super class) (of_interfaces class) c.in-Some-at_offset.fault first)

pub interfaces_fault-requires : goal.interfaces_fault-requires
interfaces_fault-requires c = omega (arith, c.requires, spell_length c.args.class.now, c.interfaces_offset.ensures, ap length c.as_slice-interfaces.ensures)

pub returns : goal.returns
returns c =
    let class = c.args.class.now in
    let pool = c.as_slice-pool.result.now in
    let told = told_at class pool c.flags_offset-flags.result c.as_slice-pool.ensures c.flags_offset-flags.ensures in
    let none = told 2 (class_uses class.this_class) _ None c.in_default.is (c.at_offset.ensures pool (class_uses class.this_class) c.class_reason-reason.ensures) in
    let none_either = told 4 (super_uses class) _ None c.in_default-at_offset.is (c.at_offset-2.ensures pool (super_uses class) c.superclass_reason-reason.ensures) in
    let last = moved_items {X = ℕ} (λ offset earlier index. at_offset offset (class_uses index)) (λ index. 2) pool class.pool c.interfaces_offset.result (interfaces_offset class) c.as_slice-interfaces.result.now class.interfaces c.interfaces_fault.result
    c.as_slice-pool.ensures c.interfaces_offset.ensures c.as_slice-interfaces.ensures c.interfaces_fault.ensures in
    goes_on class.pool (of_class class) (of_super class ++ of_interfaces class) c.interfaces_fault.result none (goes_on class.pool (of_super class) (of_interfaces class) c.interfaces_fault.result none_either last)
