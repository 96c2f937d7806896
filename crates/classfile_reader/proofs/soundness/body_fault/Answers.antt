use Rattle.std.proofs.Common.{◌≡◌, ℕ, List, [], ◌++◌, length, Option, None, Some, ap, subst, arith}
use Rattle.std.specs.List.{flat_map}
use Rattle.jvm_model.specs.declared.class_file.Attribute.{Attribute}
use Rattle.jvm_model.specs.declared.class_file.ClassFile.{ClassFile}
use Rattle.jvm_model.specs.declared.class_file.Member.{Member}
use Rattle.jvm_model.specs.declared.pool.PoolEntry.{PoolEntry}
use Rattle.jvm_model.specs.declared.reason.Reason.{Reason}
use Rattle.jvm_model.specs.Soundness.{PlacedUse, each_place, field_places, method_places, attribute_places, fields_offset, methods_offset, attributes_offset}
use Rattle.jvm_model.specs.Spelling as spelling
use Rattle.jvm_model.proofs.Lengths.{spell_length}
use Rattle.classfile_reader.specs.FirstPlace.{IsFirstBreach}
use Rattle.classfile_reader.proofs.FirstPlaces.{goes_on, stops, moved_items}
use Rattle.classfile_reader.proofs.soundness.body_fault.Goals as goal

-- the places of the fields, of the methods and of the attributes
abbrev each_member : (ℕ → List Member → Member → List PlacedUse) → ℕ → List Member → List PlacedUse
each_member places offset members = each_place places (λ m. length (spelling.member m)) offset [] members

abbrev of_fields : ClassFile → List PlacedUse
of_fields class = each_member field_places (fields_offset class) class.fields

abbrev of_methods : ClassFile → List PlacedUse
of_methods class = each_member method_places (methods_offset class) class.methods

abbrev of_attributes : ClassFile → List PlacedUse
of_attributes class = each_place attribute_places (λ a. length (spelling.attribute a)) (attributes_offset class) [] class.attributes

-- what was told of members, where the pool, the offset and the members were read
told_of : (places : ℕ → List Member → Member → List PlacedUse) (pool other : List PoolEntry) (start there : ℕ) (members others : List Member) (read answer : Option (ℕ × Reason))
    → pool ≡ other → start ≡ there → members ≡ others → read ≡ answer → IsFirstBreach pool (each_member places start members) read → IsFirstBreach other (each_member places there others) answer
told_of places pool other start there members others read answer same_pool same_start same_members is first =
    moved_items places (λ m. length (spelling.member m)) pool other start there members others answer same_pool same_start same_members (subst (IsFirstBreach pool (each_member places start members)) is first)

pub members_fault-requires-clause-size : goal.members_fault-requires-clause-size
members_fault-requires-clause-size c =
    omega (arith, c.requires.size, spell_length c.args.class.now, c.fields_offset-start.ensures, ap (λ (ms : List Member). length (flat_map spelling.member ms)) c.as_slice-fields.ensures)

pub returns-in-Some : goal.returns-in-Some
returns-in-Some c =
    let class = c.args.class.now in
    let first = told_of field_places _ _ _ _ _ _ _ (Some c.in-Some.fault) c.as_slice-pool.ensures c.fields_offset-start.ensures c.as_slice-fields.ensures c.in-Some.is c.in_ok-fault.ensures.exact in
    stops class.pool (of_fields class) (of_methods class ++ of_attributes class) c.in-Some.fault first

pub members_fault-requires-2-clause-size : goal.members_fault-requires-2-clause-size
members_fault-requires-2-clause-size c =
    omega (arith, c.requires.size, spell_length c.args.class.now, c.methods_offset-start.ensures, ap (λ (ms : List Member). length (flat_map spelling.member ms)) c.as_slice-methods.ensures)

pub returns-in-Some-2 : goal.returns-in-Some-2
returns-in-Some-2 c =
    let class = c.args.class.now in
    let none = told_of field_places _ _ _ _ _ _ _ None c.as_slice-pool.ensures c.fields_offset-start.ensures c.as_slice-fields.ensures c.in_default.is c.in_ok-fault.ensures.exact in
    let first = told_of method_places _ _ _ _ _ _ _ (Some c.in-Some-2.fault) c.as_slice-pool.ensures c.methods_offset-start.ensures c.as_slice-methods.ensures c.in-Some-2.is c.in_ok-fault-2.ensures.exact in
    goes_on class.pool (of_fields class) (of_methods class ++ of_attributes class) (Some c.in-Some-2.fault) none (stops class.pool (of_methods class) (of_attributes class) c.in-Some-2.fault first)

pub attributes_fault-requires : goal.attributes_fault-requires
attributes_fault-requires c =
    omega (arith, c.requires.size, spell_length c.args.class.now, c.attributes_offset.ensures, ap (λ (xs : List Attribute). length (flat_map spelling.attribute xs)) c.as_slice-attributes.ensures)

pub returns : goal.returns
returns c =
    let class = c.args.class.now in
    let answer = c.attributes_fault.result in
    let none = told_of field_places _ _ _ _ _ _ _ None c.as_slice-pool.ensures c.fields_offset-start.ensures c.as_slice-fields.ensures c.in_default.is c.in_ok-fault.ensures.exact in
    let none_either = told_of method_places _ _ _ _ _ _ _ None c.as_slice-pool.ensures c.methods_offset-start.ensures c.as_slice-methods.ensures c.in_default-2.is c.in_ok-fault-2.ensures.exact in
    let last = moved_items attribute_places (λ a. length (spelling.attribute a)) _ _ _ _ _ _ answer c.as_slice-pool.ensures c.attributes_offset.ensures c.as_slice-attributes.ensures c.attributes_fault.ensures in
    goes_on class.pool (of_fields class) (of_methods class ++ of_attributes class) answer none (goes_on class.pool (of_methods class) (of_attributes class) answer none_either last)
