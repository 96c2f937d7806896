use Rattle.std.proofs.Common.{◌+◌, List, [], length, ap, subst, arith}
use Rattle.std.specs.List.{flat_map}
use Rattle.jvm_model.specs.declared.class_file.Attribute.{Attribute}
use Rattle.jvm_model.specs.declared.grammar.Grammar.TheVariants.{FieldName, FieldDescriptor}
use Rattle.jvm_model.specs.Soundness.{name_places, each_place, attribute_places}
use Rattle.jvm_model.specs.Spelling as spelling
use Rattle.classfile_reader.specs.FirstPlace.{IsFirstBreach}
use Rattle.classfile_reader.proofs.FirstPlaces.{goes_on, stops}
use Rattle.classfile_reader.proofs.soundness.member.field_fault.Goals as goal

pub returns-in-Some-clause-exact : goal.returns-in-Some-clause-exact
returns-in-Some-clause-exact c = λ earlier repeat.
    let pool = c.args.pool.now in
    let m = c.args.field.now in
    let names = name_places FieldName FieldDescriptor (c.args.offset + 2) earlier m in
    let after = each_place attribute_places (λ a. length (spelling.attribute a)) (c.args.offset + 8) [] m.attributes in
    stops pool names after c.in-Some.fault (subst (IsFirstBreach pool names) c.in-Some.is (c.in_ok-fault.ensures.exact earlier repeat))

pub attributes_fault-requires : goal.attributes_fault-requires
attributes_fault-requires c =
    omega (arith, c.requires.size, ap (λ (xs : List Attribute). length (flat_map spelling.attribute xs)) c.as_slice.ensures)

pub returns-clause-exact : goal.returns-clause-exact
returns-clause-exact c = λ earlier repeat.
    let pool = c.args.pool.now in
    let m = c.args.field.now in
    let names = name_places FieldName FieldDescriptor (c.args.offset + 2) earlier m in
    let after = each_place attribute_places (λ a. length (spelling.attribute a)) (c.args.offset + 8) [] m.attributes in
    let last = subst (λ (xs : List Attribute). IsFirstBreach pool (each_place attribute_places (λ a. length (spelling.attribute a)) (c.args.offset + 8) [] xs) c.attributes_fault.result) c.as_slice.ensures c.attributes_fault.ensures in
    goes_on pool names after c.attributes_fault.result (subst (IsFirstBreach pool names) c.in_default.is (c.in_ok-fault.ensures.exact earlier repeat)) last
