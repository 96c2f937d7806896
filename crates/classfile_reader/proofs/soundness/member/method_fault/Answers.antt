use Rattle.std.proofs.Common.{◌+◌, List, [], ◌∷◌, ◌++◌, length, Some, subst}
use Rattle.jvm_model.specs.declared.grammar.Grammar.TheVariants.{MethodName, MethodDescriptor}
use Rattle.jvm_model.specs.Soundness.{Use, at_offset, code_there, name_places, each_place, code_places}
use Rattle.jvm_model.specs.Spelling as spelling
use Rattle.classfile_reader.specs.FirstPlace.{IsFirstBreach}
use Rattle.classfile_reader.proofs.FirstPlaces.{goes_on, stops}
use Rattle.classfile_reader.proofs.soundness.member.method_fault.Goals as goal

pub returns-in-Some-clause-exact : goal.returns-in-Some-clause-exact
returns-in-Some-clause-exact c = λ earlier repeat.
    let pool = c.args.pool.now in
    let m = c.args.method.now in
    let uses : List Use = code_there m ∷ [] in
    let names = name_places MethodName MethodDescriptor (c.args.offset + 2) earlier m in
    let after = each_place (code_places m) (λ a. length (spelling.attribute a)) (c.args.offset + 8) [] m.attributes in
    stops pool (at_offset c.args.offset uses) (names ++ after) c.in-Some.fault (subst (IsFirstBreach pool (at_offset c.args.offset uses)) c.in-Some.is (c.at_offset.ensures pool uses c.code_reason.ensures))

pub returns-in-Some-2-clause-exact : goal.returns-in-Some-2-clause-exact
returns-in-Some-2-clause-exact c = λ earlier repeat.
    let pool = c.args.pool.now in
    let m = c.args.method.now in
    let uses : List Use = code_there m ∷ [] in
    let names = name_places MethodName MethodDescriptor (c.args.offset + 2) earlier m in
    let after = each_place (code_places m) (λ a. length (spelling.attribute a)) (c.args.offset + 8) [] m.attributes in
    let none = subst (IsFirstBreach pool (at_offset c.args.offset uses)) c.in_default.is (c.at_offset.ensures pool uses c.code_reason.ensures) in
    let first = subst (IsFirstBreach pool names) c.in-Some-2.is (c.in_ok-fault.ensures.exact earlier repeat) in
    goes_on pool (at_offset c.args.offset uses) (names ++ after) (Some c.in-Some-2.fault) none (stops pool names after c.in-Some-2.fault first)

pub returns-clause-exact : goal.returns-clause-exact
returns-clause-exact c = λ earlier repeat.
    let pool = c.args.pool.now in
    let m = c.args.method.now in
    let uses : List Use = code_there m ∷ [] in
    let names = name_places MethodName MethodDescriptor (c.args.offset + 2) earlier m in
    let after = each_place (code_places m) (λ a. length (spelling.attribute a)) (c.args.offset + 8) [] m.attributes in
    let none = subst (IsFirstBreach pool (at_offset c.args.offset uses)) c.in_default.is (c.at_offset.ensures pool uses c.code_reason.ensures) in
    let no_name = subst (IsFirstBreach pool names) c.in_default-2.is (c.in_ok-fault.ensures.exact earlier repeat) in
    goes_on pool (at_offset c.args.offset uses) (names ++ after) c.code_fault.result none (goes_on pool names after c.code_fault.result no_name c.code_fault.ensures)
