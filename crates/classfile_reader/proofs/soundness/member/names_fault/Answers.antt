use Rattle.std.proofs.Common.{◌+◌, List, [], ◌∷◌, ◌++◌, subst}
use Rattle.jvm_model.specs.Soundness.{Use, at_offset, text_uses, differs}
use Rattle.classfile_reader.specs.FirstPlace.{IsFirstBreach}
use Rattle.classfile_reader.proofs.FirstPlaces.{goes_on, stops}
use Rattle.classfile_reader.proofs.soundness.member.names_fault.Goals as goal

pub returns-in-Some-clause-exact : goal.returns-in-Some-clause-exact
returns-in-Some-clause-exact c = λ earlier repeat.
    let pool = c.args.pool.now in
    let m = c.args.member.now in
    let uses : List Use = text_uses c.args.grammars.0 m.name ++ differs earlier m ∷ [] in
    let first = subst (IsFirstBreach pool (at_offset c.args.offset uses)) c.in-Some.is (c.at_offset.ensures pool uses (c.in_ok-reason.ensures.exact earlier repeat)) in
    stops pool (at_offset c.args.offset uses) (at_offset (c.args.offset + 2) (text_uses c.args.grammars.1 m.descriptor)) c.in-Some.fault first

pub returns-clause-exact : goal.returns-clause-exact
returns-clause-exact c = λ earlier repeat.
    let pool = c.args.pool.now in
    let m = c.args.member.now in
    let uses : List Use = text_uses c.args.grammars.0 m.name ++ differs earlier m ∷ [] in
    let others = text_uses c.args.grammars.1 m.descriptor in
    let none = subst (IsFirstBreach pool (at_offset c.args.offset uses)) c.in_default.is (c.at_offset.ensures pool uses (c.in_ok-reason.ensures.exact earlier repeat)) in
    goes_on pool (at_offset c.args.offset uses) (at_offset (c.args.offset + 2) others) c.at_offset-2.result none (c.at_offset-2.ensures pool others c.in_ok-reason-2.ensures.exact)
