use Rattle.std.proofs.Common.{◌++◌, map}
use Rattle.std.proofs.lemmas.Result.{err_from_is_err_and}
use Rattle.jvm_model.specs.Linking.{own_classes, stub_claims}
use Rattle.program_index.specs.Limits.{AreTooMany}
use Rattle.program_linking.specs.Claims.{stub_name}
use Rattle.program_linking.specs.StubSources.{own_from}
use Rattle.program_linking.specs.declared.class_names.StubSource.TheVariants.{Base, User}
use Rattle.program_linking.proofs.ClaimSteps.{end_more, tells_more}
use Rattle.program_linking.proofs.ClassNames.{base_stop, user_told}
use Rattle.program_linking.proofs.LargeInputs.{many_base, many_user}
use Rattle.program_linking.proofs.class_names.check_stub_names.Goals as goal

pub returns-in_err-check_names_from : goal.returns-in_err-check_names_from
returns-in_err-check_names_from c =
    let q = err_from_is_err_and c.from_residual.result c.from_residual.ensures.1 in
    let stubs = c.args.stubs.now in
    let none = c.new-earlier.result in
    let empty = c.new-earlier.ensures in
    let end = c.in_err-check_names_from.field-0.0 in
    let own = AreTooMany (own_classes stubs) in
    let front = AreTooMany (none ++ map stub_name (own_from Base stubs)) in
    λ p. rw (q.1, q.2)
    (base_stop p stubs none empty own end (end_more front own p (stub_claims none (own_from Base stubs)) end (many_base stubs none empty) (c.in_err-check_names_from.ensures.told p)))

pub returns : goal.returns
returns c = λ p.
    let stubs = c.args.stubs.now in
    let none = c.new-earlier.result in
    let empty = c.new-earlier.ensures in
    let earlier = c.check_names_from.new.earlier in
    let added = c.in_ok-check_names_from.ensures.added in
    let own = AreTooMany (own_classes stubs) in
    let all = AreTooMany (earlier ++ map stub_name (own_from User stubs)) in
    let told = tells_more all own p (stub_claims earlier (own_from User stubs)) c.check_names_from-2.result (many_user stubs none empty earlier added) (c.check_names_from-2.ensures.told p) in
    user_told p stubs none empty own earlier c.check_names_from-2.result added (c.in_ok-check_names_from.ensures.told p) told
