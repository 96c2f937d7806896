use Rattle.std.proofs.Common.{List, map, refl, sym, subst}
use Rattle.std.specs.List.{flat_map}
use Rattle.std.proofs.lemmas.Result.{err_from_is_err_and}
use Rattle.program_linking.specs.LinkAnswers.{IsSoundFile}
use Rattle.jvm_model.specs.declared.program.NamedClass.{NamedClass}
use Rattle.jvm_model.specs.Linking.{supers_of_file}
use Rattle.program_linking.specs.Claims.{super_claim}
use Rattle.program_linking.proofs.ClaimSteps.{left_all, next_item, stop_item, last_item, map_flat_split}
use Rattle.program_linking.proofs.supers.check_supers_of_files.Goals as goal

pub returns-in_err-check_file_supers : goal.returns-in_err-check_file_supers
returns-in_err-check_file_supers c =
    let p = err_from_is_err_and c.from_residual.result c.from_residual.ensures.1 in
    let claims = λ (xs : List NamedClass). map (super_claim c.args.rule) (flat_map supers_of_file xs) in
    let one = λ (x : NamedClass). map (super_claim c.args.rule) (supers_of_file x) in
    rw (p.1, p.2)
    (stop_item c.args.known.now claims one (λ x xs. map_flat_split (super_claim c.args.rule) supers_of_file x xs) c.args.files.now c.loop-f.f-index c.f-item.result c.loop-f-test.true c.f-item.is c.loop-f.invariant
    c.in_err-check_file_supers.field-0.0 c.in_err-check_file_supers.ensures)

pub loop-f-preserved : goal.loop-f-preserved
loop-f-preserved c =
    let claims = λ (xs : List NamedClass). map (super_claim c.args.rule) (flat_map supers_of_file xs) in
    let one = λ (x : NamedClass). map (super_claim c.args.rule) (supers_of_file x) in
    next_item c.args.known.now claims one (λ x xs. map_flat_split (super_claim c.args.rule) supers_of_file x xs) c.args.files.now c.loop-f.f-index c.f-item.result c.loop-f-test.true c.f-item.is c.loop-f.invariant c.in_ok-check_file_supers.ensures

pub loop-f-init : goal.loop-f-init
loop-f-init c = left_all _ _

pub returns : goal.returns
returns c =
    let claims = λ (xs : List NamedClass). map (super_claim c.args.rule) (flat_map supers_of_file xs) in
    last_item c.args.known.now claims refl c.args.files.now c.loop-f.f-index c.loop-f-test.false c.loop-f.invariant

pub check_file_supers-requires : goal.check_file_supers-requires
check_file_supers-requires c =
    subst IsSoundFile (sym c.f-item.is) (c.requires c.loop-f.f-index c.f-item.result c.loop-f-test.true)
