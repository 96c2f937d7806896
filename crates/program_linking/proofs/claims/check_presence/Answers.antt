use Rattle.std.proofs.Common.{List, map, ◌++◌, subst}
use Rattle.std.specs.List.{flat_map}
use Rattle.std.proofs.lemmas.Result.{err_from_is_err_and}
use Rattle.jvm_model.specs.declared.stub.StubClass.{StubClass}
use Rattle.jvm_model.specs.Linking.{AreMet, there_claim, supers_of_file, own_classes, stub_there_claims, native_claims, there_claims}
use Rattle.program_linking.specs.Claims.{unsorted, TellsEndOrLarge, TellsClaimsOrLarge}
use Rattle.program_linking.specs.TooLarge.{HasLargeFile, HasLargeStub, IsTooLargeInput}
use Rattle.program_linking.proofs.ClaimSteps.{end_front, end_back, end_more, end_unnumbered, tells_back, tells_more, met_append}
use Rattle.program_linking.proofs.KnownClasses.{known_same, end_same, tells_same}
use Rattle.program_linking.proofs.FlatClaims.{there_flat}
use Rattle.program_linking.proofs.LargeInputs.{file_large, stub_large}
use Rattle.program_linking.proofs.claims.check_presence.Goals as goal

pub returns-in_err-check_supers_of_files : goal.returns-in_err-check_supers_of_files
returns-in_err-check_supers_of_files c =
    let p = err_from_is_err_and c.from_residual.result c.from_residual.ensures.1 in
    let known = c.args.known.now in
    let files = c.args.files.now in
    let stubs = c.args.stubs.now in
    let program = unsorted files stubs in
    let xs = map there_claim (flat_map supers_of_file files) in
    let ys = flat_map (stub_there_claims stubs) (own_classes stubs) in
    let zs = flat_map (native_claims stubs) files in
    let end = c.in_err-check_supers_of_files.field-0.0 in
    rw (p.1, p.2)
    (end_unnumbered (IsTooLargeInput files stubs) program (there_claims files stubs) end
    (end_same ⊥ known program (there_claims files stubs) end (known_same known program c.requires.known) (there_flat files stubs)
    (end_front ⊥ known (xs ++ ys) zs end (end_front ⊥ known xs ys end c.in_err-check_supers_of_files.ensures))))

pub returns-in_err-check_stubs : goal.returns-in_err-check_stubs
returns-in_err-check_stubs c =
    let p = err_from_is_err_and c.from_residual-in_err-check_stubs.result c.from_residual-in_err-check_stubs.ensures.1 in
    let known = c.args.known.now in
    let files = c.args.files.now in
    let stubs = c.args.stubs.now in
    let program = unsorted files stubs in
    let xs = map there_claim (flat_map supers_of_file files) in
    let ys = flat_map (stub_there_claims stubs) (own_classes stubs) in
    let zs = flat_map (native_claims stubs) files in
    let end = c.in_err-check_stubs.field-0.0 in
    let here = HasLargeStub stubs (own_classes stubs) in
    let large = IsTooLargeInput files stubs in
    let told = subst (λ (ss : List StubClass). TellsEndOrLarge (HasLargeStub ss (own_classes stubs)) known (flat_map (stub_there_claims ss) (own_classes stubs)) end) c.requires.patches c.in_err-check_stubs.ensures in
    let told' = end_more here large known ys end (stub_large files stubs) told in
    rw (p.1, p.2)
    (end_same large known program (there_claims files stubs) end (known_same known program c.requires.known) (there_flat files stubs)
    (end_front large known (xs ++ ys) zs end (end_back large known xs ys end c.in_ok-check_supers_of_files.ensures told')))

pub returns : goal.returns
returns c =
    let known = c.args.known.now in
    let files = c.args.files.now in
    let stubs = c.args.stubs.now in
    let program = unsorted files stubs in
    let xs = map there_claim (flat_map supers_of_file files) in
    let ys = flat_map (stub_there_claims stubs) (own_classes stubs) in
    let zs = flat_map (native_claims stubs) files in
    let r = c.check_natives.result in
    let stubs_met = subst (λ (ss : List StubClass). AreMet known (flat_map (stub_there_claims ss) (own_classes stubs))) c.requires.patches c.in_ok-check_stubs.ensures in
    let here = HasLargeFile stubs files in
    let large = IsTooLargeInput files stubs in
    let told = subst (λ (ss : List StubClass). TellsClaimsOrLarge (HasLargeFile ss files) known (flat_map (native_claims ss) files) r) c.requires.patches c.check_natives.ensures in
    let natives = tells_more here large known zs r (file_large files stubs c.requires.files) told in
    tells_same large known program (there_claims files stubs) r (known_same known program c.requires.known) (there_flat files stubs)
    (tells_back large known (xs ++ ys) zs r (met_append known xs ys c.in_ok-check_supers_of_files.ensures stubs_met) natives)
