use Rattle.std.proofs.Common.{map, ◌++◌}
use Rattle.std.specs.List.{flat_map}
use Rattle.std.proofs.lemmas.Result.{err_from_is_err_and}
use Rattle.std.proofs.lemmas.List.Elements.{All-append}
use Rattle.jvm_model.specs.Linking.{kind_claim, supers_of_file, supers_of_stub, own_classes}
use Rattle.program_linking.specs.Claims.{unsorted}
use Rattle.program_linking.proofs.ClaimSteps.{end_front, tells_back}
use Rattle.program_linking.proofs.KnownClasses.{IsFlatClaim, known_same, end_same, tells_same, map_flat}
use Rattle.program_linking.proofs.claims.check_kinds.Goals as goal

pub returns-in_err-check_supers_of_files : goal.returns-in_err-check_supers_of_files
returns-in_err-check_supers_of_files c =
    let p = err_from_is_err_and c.from_residual.result c.from_residual.ensures.1 in
    let known = c.args.known.now in
    let program = unsorted c.args.files.now c.args.stubs.now in
    let xs = map kind_claim (flat_map supers_of_file c.args.files.now) in
    let ys = map kind_claim (flat_map supers_of_stub (own_classes c.args.stubs.now)) in
    let end = c.in_err-check_supers_of_files.field-0.0 in
    let flat = All-append IsFlatClaim xs ys (map_flat kind_claim (λ s. tt) (flat_map supers_of_file c.args.files.now)) (map_flat kind_claim (λ s. tt) (flat_map supers_of_stub (own_classes c.args.stubs.now))) in
    rw (p.1, p.2) (end_same ⊥ known program (xs ++ ys) end (known_same known program c.requires.known) flat (end_front ⊥ known xs ys end c.in_err-check_supers_of_files.ensures))

pub returns : goal.returns
returns c =
    let known = c.args.known.now in
    let program = unsorted c.args.files.now c.args.stubs.now in
    let xs = map kind_claim (flat_map supers_of_file c.args.files.now) in
    let ys = map kind_claim (flat_map supers_of_stub (own_classes c.args.stubs.now)) in
    let flat = All-append IsFlatClaim xs ys (map_flat kind_claim (λ s. tt) (flat_map supers_of_file c.args.files.now)) (map_flat kind_claim (λ s. tt) (flat_map supers_of_stub (own_classes c.args.stubs.now))) in
    tells_same ⊥ known program (xs ++ ys) c.check_supers_of_stubs.result (known_same known program c.requires.known) flat
    (tells_back ⊥ known xs ys c.check_supers_of_stubs.result c.in_ok-check_supers_of_files.ensures c.check_supers_of_stubs.ensures)
