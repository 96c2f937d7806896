use Rattle.std.proofs.Common.{◌≡◌, ◌⊎◌, List, ◌++◌, map, ◌∙◌, ap, inl, inr}
use Rattle.std.proofs.lemmas.Result.{err_from_is_err_and}
use Rattle.jvm_model.specs.declared.program.Origin.{Origin}
use Rattle.jvm_model.specs.Linking.{folder_origin, stub_origin}
use Rattle.program_linking.specs.TooLarge.{HasLargeFile, HasLargeStub}
use Rattle.program_linking.proofs.LargeInputs.{error_more}
use Rattle.program_linking.proofs.origins.origins_found.Goals as goal

pub returns-clause-all : goal.returns-clause-all
returns-clause-all c =
    let stubs = c.args.patches.now in
    let files = c.args.files.items in
    let first : c.add_files.new.all.items ≡ map (folder_origin stubs) files =
    c.in_ok-add_files.ensures.added ∙ ap (λ (os : List Origin). os ++ map (folder_origin stubs) files) c.new-all.ensures.items in
    c.in_ok-add_stubs.ensures.added ∙ ap (λ (os : List Origin). os ++ map (stub_origin stubs) c.args.own.items) first

pub returns-in_err-add_files-clause-too_many : goal.returns-in_err-add_files-clause-too_many
returns-in_err-add_files-clause-too_many c =
    let q = err_from_is_err_and c.from_residual.result c.from_residual.ensures.1 in
    let file = HasLargeFile c.args.patches.now c.args.files.items in
    let stub = HasLargeStub c.args.patches.now c.args.own.items in
    rw (q.1, q.2) (error_more file (file ⊎ stub) c.in_err-add_files.field-0.0 (λ large. inl large) c.in_err-add_files.ensures.too_many)

pub returns-in_err-add_stubs-clause-too_many : goal.returns-in_err-add_stubs-clause-too_many
returns-in_err-add_stubs-clause-too_many c =
    let q = err_from_is_err_and c.from_residual-in_err-add_stubs.result c.from_residual-in_err-add_stubs.ensures.1 in
    let file = HasLargeFile c.args.patches.now c.args.files.items in
    let stub = HasLargeStub c.args.patches.now c.args.own.items in
    rw (q.1, q.2) (error_more stub (file ⊎ stub) c.in_err-add_stubs.field-0.0 (λ large. inr large) c.in_err-add_stubs.ensures.too_many)
