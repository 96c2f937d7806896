use Rattle.std.proofs.Common.{◌≡◌, ◌⊎◌, List, ◌++◌, map, filter, subst, inl, inr, IfOk}
use Rattle.std.specs.Global.{Vec}
use Rattle.std.proofs.lemmas.Result.{err_from_is_err_and}
use Rattle.jvm_model.specs.declared.program.Origin.{Origin}
use Rattle.jvm_model.specs.declared.stub.StubClass.{StubClass}
use Rattle.jvm_model.specs.Linking.{folder_origin, stub_origin}
use Rattle.program_index.specs.Limits.{AreTooMany}
use Rattle.program_linking.specs.Patching.{is_patch_stub}
use Rattle.program_linking.specs.TooLarge.{HasLargeFile, HasLargeStub}
use Rattle.program_linking.proofs.LargeInputs.{error_more, errors_more}
use Rattle.program_linking.proofs.origins.origins_patched.Goals as goal

pub returns-clause-all : goal.returns-clause-all
returns-clause-all c =
    let files = c.args.files.items in
    let own = c.args.own.items in
    subst (λ (ps : List StubClass). IfOk c.origins_found.result (λ (all : Vec Origin). all.items ≡ map (folder_origin ps) files ++ map (stub_origin ps) own))
    c.in_ok-patches.ensures.patches c.origins_found.ensures.all

pub returns-clause-too_many : goal.returns-clause-too_many
returns-clause-too_many c =
    let files = c.args.files.items in
    let own = c.args.own.items in
    let large = λ (ps : List StubClass). HasLargeFile ps files ⊎ HasLargeStub ps own in
    let here = c.in_ok-patches.patches in
    errors_more (large here) (AreTooMany (filter is_patch_stub c.args.patches.now) ⊎ large c.args.patches.now) c.origins_found.result
    (λ is. inr (subst large c.in_ok-patches.ensures.patches is)) c.origins_found.ensures.too_many

pub returns-in_err-patches-clause-too_many : goal.returns-in_err-patches-clause-too_many
returns-in_err-patches-clause-too_many c =
    let q = err_from_is_err_and c.from_residual.result c.from_residual.ensures.1 in
    let stubs = c.args.patches.now in
    let many = AreTooMany (filter is_patch_stub stubs) in
    rw (q.1, q.2)
    (error_more many (many ⊎ (HasLargeFile stubs c.args.files.items ⊎ HasLargeStub stubs c.args.own.items)) c.in_err-patches.field-0.0 (λ is. inl is) c.in_err-patches.ensures.too_many)
