use Rattle.std.proofs.Common.{List, refl}
use Rattle.std.specs.List.{flat_map}
use Rattle.std.proofs.lemmas.Result.{err_from_is_err_and}
use Rattle.jvm_model.specs.Linking.{native_claims}
use Rattle.jvm_model.specs.declared.program.NamedClass.{NamedClass}
use Rattle.program_linking.specs.TooLarge.{AreTooManyNatives, HasLargeFile}
use Rattle.program_linking.proofs.ClaimSteps.{end_more, left_all, next_item, stop_item_or, last_item}
use Rattle.program_linking.proofs.LargeInputs.{large_file}
use Rattle.program_linking.proofs.mentions.check_natives.Goals as goal

pub returns-in_err-check_file_natives : goal.returns-in_err-check_file_natives
returns-in_err-check_file_natives c =
    let p = err_from_is_err_and c.from_residual.result c.from_residual.ensures.1 in
    let known = c.args.known.now in
    let end = c.in_err-check_file_natives.field-0.0 in
    let claims = λ (xs : List NamedClass). flat_map (native_claims c.args.patches.now) xs in
    let one = λ (x : NamedClass). native_claims c.args.patches.now x in
    let files = c.args.files.now in
    let f = c.f-item.result in
    let here = AreTooManyNatives c.args.patches.now f.class in
    let large = HasLargeFile c.args.patches.now files in
    let told = end_more here large known (one f) end (large_file c.args.patches.now files c.loop-f.f-index f c.loop-f-test.true c.f-item.is) c.in_err-check_file_natives.ensures in
    rw (p.1, p.2) (stop_item_or known claims one (λ x xs. refl) files c.loop-f.f-index f c.loop-f-test.true c.f-item.is c.loop-f.invariant large end told)

pub loop-f-preserved : goal.loop-f-preserved
loop-f-preserved c =
    let claims = λ (xs : List NamedClass). flat_map (native_claims c.args.patches.now) xs in
    let one = λ (x : NamedClass). native_claims c.args.patches.now x in
    next_item c.args.known.now claims one (λ x xs. refl) c.args.files.now c.loop-f.f-index c.f-item.result c.loop-f-test.true c.f-item.is c.loop-f.invariant c.in_ok-check_file_natives.ensures

pub loop-f-init : goal.loop-f-init
loop-f-init c = left_all _ _

pub returns : goal.returns
returns c =
    let claims = λ (xs : List NamedClass). flat_map (native_claims c.args.patches.now) xs in
    let whole = last_item c.args.known.now claims refl c.args.files.now c.loop-f.f-index c.loop-f-test.false c.loop-f.invariant in
    whole
