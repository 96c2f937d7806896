use Rattle.std.proofs.Common.{List, ◌+◌, ◌++◌, drop, refl, ap}
use Rattle.std.proofs.lemmas.Result.{err_from_is_err_and}
use Rattle.program_index.specs.MemberKeys.{Key}
use Rattle.program_model.specs.MemberLists.{AreTooManyKeys}
use Rattle.program_linking.specs.Patching.{native_key, native_keys}
use Rattle.program_linking.proofs.Building.{build_on, build_done, natives_split}
use Rattle.program_linking.proofs.LargeInputs.{error_more, keys_more}
use Rattle.program_linking.proofs.natives.native_index.Goals as goal

pub loop-method-init : goal.loop-method-init
loop-method-init c = ap (λ (ks : List Key). ks ++ native_keys c.args.pool.now c.args.methods.now) c.new-index.ensures

pub loop-method-preserved : goal.loop-method-preserved
loop-method-preserved c =
    let pool = c.args.pool.now in
    build_on (native_keys pool) _ (native_key pool) (natives_split pool) c.args.methods.now c.loop-method.method-index c.method-item.result c.loop-method-test.true c.method-item.is
    c.loop-method.index _ c.in_ok-add_native.ensures.added c.loop-method.invariant

pub returns-clause-index : goal.returns-clause-index
returns-clause-index c =
    build_done (native_keys c.args.pool.now) _ refl c.args.methods.now c.loop-method.method-index c.loop-method-test.false c.loop-method.index c.loop-method.invariant

pub returns-in_err-add_native-clause-too_many : goal.returns-in_err-add_native-clause-too_many
returns-in_err-add_native-clause-too_many c =
    let q = err_from_is_err_and c.from_residual.result c.from_residual.ensures.1 in
    let pool = c.args.pool.now in
    let methods = c.args.methods.now in
    let i = c.loop-method.method-index in
    let keys = c.loop-method.index in
    let longer = keys ++ native_key pool c.method-item.result in
    let whole = native_keys pool methods in
    let is = build_on (native_keys pool) whole (native_key pool) (natives_split pool) methods i c.method-item.result c.loop-method-test.true c.method-item.is keys longer refl c.loop-method.invariant in
    rw (q.1, q.2)
    (error_more (AreTooManyKeys longer) (AreTooManyKeys whole) c.in_err-add_native.field-0.0 (keys_more longer (native_keys pool (drop (i + 1) methods)) whole is) c.in_err-add_native.ensures.too_many)
