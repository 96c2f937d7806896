use Rattle.std.proofs.Common.{ℕ, ◌+◌, List, drop, sym, ◌∙◌, ap}
use Rattle.std.proofs.lemmas.List.{drop_all}
use Rattle.std.proofs.lemmas.Result.{err_from_is_err_and}
use Rattle.jvm_model.specs.Linking.{own_classes}
use Rattle.program_index.specs.Limits.{AreTooMany}
use Rattle.program_linking.specs.Claims.{with_own_names}
use Rattle.program_linking.proofs.ClaimSteps.{from_item}
use Rattle.program_linking.proofs.LargeInputs.{error_more, many_own_names}
use Rattle.program_linking.proofs.class_names.stub_names.Goals as goal

pub loop-c-init : goal.loop-c-init
loop-c-init c = ap (λ (ts : List (List ℕ)). with_own_names ts c.args.stubs.now) c.new-names.ensures

pub loop-c-preserved : goal.loop-c-preserved
loop-c-preserved c =
    let rest = drop (c.loop-c.c-index + 1) c.args.stubs.now in
    ap (λ (ts : List (List ℕ)). with_own_names ts rest) c.in_ok-add_own.ensures.added
    ∙ ap (with_own_names c.loop-c.names) (sym (from_item c.args.stubs.now c.loop-c.c-index c.c-item.result c.loop-c-test.true c.c-item.is))
    ∙ c.loop-c.invariant

pub returns-in_err-add_own-clause-too_many : goal.returns-in_err-add_own-clause-too_many
returns-in_err-add_own-clause-too_many c =
    let q = err_from_is_err_and c.from_residual.result c.from_residual.ensures.1 in
    let stubs = c.args.stubs.now in
    let names = c.loop-c.names in
    rw (q.1, q.2)
    (error_more (AreTooMany names) (AreTooMany (own_classes stubs)) c.in_err-add_own.field-0.0 (many_own_names names (drop c.loop-c.c-index stubs) stubs c.loop-c.invariant) c.in_err-add_own.ensures.too_many)

pub returns-clause-names : goal.returns-clause-names
returns-clause-names c = sym (ap (with_own_names c.loop-c.names) (drop_all c.loop-c.c-index c.args.stubs.now c.loop-c-test.false)) ∙ c.loop-c.invariant
