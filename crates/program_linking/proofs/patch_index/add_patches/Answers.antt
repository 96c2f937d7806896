use Rattle.std.proofs.Common.{◌≡◌, ℕ, suc, ◌+◌, List, [], ◌∷◌, ◌++◌, length, filter, take, drop, sym, ◌∙◌, ap, subst, arith}
use Rattle.std.proofs.Math.Seq.{take-suc}
use Rattle.std.proofs.lemmas.Result.{err_from_is_err_and}
use Rattle.jvm_model.specs.declared.stub.StubClass.{StubClass}
use Rattle.program_index.specs.Limits.{AreTooMany}
use Rattle.program_linking.specs.Patching.{is_patch_stub, patch_one}
use Rattle.program_linking.specs.PatchLists.{lent_lists, AreListed}
use Rattle.program_linking.proofs.ClaimSteps.{from_item}
use Rattle.program_linking.proofs.LargeInputs.{error_more, patches_count}
use Rattle.program_linking.proofs.patch_index.add_patches.Goals as goal

pub loop-stub-preserved : goal.loop-stub-preserved
loop-stub-preserved c =
    let stubs = c.args.stubs.now in
    let i = c.loop-stub.stub-index in
    let s = c.stub-item.result in
    let next : suc i ≡ i + 1 = omega arith in
    let more : take i stubs ++ s ∷ [] ≡ take (i + 1) stubs =
    ap (λ (x : StubClass). take i stubs ++ x ∷ []) c.stub-item.is ∙ sym (take-suc stubs i s c.loop-stub-test.true) ∙ ap (λ (n : ℕ). take n stubs) next in
    let rest = drop (i + 1) stubs in
    let left : length (filter is_patch_stub (drop i stubs)) ≡ length (patch_one s) + length (filter is_patch_stub rest) =
    ap (λ (ss : List StubClass). length (filter is_patch_stub ss)) (from_item stubs i s c.loop-stub-test.true c.stub-item.is) ∙ patches_count s rest in
    record {
      listed = subst (λ (front : List StubClass). AreListed front c.add_patch.new.names (lent_lists c.add_patch.new.lists.items)) more (c.in_ok-add_patch.ensures.goes.more _ c.loop-stub.invariant.listed);
      few = omega (arith, left, c.in_ok-add_patch.ensures.count, c.loop-stub.invariant.few);
    }

pub returns-in_err-add_patch-clause-too_many : goal.returns-in_err-add_patch-clause-too_many
returns-in_err-add_patch-clause-too_many c =
    let q = err_from_is_err_and c.from_residual.result c.from_residual.ensures.1 in
    let patches = filter is_patch_stub c.args.stubs.now in
    let more : AreTooMany c.loop-stub.names → AreTooMany patches = λ many. omega (arith, c.loop-stub.invariant.few, many) in
    rw (q.1, q.2) (error_more (AreTooMany c.loop-stub.names) (AreTooMany patches) c.in_err-add_patch.field-0.0 more c.in_err-add_patch.ensures.too_many)
