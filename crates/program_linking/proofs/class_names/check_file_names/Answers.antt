use Rattle.std.proofs.Common.{ℕ, List, [], ◌∷◌, ◌++◌, length, length-append, sym, ap, subst, arith}
use Rattle.std.proofs.lemmas.List.{drop_all}
use Rattle.std.proofs.lemmas.Result.{err_from_is_err_and}
use Rattle.jvm_model.specs.Linking.{claim, differs, file_claims}
use Rattle.jvm_model.specs.Soundness.{this_class_offset}
use Rattle.program_index.specs.Limits.{AreTooMany}
use Rattle.program_linking.specs.Claims.{file_name}
use Rattle.program_linking.specs.LinkAnswers.{IsSoundFile}
use Rattle.program_linking.proofs.ClaimSteps.{end_more, left_all, left_as, left_end}
use Rattle.program_linking.proofs.ClassNames.{next_file, stop_file}
use Rattle.program_linking.proofs.class_names.check_file_names.Goals as goal

pub check_file_name-requires : goal.check_file_name-requires
check_file_name-requires c =
    subst IsSoundFile (sym c.f-item.is) (c.requires c.loop-f.f-index c.f-item.result c.loop-f-test.true)

pub loop-f-init : goal.loop-f-init
loop-f-init c = record {
  count = ap (length {A = List ℕ}) c.new-earlier.ensures;
  left = λ p names has. left_as p _ _ _ (ap (λ (ns : List (List ℕ)). file_claims names ns c.args.files.now) (sym c.new-earlier.ensures)) (left_all p (file_claims names [] c.args.files.now));
}

pub loop-f-preserved : goal.loop-f-preserved
loop-f-preserved c =
    let added = c.in_ok-check_file_name.ensures.added in
    record {
      count = omega (arith, ap (length {A = List ℕ}) added, length-append c.loop-f.earlier (file_name c.f-item.result ∷ []), c.loop-f.invariant.count);
      left = λ p names has.
          next_file p names c.loop-f.earlier c.check_file_name.new.earlier c.args.files.now c.loop-f.f-index c.f-item.result c.loop-f-test.true c.f-item.is (c.loop-f.invariant.left p names has)
          added (c.in_ok-check_file_name.ensures.told p names has);
    }

pub returns-in_err-check_file_name : goal.returns-in_err-check_file_name
returns-in_err-check_file_name c =
    let q = err_from_is_err_and c.from_residual.result c.from_residual.ensures.1 in
    let files = c.args.files.now in
    let f = c.f-item.result in
    let earlier = c.loop-f.earlier in
    let end = c.in_err-check_file_name.field-0.0 in
    let more : AreTooMany earlier → AreTooMany files = λ many. omega (arith, c.loop-f.invariant.count, c.loop-f-test.true, many) in
    λ p names has. rw (q.1, q.2)
    (stop_file p names earlier earlier files c.loop-f.f-index f c.loop-f-test.true c.f-item.is (c.loop-f.invariant.left p names has) (AreTooMany files) end
    (end_more (AreTooMany earlier) (AreTooMany files) p (claim f.file (this_class_offset f.class) (differs (earlier ++ names) (file_name f)) ∷ []) end more (c.in_err-check_file_name.ensures.told p names has)))

pub returns : goal.returns
returns c = λ p names has.
    left_end p _ (left_as p _ _ _ (ap (file_claims names c.loop-f.earlier) (drop_all c.loop-f.f-index c.args.files.now c.loop-f-test.false)) (c.loop-f.invariant.left p names has))
