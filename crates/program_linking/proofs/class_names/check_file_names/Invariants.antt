use Rattle.std.proofs.Common.{◌≡◌, ℕ, List, [], length, drop}
use Rattle.jvm_model.specs.Linking.{file_claims}
use Rattle.jvm_model.specs.Programs.{Program}
use Rattle.program_linking.specs.Claims.{HasTextsOf}
use Rattle.program_linking.proofs.ClaimSteps.{Left}
use Rattle.program_linking.proofs.class_names.check_file_names.Given as goal

abbrev pub invariant-loop-f : goal.invariant-loop-f
invariant-loop-f l = record {
  count : length l.earlier ≡ l.f-index;
  left : (p : Program) (names : List (List ℕ)) → HasTextsOf l.others names → Left p (file_claims names [] l.files) (file_claims names l.earlier (drop l.f-index l.files));
}
