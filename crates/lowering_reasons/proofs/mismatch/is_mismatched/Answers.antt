use Rattle.std.proofs.Common.{Err}
use Rattle.std.specs.Prelude.{option_map}
use Rattle.jvm_model.specs.declared.reason.Reason.TheVariants as reasons
use Rattle.program_model.specs.Numbers.{field_number}
use Rattle.lowering_reasons.specs.Judgements.{judged}
use Rattle.lowering_reasons.specs.Reasons.{LooksUpField}
use Rattle.lowering_reasons.proofs.Only.{either_else, only_test}
use Rattle.lowering_reasons.proofs.OtherKinds.{mismatch}
use Rattle.lowering_reasons.proofs.mismatch.is_mismatched.Goals as goal

pub returns-else-field_fails : goal.returns-else-field_fails
returns-else-field_fails c =
    let j = judged c.args.instruction in
    let test = only_test (LooksUpField j) (Err reasons.KindMismatch) (option_map field_number c.args.field) c.field_fails.result c.requires.field c.field_fails.ensures in
    either_else c.field_fails.result c.calls_mismatched.result (mismatch j) c.if-field_fails.false test c.calls_mismatched.ensures
