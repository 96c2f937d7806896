use Rattle.std.proofs.lemmas.Result.{err_from_is_err_and}
use Rattle.program_index.specs.Limits.{AreTooMany}
use Rattle.program_linking.proofs.LargeInputs.{error_told}
use Rattle.program_linking.proofs.class_names.add_own.Goals as goal

pub returns-in_err-intern-clause-too_many : goal.returns-in_err-intern-clause-too_many
returns-in_err-intern-clause-too_many c =
    let q = err_from_is_err_and c.from_residual.result c.from_residual.ensures.1 in
    rw (q.1, q.2) (error_told (AreTooMany c.args.names.now) c.in_err-intern.field-0.0 (λ told. (c.in_err-intern.ensures.too_many.0 told).1))
