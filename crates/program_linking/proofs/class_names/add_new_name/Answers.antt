use Rattle.std.proofs.Common.{sym, ◌∙◌}
use Rattle.std.proofs.lemmas.Result.{err_from_is_err_and}
use Rattle.program_index.specs.Limits.{AreTooMany}
use Rattle.program_index.proofs.TextPlaces.{with_text-new}
use Rattle.program_linking.proofs.LargeInputs.{error_told}
use Rattle.program_linking.proofs.class_names.add_new_name.Goals as goal

pub returns-clause-added : goal.returns-clause-added
returns-clause-added c = c.in_ok-intern.ensures.ok ∙ sym (with_text-new c.args.earlier.now c.args.name.now c.requires)

pub returns-in_err-intern-clause-too_many : goal.returns-in_err-intern-clause-too_many
returns-in_err-intern-clause-too_many c =
    let q = err_from_is_err_and c.from_residual.result c.from_residual.ensures.1 in
    rw (q.1, q.2) (error_told (AreTooMany c.args.earlier.now) c.in_err-intern.field-0.0 (λ told. (c.in_err-intern.ensures.too_many.0 told).1))
