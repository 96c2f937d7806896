use Rattle.std.proofs.Common.{map, string_bytes, Global}
use Rattle.std.proofs.lemmas.Result.{err_from_is_err_and}
use Rattle.command_words.specs.GivenValues.{given_of}
use Rattle.command_words.specs.Requests.{wanted_of}
use Rattle.command_words.proofs.Asking.{asked_for, form_failure, wrong_with}
use Rattle.command_words.proofs.request.read_words.Goals as goal

pub returns-in_err-values-clause-fault : goal.returns-in_err-values-clause-fault
returns-in_err-values-clause-fault c =
    let p = err_from_is_err_and c.from_residual.result c.from_residual.ensures.1 in
    rw (p.1, p.2) (form_failure (map (string_bytes {Z = Global}) c.args.words.now) c.in_err-values.field-0.0 c.in_err-values.ensures.fault)

pub returns-in-Ok-clause-asks : goal.returns-in-Ok-clause-asks
returns-in-Ok-clause-asks c =
    asked_for (map (string_bytes {Z = Global}) c.args.words.now) (given_of c.in_ok-values.values) c.in_ok-values.ensures.values
    (wanted_of c.in-Ok.request) c.in-Ok.ensures.asks

pub returns-in-Err-clause-fault : goal.returns-in-Err-clause-fault
returns-in-Err-clause-fault c =
    wrong_with (map (string_bytes {Z = Global}) c.args.words.now) (given_of c.in_ok-values.values) c.in_ok-values.ensures.values
    c.in-Err.fault c.in-Err.ensures.fault
