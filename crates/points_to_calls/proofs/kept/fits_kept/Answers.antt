use Rattle.std.proofs.Common.{sym}
use Rattle.points_to_calls.specs.declared.answer_keys.FitKey.{FitKey}
use Rattle.points_to_calls.specs.KeptAnswers.{same_fits, IsFitAnswer}
use Rattle.points_to_calls.proofs.RightAnswers.{exact_fits, same_right, more_right, fit_answer, answers_fit}
use Rattle.points_to_calls.proofs.kept.fits_kept.Goals as goal

pub returns-in-Some-clause-fits : goal.returns-in-Some-clause-fits
returns-in-Some-clause-fits c =
    let p = c.args.program.now in let n = c.args.tables.now in
    let key : FitKey = record { upper = c.args.upper; lower = c.args.lower } in
    let answer = c.in-Some.answer.now in
    fit_answer p n key answer (c.requires.answers.fits key answer (sym c.in-Some.ensures.value))

pub returns-in_err-insert-clause-answers : goal.returns-in_err-insert-clause-answers
returns-in_err-insert-clause-answers c =
    let p = c.args.program.now in let n = c.args.tables.now in
    record {
      fits = same_right same_fits (IsFitAnswer p n) c.args.answers.now.fits c.insert.new.self c.in_err-insert.ensures.err c.requires.answers.fits;
      selected = c.requires.answers.selected;
    }

pub returns-clause-fits : goal.returns-clause-fits
returns-clause-fits c =
    let p = c.args.program.now in let n = c.args.tables.now in
    let key : FitKey = record { upper = c.args.upper; lower = c.args.lower } in
    let answer = c.fits-answer.result in
    fit_answer p n key answer (answers_fit p n key answer c.name_of.result.now c.name_of-2.result.now c.name_of.ensures c.name_of-2.ensures c.fits-answer.ensures)

pub returns-clause-answers : goal.returns-clause-answers
returns-clause-answers c =
    let p = c.args.program.now in let n = c.args.tables.now in
    let key : FitKey = record { upper = c.args.upper; lower = c.args.lower } in
    let answer = c.fits-answer.result in
    record {
      fits = more_right same_fits (IsFitAnswer p n) exact_fits c.args.answers.now.fits c.insert.new.self key answer c.in_ok-insert.ensures.updates.0 c.requires.answers.fits
          (answers_fit p n key answer c.name_of.result.now c.name_of-2.result.now c.name_of.ensures c.name_of-2.ensures c.fits-answer.ensures);
      selected = c.requires.answers.selected;
    }
