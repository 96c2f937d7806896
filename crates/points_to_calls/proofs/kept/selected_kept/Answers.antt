use Rattle.std.proofs.Common.{sym}
use Rattle.points_to_calls.specs.KeptAnswers.{same_selects, IsSelectAnswer}
use Rattle.points_to_calls.proofs.RightAnswers.{exact_selects, same_right, more_right, select_answer, answers_select}
use Rattle.points_to_calls.proofs.kept.selected_kept.Goals as goal

pub returns-in-Some-clause-selected : goal.returns-in-Some-clause-selected
returns-in-Some-clause-selected c =
    let p = c.args.program.now in let n = c.args.tables.now in
    let answer = c.in-Some.answer.now in
    select_answer p n c.args.key answer (c.requires.answers.selected c.args.key answer (sym c.in-Some.ensures.value))

pub returns-in_err-insert-clause-answers : goal.returns-in_err-insert-clause-answers
returns-in_err-insert-clause-answers c =
    let p = c.args.program.now in let n = c.args.tables.now in
    record {
      fits = c.requires.answers.fits;
      selected = same_right same_selects (IsSelectAnswer p n) c.args.answers.now.selected c.insert.new.self c.in_err-insert.ensures.err c.requires.answers.selected;
    }

pub returns-clause-selected : goal.returns-clause-selected
returns-clause-selected c =
    let p = c.args.program.now in let n = c.args.tables.now in
    let answer = c.selected_from-answer.result in
    select_answer p n c.args.key answer (answers_select p n c.args.key answer c.name_of-class.result.now c.name_of-class.ensures c.selected_from-answer.ensures)

pub returns-clause-answers : goal.returns-clause-answers
returns-clause-answers c =
    let p = c.args.program.now in let n = c.args.tables.now in
    let answer = c.selected_from-answer.result in
    record {
      fits = c.requires.answers.fits;
      selected = more_right same_selects (IsSelectAnswer p n) exact_selects c.args.answers.now.selected c.insert.new.self c.args.key answer c.in_ok-insert.ensures.updates.0 c.requires.answers.selected
          (answers_select p n c.args.key answer c.name_of-class.result.now c.name_of-class.ensures c.selected_from-answer.ensures);
    }
