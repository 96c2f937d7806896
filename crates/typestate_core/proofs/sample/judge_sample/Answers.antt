use Rattle.std.proofs.Common.{◌∙◌, ℕ, List, ap, subst}
use Rattle.ts_outside.specs.Files.{File}
use Rattle.command_words.specs.Requests.{wanted_of}
use Rattle.run_spec.specs.Lines.{last_of}
use Rattle.run_spec.specs.Outcomes.{PropertyOutcome}
use Rattle.typestate_core.specs.Answers.{lines_of}
use Rattle.typestate_core.specs.Output.{lines_in}
use Rattle.typestate_core.proofs.sample.judge_sample.Goals as goal

pub returns-clause-told : goal.returns-clause-told
returns-clause-told c =
    let answer = c.in_ok-answer.answer in
    let all = lines_of answer in
    let of_files = subst (λ (files : List File). PropertyOutcome files (wanted_of c.args.request.now) answer.status all) c.in_ok-files.ensures c.in_ok-answer.ensures.told in
    (all, of_files, ap lines_in c.in_ok-text.ensures.items ∙ (c.last_line.ensures ∙ ap (λ (bytes : List ℕ). last_of (lines_in bytes)) c.deref.ensures.value))
