use Rattle.std.proofs.Common.{◌∙◌}
use Rattle.command_words.specs.Requests.{wanted_of}
use Rattle.typestate_core.proofs.ProgramJudging.{has_class_told, no_class_told}
use Rattle.typestate_core.proofs.program.judge_entry.Goals as goal

pub returns-in-Some-clause-told : goal.returns-in-Some-clause-told
returns-in-Some-clause-told c =
    has_class_told c.judge_analysis.result (wanted_of c.args.request.now) c.args.automaton.now c.args.program.now c.args.entry c.in-Some.class c.well_formed-2.ensures.program
    c.in-Some.ensures.found.0 (c.in-Some.ensures.found.1 ∙ c.as_slice.ensures) c.judge_analysis.ensures.told

pub returns-in-None-clause-told : goal.returns-in-None-clause-told
returns-in-None-clause-told c =
    no_class_told c.refuse.result (wanted_of c.args.request.now) c.args.automaton.now c.args.program.now c.args.entry c.as_slice.result.now c.as_bytes.result.now
    c.as_slice.ensures c.as_bytes.ensures.value c.in-None.ensures.none c.refuse.ensures.ok
