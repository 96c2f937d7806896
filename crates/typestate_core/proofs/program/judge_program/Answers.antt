use Rattle.command_words.specs.Requests.{wanted_of}
use Rattle.typestate_core.proofs.ProgramJudging.{has_entry_told, no_entry_told}
use Rattle.typestate_core.proofs.program.judge_program.Goals as goal

pub returns-in-Some-clause-told : goal.returns-in-Some-clause-told
returns-in-Some-clause-told c =
    has_entry_told c.judge_entry.result (wanted_of c.args.request.now) c.args.automaton.now c.args.program.now c.args.named c.in-Some.entry c.in-Some.ensures.found
    c.judge_entry.ensures.told

pub returns-in-None-2-clause-told : goal.returns-in-None-2-clause-told
returns-in-None-2-clause-told c =
    no_entry_told c.refuse-in-None-2.result (wanted_of c.args.request.now) c.args.automaton.now c.args.program.now c.args.named c.if-named.false c.in-None-2.ensures.none
    c.refuse-in-None-2.ensures.ok
