use Rattle.std.proofs.Common.{◌≡◌, ℕ, sym, subst}
use Rattle.command_words.specs.Requests.{wanted_of}
use Rattle.report_analysis.proofs.OwnProgram.{of_own_program}
use Rattle.lowering_supply.specs.Supplied.{IsSupplied}
use Rattle.jvm_model.specs.Programs.{Program}
use Rattle.program_model.specs.Numbers.{IsClassNumber, IsMethodNumber, name_at}
use Rattle.points_to_rules.specs.Solutions.{IsSolveEnd}
use Rattle.typestate_core.proofs.ProgramJudging.{end_told}
use Rattle.typestate_core.proofs.Reported.{analysis_told}
use Rattle.typestate_core.proofs.program.judge_analysis.Goals as goal

pub tell-requires-clause-class : goal.tell-requires-clause-class
tell-requires-clause-class c = subst (λ (p : Program). IsClassNumber p c.args.class.0) (sym c.in-Ok.ensures.ground.program) c.requires.class

pub tell-requires-clause-named : goal.tell-requires-clause-named
tell-requires-clause-named c =
    subst (λ (p : Program). name_at p c.args.class.0 ≡ c.args.automaton.now.class_name) (sym c.in-Ok.ensures.ground.program) c.requires.named

pub tell-requires-clause-entry : goal.tell-requires-clause-entry
tell-requires-clause-entry c = subst (λ (p : Program). IsMethodNumber p c.args.entry.0) (sym c.in-Ok.ensures.ground.program) c.requires.entry

pub tell-requires-clause-analysis : goal.tell-requires-clause-analysis
tell-requires-clause-analysis c =
    let analysis = c.in-Ok.ensures.ground in
    (c.from.result, of_own_program c.args.program.now c.args.entry c.from.result c.in-Ok.ground analysis)

pub returns-in-Ok-clause-told : goal.returns-in-Ok-clause-told
returns-in-Ok-clause-told c =
    analysis_told c.tell.result (wanted_of c.args.request.now) c.args.automaton.now c.args.program.now c.args.entry c.from.result c.in-Ok.ground
    c.from.ensures c.in-Ok.ensures.ground c.tell.ensures.told

pub returns-in-Err-clause-told : goal.returns-in-Err-clause-told
returns-in-Err-clause-told c =
    let p = c.args.program.now in
    end_told c.refuse_end.result (wanted_of c.args.request.now) c.args.automaton.now p c.args.entry c.in-Err.failure
    (subst (λ (limit : ℕ). IsSolveEnd p (IsSupplied p) c.args.entry limit c.in-Err.failure) c.from.ensures c.in-Err.ensures.end) c.refuse_end.ensures.ok
