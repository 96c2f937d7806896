use Rattle.std.proofs.Common.{◌≡◌, ◌∙◌, ◌++◌, List, ap}
use Rattle.failure.specs.declared.Failure.TheVariants.{Cause}
use Rattle.jvm_model.specs.declared.stub.StubClass.{StubClass}
use Rattle.program_model.specs.declared.link_failure.LinkFault.TheVariants.{Refused}
use Rattle.command_words.specs.Requests.{wanted_of}
use Rattle.run_spec.specs.Inputs.{Input, all_stubs}
use Rattle.typestate_core.proofs.ProgramJudging.{linked_told, unlinked_told}
use Rattle.typestate_core.proofs.program.judge_classes.Goals as goal

pub returns-in-Ok-clause-told : goal.returns-in-Ok-clause-told
returns-in-Ok-clause-told c =
    let stubs = c.args.stubs.items in
    let all : c.append.new.self.items ≡ all_stubs stubs = c.in_ok-append.ensures.items ∙ ap (λ (xs : List StubClass). xs ++ stubs) c.in_ok-all.ensures.table in
    let i : Input = record { wanted = wanted_of c.args.request.now; property = c.args.automaton.now; stubs = stubs; classes = c.args.classes.items } in
    linked_told c.judge_program.result i c.append.new.self.items all
    c.has_method_named-named.result c.deref.result.now c.in-Ok.program c.deref.ensures.value c.has_method_named-named.ensures c.in-Ok.ensures.tells
    c.well_formed-in-Ok.ensures.program c.judge_program.ensures.told

pub returns-in-Err-Cause-Refused-clause-told : goal.returns-in-Err-Cause-Refused-clause-told
returns-in-Err-Cause-Refused-clause-told c =
    let stubs = c.args.stubs.items in
    let all : c.append.new.self.items ≡ all_stubs stubs = c.in_ok-append.ensures.items ∙ ap (λ (xs : List StubClass). xs ++ stubs) c.in_ok-all.ensures.table in
    let e = c.in-Err-Cause-Refused in
    let is : e.field-0 ≡ Cause (Refused e.r) = e.field-0-is ∙ ap Cause e.field-0-0-is in
    let i : Input = record { wanted = wanted_of c.args.request.now; property = c.args.automaton.now; stubs = stubs; classes = c.args.classes.items } in
    unlinked_told c.refuse.result i c.append.new.self.items all
    c.as_bytes.result.now e.field-0 e.r e.ensures.tells is (c.as_bytes.ensures.value ∙ c.as_str.ensures) c.refuse.ensures.ok
