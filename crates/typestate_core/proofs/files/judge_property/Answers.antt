use Rattle.std.proofs.Common.{◌≡◌, ◌<◌, ◌∙◌, ℕ, List, Err, Some, None, true, false, Option, option_map, Bor, ap, arith, refl, subst}
use Rattle.failure.specs.declared.Failure.TheVariants.{Cause}
use Rattle.command_words.specs.Requests.{wanted_of}
use Rattle.stub_file.specs.declared.stub_failure.StubFault.TheVariants.{BadToml, BadStub}
use Rattle.stub_file.specs.StubFile.{IsStubFile, IsStubRefusal}
use Rattle.jvm_model.specs.declared.reason.Reason.TheVariants as reasons
use Rattle.run_spec.specs.declared.status.Status.TheVariants as statuses
use Rattle.run_spec.specs.Lines.{missing_line, refused_line}
use Rattle.typestate_core.specs.Answers.{reports}
use Rattle.typestate_core.proofs.CallOrder.{no_report, no_stub_calls, stubs_end, stubs_go_on}
use Rattle.typestate_core.proofs.Judging.{broken_stubs_told, no_stub_file_told, no_stubs_told, stubs_no_document_told, stubs_told}
use Rattle.typestate_core.proofs.ReadStubs.{read_sound}
use Rattle.typestate_core.proofs.files.judge_property.Goals as goal

-- the name of the stub file, where the words give one
abbrev name_in : Option (Bor (List ℕ)) → Option (List ℕ)
name_in given = option_map (λ (name : Bor (List ℕ)). name.now) given

pub returns-in_default-clause-told : goal.returns-in_default-clause-told
returns-in_default-clause-told g c =
    let w = wanted_of c.args.request.now in
    let none : w.stubs ≡ None = ap name_in c.in_default.is in
    no_stubs_told (g.T.Tree.files c.args.tree.now) c.judge_stubs.result w c.args.automaton.now c.new.result.items none c.new.ensures.items c.judge_stubs.ensures.told

pub returns-in-Err-Cause-Missing-clause-told : goal.returns-in-Err-Cause-Missing-clause-told
returns-in-Err-Cause-Missing-clause-told g c =
    let w = wanted_of c.args.request.now in
    let name = c.in-Some.name.now in
    let given : w.stubs ≡ Some name = ap name_in c.in-Some.is in
    let e = c.in-Err-Cause-Missing in
    no_stub_file_told (g.T.Tree.files c.args.tree.now) c.miss.result w c.args.automaton.now name c.as_bytes.result.now given
    (c.read.ensures.missing (e.is ∙ ap Err (e.field-0-is ∙ ap Cause e.field-0-0-is))) c.as_bytes.ensures.value c.miss.ensures.ok

pub judge_stubs-requires-in-Ok-read_stubs-clause-stubs : goal.judge_stubs-requires-in-Ok-read_stubs-clause-stubs
judge_stubs-requires-in-Ok-read_stubs-clause-stubs g c =
    read_sound c.in-Some.name.now c.deref.result.now c.in-Ok-read_stubs.stubs.items c.in-Ok-read_stubs.ensures.found

pub returns-in-Ok-read_stubs-clause-told : goal.returns-in-Ok-read_stubs-clause-told
returns-in-Ok-read_stubs-clause-told g c =
    let w = wanted_of c.args.request.now in
    let name = c.in-Some.name.now in
    let given : w.stubs ≡ Some name = ap name_in c.in-Some.is in
    let past : 1048576 < 1048577 = omega arith in
    let stubs = c.in-Ok-read_stubs.stubs.items in
    stubs_told (g.T.Tree.files c.args.tree.now) c.judge_stubs-in-Ok-read_stubs.result w c.args.automaton.now (g.T.Tree.files c.read.new.self) name c.in-Ok.bytes.items 1048577 stubs
    past c.read.ensures.same_files given c.in-Ok.ensures.bytes (subst (λ (bytes : List ℕ). IsStubFile name bytes stubs) c.deref.ensures.value c.in-Ok-read_stubs.ensures.found)
    c.judge_stubs-in-Ok-read_stubs.ensures.told

pub returns-in-Err-Cause-BadToml-clause-told : goal.returns-in-Err-Cause-BadToml-clause-told
returns-in-Err-Cause-BadToml-clause-told g c =
    let w = wanted_of c.args.request.now in
    let name = c.in-Some.name.now in
    let given : w.stubs ≡ Some name = ap name_in c.in-Some.is in
    let past : 1048576 < 1048577 = omega arith in
    let e = c.in-Err-Cause-BadToml in
    let is : e.field-0 ≡ Cause BadToml = e.field-0-is ∙ ap Cause e.field-0-0-is in
    stubs_no_document_told (g.T.Tree.files c.args.tree.now) c.refuse.result w c.args.automaton.now name c.as_bytes-in-Err-Cause-BadToml.result.now c.in-Ok.bytes.items 1048577
    e.field-0 past given c.in-Ok.ensures.bytes is (subst (λ (bytes : List ℕ). IsStubRefusal name bytes e.field-0) c.deref.ensures.value e.ensures.refused)
    c.as_bytes-in-Err-Cause-BadToml.ensures.value c.refuse.ensures.ok

pub returns-in-Err-Cause-BadStub-clause-told : goal.returns-in-Err-Cause-BadStub-clause-told
returns-in-Err-Cause-BadStub-clause-told g c =
    let w = wanted_of c.args.request.now in
    let name = c.in-Some.name.now in
    let given : w.stubs ≡ Some name = ap name_in c.in-Some.is in
    let past : 1048576 < 1048577 = omega arith in
    let e = c.in-Err-Cause-BadStub in
    let is : e.field-0 ≡ Cause (BadStub e.field-0-0-0) = e.field-0-is ∙ ap Cause e.field-0-0-is in
    broken_stubs_told (g.T.Tree.files c.args.tree.now) c.refuse-in-Err-Cause-BadStub.result w c.args.automaton.now name c.as_bytes-in-Err-Cause-BadStub.result.now
    c.in-Ok.bytes.items 1048577 e.field-0 e.field-0-0-0 past given c.in-Ok.ensures.bytes is
    (subst (λ (bytes : List ℕ). IsStubRefusal name bytes e.field-0) c.deref.ensures.value e.ensures.refused)
    c.as_bytes-in-Err-Cause-BadStub.ensures.value c.refuse-in-Err-Cause-BadStub.ensures.ok

pub returns-in_default-clause-calls : goal.returns-in_default-clause-calls
returns-in_default-clause-calls g c =
    let w = wanted_of c.args.request.now in
    let none : w.stubs ≡ None = ap name_in c.in_default.is in
    no_stub_calls (g.T.Tree.files c.args.tree.now) (g.T.Tree.called c.args.tree.now) (g.T.Tree.called c.judge_stubs.new.tree) w (reports c.judge_stubs.result) none c.judge_stubs.ensures.calls

pub returns-in-Err-Cause-Missing-clause-calls : goal.returns-in-Err-Cause-Missing-clause-calls
returns-in-Err-Cause-Missing-clause-calls g c =
    let w = wanted_of c.args.request.now in
    let name = c.in-Some.name.now in
    stubs_end (g.T.Tree.files c.args.tree.now) (g.T.Tree.called c.args.tree.now) (g.T.Tree.called c.read.new.self) w (reports c.miss.result) name false (ap name_in c.in-Some.is)
    c.in-Err-Cause-Missing.ensures.calls_in_vain (no_report c.miss.result statuses.Usage (missing_line c.as_bytes.result.now) refl c.miss.ensures.ok)

pub returns-in-Ok-read_stubs-clause-calls : goal.returns-in-Ok-read_stubs-clause-calls
returns-in-Ok-read_stubs-clause-calls g c =
    let w = wanted_of c.args.request.now in
    let name = c.in-Some.name.now in
    let past : 1048576 < 1048577 = omega arith in
    let stubs = c.in-Ok-read_stubs.stubs.items in
    stubs_go_on (g.T.Tree.files c.args.tree.now) (g.T.Tree.called c.args.tree.now) (g.T.Tree.called c.judge_stubs-in-Ok-read_stubs.new.tree) w (reports c.judge_stubs-in-Ok-read_stubs.result)
    (g.T.Tree.called c.read.new.self) (g.T.Tree.files c.read.new.self) name c.in-Ok.bytes.items 1048577 stubs past c.read.ensures.same_files (ap name_in c.in-Some.is) c.in-Ok.ensures.bytes
    (subst (λ (bytes : List ℕ). IsStubFile name bytes stubs) c.deref.ensures.value c.in-Ok-read_stubs.ensures.found) c.in-Ok.ensures.calls
    c.judge_stubs-in-Ok-read_stubs.ensures.calls

pub returns-in-Err-Cause-BadToml-clause-calls : goal.returns-in-Err-Cause-BadToml-clause-calls
returns-in-Err-Cause-BadToml-clause-calls g c =
    let w = wanted_of c.args.request.now in
    stubs_end (g.T.Tree.files c.args.tree.now) (g.T.Tree.called c.args.tree.now) (g.T.Tree.called c.read.new.self) w (reports c.refuse.result) c.in-Some.name.now true (ap name_in c.in-Some.is)
    c.in-Ok.ensures.calls (no_report c.refuse.result statuses.Refused (refused_line c.as_bytes-in-Err-Cause-BadToml.result.now 0 reasons.BadToml) refl c.refuse.ensures.ok)

pub returns-in-Err-Cause-BadStub-clause-calls : goal.returns-in-Err-Cause-BadStub-clause-calls
returns-in-Err-Cause-BadStub-clause-calls g c =
    let w = wanted_of c.args.request.now in
    let result = c.refuse-in-Err-Cause-BadStub.result in
    stubs_end (g.T.Tree.files c.args.tree.now) (g.T.Tree.called c.args.tree.now) (g.T.Tree.called c.read.new.self) w (reports result) c.in-Some.name.now true (ap name_in c.in-Some.is)
    c.in-Ok.ensures.calls
    (no_report result statuses.Refused (refused_line c.as_bytes-in-Err-Cause-BadStub.result.now 0 reasons.BadStub) refl c.refuse-in-Err-Cause-BadStub.ensures.ok)

pub returns-in-Err-Cause-Failed-clause-calls : goal.returns-in-Err-Cause-Failed-clause-calls
returns-in-Err-Cause-Failed-clause-calls g c =
    stubs_end (g.T.Tree.files c.args.tree.now) (g.T.Tree.called c.args.tree.now) (g.T.Tree.called c.read.new.self) (wanted_of c.args.request.now) false c.in-Some.name.now false
    (ap name_in c.in-Some.is) c.in-Err-Cause-Failed.ensures.calls_in_vain refl

pub returns-in-Err-OutOfMemory-clause-calls : goal.returns-in-Err-OutOfMemory-clause-calls
returns-in-Err-OutOfMemory-clause-calls g c =
    stubs_end (g.T.Tree.files c.args.tree.now) (g.T.Tree.called c.args.tree.now) (g.T.Tree.called c.read.new.self) (wanted_of c.args.request.now) false c.in-Some.name.now false
    (ap name_in c.in-Some.is) c.in-Err-OutOfMemory.ensures.calls_in_vain refl

pub returns-clause-calls : goal.returns-clause-calls
returns-clause-calls g c =
    stubs_end (g.T.Tree.files c.args.tree.now) (g.T.Tree.called c.args.tree.now) (g.T.Tree.called c.read.new.self) (wanted_of c.args.request.now) false c.in-Some.name.now true
    (ap name_in c.in-Some.is) c.in-Ok.ensures.calls refl
