use Rattle.std.proofs.Common.{◌≡◌, ◌<◌, ◌∙◌, ℕ, List, ap, arith, refl, subst, true, false}
use Rattle.failure.specs.declared.Failure.TheVariants.{Cause}
use Rattle.command_words.specs.Requests.{wanted_of}
use Rattle.property_file.specs.declared.property_failure.PropertyFault.TheVariants.{BadToml, BadProperty}
use Rattle.property_file.specs.PropertyFile.{IsPropertyFile}
use Rattle.property_file.specs.Refusals.{IsPropertyRefusal}
use Rattle.jvm_model.specs.declared.reason.Reason.TheVariants as reasons
use Rattle.run_spec.specs.declared.status.Status.TheVariants as statuses
use Rattle.run_spec.specs.Lines.{missing_line, refused_line}
use Rattle.typestate_core.specs.Answers.{reports}
use Rattle.typestate_core.proofs.CallOrder.{no_report, property_ends, property_goes_on}
use Rattle.typestate_core.proofs.Judging.{broken_property_told, no_document_told, property_told}
use Rattle.typestate_core.proofs.files.judge_request.Goals as goal

pub returns-in-Ok-read_property-clause-told : goal.returns-in-Ok-read_property-clause-told
returns-in-Ok-read_property-clause-told g c =
    let past : 1048576 < 1048577 = omega arith in
    let a = c.in-Ok-read_property.automaton in
    property_told (g.T.Tree.files c.args.tree.now) c.judge_property.result (wanted_of c.args.request.now) (g.T.Tree.files c.read.new.self) c.in-Ok.bytes.items 1048577 a
    past c.read.ensures.same_files c.in-Ok.ensures.bytes (subst (λ (bytes : List ℕ). IsPropertyFile bytes a) c.deref.ensures.value c.in-Ok-read_property.ensures.found)
    c.judge_property.ensures.told

pub returns-in-Err-Cause-BadToml-clause-told : goal.returns-in-Err-Cause-BadToml-clause-told
returns-in-Err-Cause-BadToml-clause-told g c =
    let past : 1048576 < 1048577 = omega arith in
    let e = c.in-Err-Cause-BadToml in
    let is : e.field-0 ≡ Cause BadToml = e.field-0-is ∙ ap Cause e.field-0-0-is in
    no_document_told (g.T.Tree.files c.args.tree.now) c.refuse.result (wanted_of c.args.request.now) c.as_bytes-file.result.now c.in-Ok.bytes.items 1048577 e.field-0
    past c.in-Ok.ensures.bytes is (subst (λ (bytes : List ℕ). IsPropertyRefusal bytes e.field-0) c.deref.ensures.value e.ensures.refused)
    c.as_bytes-file.ensures.value c.refuse.ensures.ok

pub returns-in-Err-Cause-BadProperty-clause-told : goal.returns-in-Err-Cause-BadProperty-clause-told
returns-in-Err-Cause-BadProperty-clause-told g c =
    let past : 1048576 < 1048577 = omega arith in
    let e = c.in-Err-Cause-BadProperty in
    let key = e.field-0-0-0 in
    let is : e.field-0 ≡ Cause (BadProperty key) = e.field-0-is ∙ ap Cause e.field-0-0-is in
    broken_property_told (g.T.Tree.files c.args.tree.now) c.refuse-in-Err-Cause-BadProperty.result (wanted_of c.args.request.now) c.as_bytes-file.result.now
    c.in-Ok.bytes.items 1048577 e.field-0 key past c.in-Ok.ensures.bytes is
    (subst (λ (bytes : List ℕ). IsPropertyRefusal bytes e.field-0) c.deref.ensures.value e.ensures.refused) c.as_bytes-file.ensures.value
    c.refuse-in-Err-Cause-BadProperty.ensures.ok

pub returns-in-Ok-read_property-clause-calls : goal.returns-in-Ok-read_property-clause-calls
returns-in-Ok-read_property-clause-calls g c =
    let past : 1048576 < 1048577 = omega arith in
    let a = c.in-Ok-read_property.automaton in
    property_goes_on (g.T.Tree.files c.args.tree.now) (g.T.Tree.called c.args.tree.now) (g.T.Tree.called c.judge_property.new.tree) (wanted_of c.args.request.now)
    (reports c.judge_property.result) (g.T.Tree.called c.read.new.self) (g.T.Tree.files c.read.new.self) c.in-Ok.bytes.items 1048577 a past c.read.ensures.same_files
    c.in-Ok.ensures.bytes (subst (λ (bytes : List ℕ). IsPropertyFile bytes a) c.deref.ensures.value c.in-Ok-read_property.ensures.found) c.in-Ok.ensures.calls
    c.judge_property.ensures.calls

pub returns-in-Err-Cause-BadToml-clause-calls : goal.returns-in-Err-Cause-BadToml-clause-calls
returns-in-Err-Cause-BadToml-clause-calls g c =
    property_ends (g.T.Tree.files c.args.tree.now) (g.T.Tree.called c.args.tree.now) (g.T.Tree.called c.read.new.self) (wanted_of c.args.request.now) (reports c.refuse.result) true
    c.in-Ok.ensures.calls (no_report c.refuse.result statuses.Refused (refused_line c.as_bytes-file.result.now 0 reasons.BadToml) refl c.refuse.ensures.ok)

pub returns-in-Err-Cause-BadProperty-clause-calls : goal.returns-in-Err-Cause-BadProperty-clause-calls
returns-in-Err-Cause-BadProperty-clause-calls g c =
    let result = c.refuse-in-Err-Cause-BadProperty.result in
    property_ends (g.T.Tree.files c.args.tree.now) (g.T.Tree.called c.args.tree.now) (g.T.Tree.called c.read.new.self) (wanted_of c.args.request.now) (reports result) true
    c.in-Ok.ensures.calls (no_report result statuses.Refused (refused_line c.as_bytes-file.result.now 0 reasons.BadProperty) refl c.refuse-in-Err-Cause-BadProperty.ensures.ok)

pub returns-in-Err-Cause-Missing-clause-calls : goal.returns-in-Err-Cause-Missing-clause-calls
returns-in-Err-Cause-Missing-clause-calls g c =
    property_ends (g.T.Tree.files c.args.tree.now) (g.T.Tree.called c.args.tree.now) (g.T.Tree.called c.read.new.self) (wanted_of c.args.request.now) (reports c.miss.result) false
    c.in-Err-Cause-Missing.ensures.calls_in_vain (no_report c.miss.result statuses.Usage (missing_line c.as_bytes.result.now) refl c.miss.ensures.ok)

pub returns-in-Err-Cause-Failed-clause-calls : goal.returns-in-Err-Cause-Failed-clause-calls
returns-in-Err-Cause-Failed-clause-calls g c =
    property_ends (g.T.Tree.files c.args.tree.now) (g.T.Tree.called c.args.tree.now) (g.T.Tree.called c.read.new.self) (wanted_of c.args.request.now) false false c.in-Err-Cause-Failed.ensures.calls_in_vain refl

pub returns-in-Err-OutOfMemory-clause-calls : goal.returns-in-Err-OutOfMemory-clause-calls
returns-in-Err-OutOfMemory-clause-calls g c =
    property_ends (g.T.Tree.files c.args.tree.now) (g.T.Tree.called c.args.tree.now) (g.T.Tree.called c.read.new.self) (wanted_of c.args.request.now) false false c.in-Err-OutOfMemory.ensures.calls_in_vain refl

pub returns-clause-calls : goal.returns-clause-calls
returns-clause-calls g c =
    property_ends (g.T.Tree.files c.args.tree.now) (g.T.Tree.called c.args.tree.now) (g.T.Tree.called c.read.new.self) (wanted_of c.args.request.now) false true c.in-Ok.ensures.calls refl
