use Rattle.std.proofs.Common.{◌≡◌, ◌∙◌, ap, false, refl}
use Rattle.failure.specs.declared.Failure.TheVariants.{Cause}
use Rattle.class_folder.specs.declared.fault.FolderFault.TheVariants.{Refused}
use Rattle.command_words.specs.Requests.{wanted_of}
use Rattle.run_spec.specs.declared.status.Status.TheVariants as statuses
use Rattle.run_spec.specs.Lines.{missing_line, refused_line}
use Rattle.typestate_core.specs.Answers.{reports}
use Rattle.typestate_core.proofs.CallOrder.{folder_calls, folder_ends, no_report}
use Rattle.typestate_core.proofs.Judging.{classes_told, refused_folder_told}
use Rattle.typestate_core.proofs.files.judge_stubs.Goals as goal

pub returns-in-Ok-clause-told : goal.returns-in-Ok-clause-told
returns-in-Ok-clause-told g c =
    classes_told (g.T.Tree.files c.args.tree.now) c.judge_classes.result (wanted_of c.args.request.now) c.args.automaton.now c.args.stubs.items c.in-Ok.classes.items
    c.in-Ok.ensures.read c.judge_classes.ensures.told

pub returns-in-Err-Cause-Refused-clause-told : goal.returns-in-Err-Cause-Refused-clause-told
returns-in-Err-Cause-Refused-clause-told g c =
    let e = c.in-Err-Cause-Refused in
    let is : e.field-0 ≡ Cause (Refused e.r) = e.field-0-is ∙ ap Cause e.field-0-0-is in
    refused_folder_told (g.T.Tree.files c.args.tree.now) c.refuse.result (wanted_of c.args.request.now) c.args.automaton.now c.args.stubs.items
    c.as_bytes.result.now e.field-0 e.r e.ensures.failure is (c.as_bytes.ensures.value ∙ c.as_str.ensures) c.refuse.ensures.ok

pub returns-in-Ok-clause-calls : goal.returns-in-Ok-clause-calls
returns-in-Ok-clause-calls g c =
    folder_calls (g.T.Tree.files c.args.tree.now) (g.T.Tree.called c.args.tree.now) (g.T.Tree.called c.read_classes.new.tree) (reports c.judge_classes.result)
    c.in-Ok.classes.items c.in-Ok.ensures.read c.in-Ok.ensures.calls

pub returns-in-Err-Cause-Refused-clause-calls : goal.returns-in-Err-Cause-Refused-clause-calls
returns-in-Err-Cause-Refused-clause-calls g c =
    let e = c.in-Err-Cause-Refused in
    folder_ends (g.T.Tree.files c.args.tree.now) (g.T.Tree.called c.args.tree.now) (g.T.Tree.called c.read_classes.new.tree) (reports c.refuse.result)
    e.field-0 e.ensures.calls_in_vain
    (no_report c.refuse.result statuses.Refused (refused_line c.as_bytes.result.now e.r.offset e.r.reason) refl c.refuse.ensures.ok)

pub returns-in-Err-Cause-Missing-clause-calls : goal.returns-in-Err-Cause-Missing-clause-calls
returns-in-Err-Cause-Missing-clause-calls g c =
    let e = c.in-Err-Cause-Missing in
    folder_ends (g.T.Tree.files c.args.tree.now) (g.T.Tree.called c.args.tree.now) (g.T.Tree.called c.read_classes.new.tree) (reports c.miss.result)
    e.field-0 e.ensures.calls_in_vain
    (no_report c.miss.result statuses.Usage (missing_line c.as_bytes-in-Err-Cause-Missing.result.now) refl c.miss.ensures.ok)

pub returns-in-Err-Cause-Unreadable-clause-calls : goal.returns-in-Err-Cause-Unreadable-clause-calls
returns-in-Err-Cause-Unreadable-clause-calls g c =
    folder_ends (g.T.Tree.files c.args.tree.now) (g.T.Tree.called c.args.tree.now) (g.T.Tree.called c.read_classes.new.tree) false c.in-Err-Cause-Unreadable.field-0
    c.in-Err-Cause-Unreadable.ensures.calls_in_vain refl

pub returns-clause-calls : goal.returns-clause-calls
returns-clause-calls g c =
    folder_ends (g.T.Tree.files c.args.tree.now) (g.T.Tree.called c.args.tree.now) (g.T.Tree.called c.read_classes.new.tree) false c.in-Err-OutOfMemory.field-0
    c.in-Err-OutOfMemory.ensures.calls_in_vain refl
