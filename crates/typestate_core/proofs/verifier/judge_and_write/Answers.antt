use Rattle.std.proofs.Common.{Global, Some, [], map, string_bytes}
use Rattle.typestate_core.specs.ReadingOrder.{is_report}
use Rattle.typestate_core.proofs.CallOrder.{run_quiet}
use Rattle.typestate_core.proofs.HandedRuns.{handed_told, vain_told}
use Rattle.typestate_core.proofs.RunTold.{written_told, front_told}
use Rattle.typestate_core.proofs.verifier.judge_and_write.Goals as goal

pub returns-in-Ok-write_lines-clause-told : goal.returns-in-Ok-write_lines-clause-told
returns-in-Ok-write_lines-clause-told g c =
    written_told (g.T.Tree.files c.args.tree.now) (map (string_bytes {Z = Global}) c.args.words.now) c.in-Ok.field-0 c.deref.result.now (g.S.Sink.taken c.args.out.now) (g.S.Sink.taken c.write_lines.new.out)
    c.deref.ensures.value c.in-Ok.ensures.reported c.in-Ok.ensures.told c.in-Ok-write_lines.ensures.all

pub returns-in-Ok-write_lines-clause-pieces : goal.returns-in-Ok-write_lines-clause-pieces
returns-in-Ok-write_lines-clause-pieces g c =
    handed_told (g.T.Tree.files c.args.tree.now) (map (string_bytes {Z = Global}) c.args.words.now) c.in-Ok.field-0 c.deref.result.now (g.S.Sink.handed c.args.out.now) (g.S.Sink.handed c.write_lines.new.out)
    c.deref.ensures.value c.in-Ok.ensures.reported c.in-Ok.ensures.told c.in-Ok-write_lines.ensures.pieces

pub returns-in-Ok-clause-told : goal.returns-in-Ok-clause-told
returns-in-Ok-clause-told g c =
    front_told (g.T.Tree.files c.args.tree.now) (map (string_bytes {Z = Global}) c.args.words.now) c.in-Ok.field-0 c.deref.result.now (g.S.Sink.taken c.args.out.now) (g.S.Sink.taken c.write_lines.new.out)
    c.deref.ensures.value c.in-Ok.ensures.told c.in-Err.ensures.front

pub returns-in-Ok-clause-pieces : goal.returns-in-Ok-clause-pieces
returns-in-Ok-clause-pieces g c =
    vain_told (g.T.Tree.files c.args.tree.now) (map (string_bytes {Z = Global}) c.args.words.now) c.in-Ok.field-0 c.deref.result.now (g.S.Sink.handed c.args.out.now) (g.S.Sink.handed c.write_lines.new.out)
    c.deref.ensures.value c.in-Ok.ensures.told c.in-Err.ensures.pieces_front

pub returns-in-Ok-clause-calls : goal.returns-in-Ok-clause-calls
returns-in-Ok-clause-calls g c =
    run_quiet (map (string_bytes {Z = Global}) c.args.words.now) (g.T.Tree.files c.args.tree.now) (g.T.Tree.called c.args.tree.now) (g.T.Tree.called c.judge.new.tree)
    (is_report c.in-Ok.field-0.status) c.in-Ok.ensures.calls

pub returns-in-Ok-write_lines-clause-sampled : goal.returns-in-Ok-write_lines-clause-sampled
returns-in-Ok-write_lines-clause-sampled g c = λ sample.
    written_told (Some []) (map (string_bytes {Z = Global}) c.args.words.now) c.in-Ok.field-0 c.deref.result.now (g.S.Sink.taken c.args.out.now) (g.S.Sink.taken c.write_lines.new.out)
    c.deref.ensures.value c.in-Ok.ensures.reported (c.in-Ok.ensures.sampled sample) c.in-Ok-write_lines.ensures.all

pub returns-in-Ok-clause-sampled : goal.returns-in-Ok-clause-sampled
returns-in-Ok-clause-sampled g c = λ sample.
    front_told (Some []) (map (string_bytes {Z = Global}) c.args.words.now) c.in-Ok.field-0 c.deref.result.now (g.S.Sink.taken c.args.out.now) (g.S.Sink.taken c.write_lines.new.out)
    c.deref.ensures.value (c.in-Ok.ensures.sampled sample) c.in-Err.ensures.front
