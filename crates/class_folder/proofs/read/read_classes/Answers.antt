use Rattle.std.proofs.Common.{◌+◌, length, drop, rules}
use Rattle.std.proofs.lemmas.Iterator.Adapters.{YieldsList-from_vec}
use Rattle.std.proofs.lemmas.Iterator.Consumers.{YieldsList-turn, YieldsList-so_far, YieldsList-end}
use Rattle.std.proofs.lemmas.Result.{err_from_is_err_and}
use Rattle.class_folder.proofs.Asking.{asks_one_more, stops_file, stops_listing}
use Rattle.class_folder.proofs.Walk.{at_turn, fails_at, reads_all, reads_one_more}
use Rattle.class_folder.proofs.read.read_classes.Goals as goal

pub returns-in_err-read_next-clause-failure : goal.returns-in_err-read_next-clause-failure
returns-in_err-read_next-clause-failure g c =
    let p = err_from_is_err_and c.from_residual-in_err-read_next.result c.from_residual-in_err-read_next.ensures.1 in
    let all = c.in_ok-names.names.items in
    let done = c.loop-name.yielded in
    let name = c.in-Some.name in
    let gives = YieldsList-from_vec {s = c.into_iter-name-iterator.result} all (search rules) (search rules) in
    let front = YieldsList-so_far gives done c.loop-name.name-iterator c.loop-name.yielded_by in
    let turn = YieldsList-turn gives done c.loop-name.name-iterator c.loop-name.yielded_by c.next.result c.next.new.self name c.in-Some.is
    c.next.ensures.steps in
    rw (p.1, p.2)
    (fails_at (g.T.Tree.files c.args.tree.now) (g.T.Tree.files c.loop-name.tree) (g.T.Tree.faults c.args.tree.now)
    (g.T.Tree.faults c.loop-name.tree) all done (drop (length done + 1) all) name
    c.loop-name.reading.classes.items c.loop-name.reading.size c.in_err-read_next.field-0.0 c.in_ok-names.ensures.listed
    (at_turn all done name front turn) c.loop-name.invariant.0 c.in_err-read_next.ensures.failure)

pub loop-name-preserved : goal.loop-name-preserved
loop-name-preserved g c = (
  reads_one_more (g.T.Tree.files c.args.tree.now) (g.T.Tree.files c.loop-name.tree) (g.T.Tree.files c.read_next.new.tree)
      (g.T.Tree.faults c.args.tree.now) (g.T.Tree.faults c.loop-name.tree) (g.T.Tree.faults c.read_next.new.tree)
      c.loop-name.yielded c.in-Some.name c.loop-name.reading.classes.items c.read_next.new.self.classes.items c.loop-name.reading.size
      c.read_next.new.self.size c.loop-name.invariant.0
      c.in_ok-read_next.ensures.read c.in_ok-read_next.ensures.sound c.in_ok-read_next.ensures.size c.read_next.ensures.same_files
      (c.read_next.ensures.no_fault (λ failed. (cc (failed, c.in_ok-read_next.was)))),
  asks_one_more (g.T.Tree.called c.args.tree.now) (g.T.Tree.called c.loop-name.tree) (g.T.Tree.called c.read_next.new.tree)
      c.loop-name.yielded c.in-Some.name c.loop-name.reading.classes.items c.read_next.new.self.classes.items c.loop-name.invariant.1
      c.in_ok-read_next.ensures.calls c.in_ok-read_next.ensures.named,
)

pub returns-clause-read : goal.returns-clause-read
returns-clause-read g c =
    let all = c.in_ok-names.names.items in
    let gives = YieldsList-from_vec {s = c.into_iter-name-iterator.result} all (search rules) (search rules) in
    let end = YieldsList-end gives c.loop-name.yielded c.loop-name.name-iterator c.loop-name.yielded_by c.next.result c.next.new.self c.in-None.is
    c.next.ensures.steps in
    reads_all (g.T.Tree.files c.args.tree.now) (g.T.Tree.files c.loop-name.tree) (g.T.Tree.faults c.args.tree.now)
    (g.T.Tree.faults c.loop-name.tree) all c.loop-name.yielded c.loop-name.reading.classes.items c.loop-name.reading.size
    c.in_ok-names.ensures.listed end.0 c.loop-name.invariant.0

pub returns-in_err-names-clause-calls_in_vain : goal.returns-in_err-names-clause-calls_in_vain
returns-in_err-names-clause-calls_in_vain g c =
    let p = err_from_is_err_and c.from_residual.result c.from_residual.ensures.1 in
    rw (p.1, p.2)
    (stops_listing (g.T.Tree.files c.args.tree.now) (g.T.Tree.called c.args.tree.now) (g.T.Tree.called c.listed.new.tree) c.in_err-names.field-0.0
    c.in_err-names.ensures.calls_in_vain)

pub returns-in_err-read_next-clause-calls_in_vain : goal.returns-in_err-read_next-clause-calls_in_vain
returns-in_err-read_next-clause-calls_in_vain g c =
    let p = err_from_is_err_and c.from_residual-in_err-read_next.result c.from_residual-in_err-read_next.ensures.1 in
    let all = c.in_ok-names.names.items in
    let done = c.loop-name.yielded in
    let name = c.in-Some.name in
    let gives = YieldsList-from_vec {s = c.into_iter-name-iterator.result} all (search rules) (search rules) in
    let front = YieldsList-so_far gives done c.loop-name.name-iterator c.loop-name.yielded_by in
    let turn = YieldsList-turn gives done c.loop-name.name-iterator c.loop-name.yielded_by c.next.result c.next.new.self name c.in-Some.is
    c.next.ensures.steps in
    rw (p.1, p.2)
    (stops_file (g.T.Tree.files c.args.tree.now) (g.T.Tree.called c.args.tree.now) (g.T.Tree.called c.loop-name.tree) (g.T.Tree.called c.read_next.new.tree)
    all done (drop (length done + 1) all) name c.loop-name.reading.classes.items c.in_err-read_next.field-0.0 c.in_ok-names.ensures.listed
    (at_turn all done name front turn) c.loop-name.invariant.1 c.in_err-read_next.ensures.calls_in_vain)
