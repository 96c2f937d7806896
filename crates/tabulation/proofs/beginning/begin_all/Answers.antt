use Rattle.std.proofs.Common.{take, subst}
use Rattle.std.proofs.lemmas.List.Elements.{All-more, All-weaker}
use Rattle.list_laws.proofs.Members.{all_from_front}
use Rattle.edge_steps.specs.declared.conclusions.EnteredWith.{EnteredWith}
use Rattle.edge_steps.specs.Steps.{begun}
use Rattle.tabulation_tables.specs.Lists.{IsBegun, lists_of}
use Rattle.tabulation_tables.proofs.Still.{begun_still}
use Rattle.tabulation.proofs.Steps.{may_begin_still, reached_still, read_there, step_more}
use Rattle.tabulation.proofs.beginning.begin_all.Goals as goal

pub begin-requires-clause-kept : goal.begin-requires-clause-kept
begin-requires-clause-kept c = c.loop-one.invariant.step.kept

pub begin-requires-clause-caller : goal.begin-requires-clause-caller
begin-requires-clause-caller c =
    reached_still c.args.work.question.now (lists_of c.args.tables.now) (lists_of c.loop-one.tables) c.loop-one.invariant.step.grows c.args.caller.by.0 c.args.caller.end c.requires.caller

pub begin-requires-clause-may : goal.begin-requires-clause-may
begin-requires-clause-may c =
    may_begin_still c.args.work.question.now (lists_of c.args.tables.now) (lists_of c.loop-one.tables) c.loop-one.invariant.step.grows c.requires.kept.right.shape c.args.caller.by.0 c.one-item.result
    (c.requires.may c.one-item.result (read_there c.args.entered.now c.loop-one.one-index c.one-item.result c.loop-one-test.true c.one-item.is))

pub loop-one-preserved : goal.loop-one-preserved
loop-one-preserved c =
    let q = c.args.work.question.now in
    let all = c.args.entered.now in
    let first = lists_of c.args.tables.now in
    let old = lists_of c.loop-one.tables in
    let new = lists_of c.begin.new.tables in
    let before = c.loop-one.invariant in
    let done = c.in_ok-begin.ensures in
    record {
      step = step_more q first old new before.step done.step;
      begun =
          All-more (λ (b : EnteredWith). IsBegun new c.args.caller.end (begun b)) all c.loop-one.one-index c.one-item.result c.loop-one-test.true
          (All-weaker (λ (b : EnteredWith). IsBegun old c.args.caller.end (begun b)) (λ (b : EnteredWith). IsBegun new c.args.caller.end (begun b))
          (λ b was. begun_still old new done.step.grows c.args.caller.end (begun b) was) (take c.loop-one.one-index all) before.begun)
          (subst (λ (b : EnteredWith). IsBegun new c.args.caller.end (begun b)) c.one-item.is done.begun);
    }

pub returns-clause-begun : goal.returns-clause-begun
returns-clause-begun c =
    all_from_front (λ (b : EnteredWith). IsBegun (lists_of c.loop-one.tables) c.args.caller.end (begun b)) c.args.entered.now c.loop-one.one-index c.loop-one-test.false c.loop-one.invariant.begun
