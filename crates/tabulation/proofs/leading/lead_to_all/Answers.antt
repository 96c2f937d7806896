use Rattle.std.proofs.Common.{take, subst}
use Rattle.std.proofs.lemmas.List.Elements.{All-more, All-weaker}
use Rattle.list_laws.proofs.Members.{all_from_front}
use Rattle.tabulation_tables.specs.Lists.{lists_of}
use Rattle.tabulation.specs.Kept.{LeadsToConclusion}
use Rattle.tabulation.proofs.Steps.{concludes_still, of_method_still, read_there, stay_more, step_more, to_conclusion_still}
use Rattle.tabulation.proofs.leading.lead_to_all.Goals as goal

pub lead_to_conclusion-requires-clause-kept : goal.lead_to_conclusion-requires-clause-kept
lead_to_conclusion-requires-clause-kept c = c.loop-conclusion.invariant.step.kept

pub lead_to_conclusion-requires-clause-of_method : goal.lead_to_conclusion-requires-clause-of_method
lead_to_conclusion-requires-clause-of_method c =
    of_method_still c.args.work.question.now (lists_of c.args.tables.now) (lists_of c.loop-conclusion.tables) c.loop-conclusion.invariant.step.grows c.args.premise.end c.args.premise.method c.requires.of_method

pub lead_to_conclusion-requires-clause-concludes : goal.lead_to_conclusion-requires-clause-concludes
lead_to_conclusion-requires-clause-concludes c =
    let one = c.conclusion-item.result in
    concludes_still c.args.work.question.now (lists_of c.args.tables.now) (lists_of c.loop-conclusion.tables) c.loop-conclusion.invariant.step.grows c.requires.kept.right.shape c.args.premise one
    (c.requires.conclude one (read_there c.args.conclusions.now c.loop-conclusion.conclusion-index one c.loop-conclusion-test.true c.conclusion-item.is))

pub loop-conclusion-preserved : goal.loop-conclusion-preserved
loop-conclusion-preserved c =
    let q = c.args.work.question.now in
    let all = c.args.conclusions.now in
    let first = lists_of c.args.tables.now in
    let old = lists_of c.loop-conclusion.tables in
    let new = lists_of c.lead_to_conclusion.new.tables in
    let before = c.loop-conclusion.invariant in
    let done = c.in_ok-lead_to_conclusion.ensures in
    record {
      step = step_more q first old new before.step done.step;
      stay = stay_more first old new before.stay done.stay;
      lead =
          All-more (LeadsToConclusion new c.args.premise.end c.args.premise.method) all c.loop-conclusion.conclusion-index c.conclusion-item.result c.loop-conclusion-test.true
          (All-weaker (LeadsToConclusion old c.args.premise.end c.args.premise.method) (LeadsToConclusion new c.args.premise.end c.args.premise.method)
          (λ d was. to_conclusion_still q old new done.step.grows c.args.premise.end c.args.premise.method d was) (take c.loop-conclusion.conclusion-index all) before.lead)
          (subst (LeadsToConclusion new c.args.premise.end c.args.premise.method) c.conclusion-item.is done.leads);
    }

pub returns-clause-lead : goal.returns-clause-lead
returns-clause-lead c =
    all_from_front (LeadsToConclusion (lists_of c.loop-conclusion.tables) c.args.premise.end c.args.premise.method) c.args.conclusions.now c.loop-conclusion.conclusion-index c.loop-conclusion-test.false
    c.loop-conclusion.invariant.lead
