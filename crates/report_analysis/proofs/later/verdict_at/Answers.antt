use Rattle.std.proofs.Common.{Contains, subst, Option}
use Rattle.jvm_model.specs.declared.number.SiteNo.{SiteNo}
use Rattle.ground.specs.Findings.{gives_listed}
use Rattle.report_analysis.specs.Later.{subject_in}
use Rattle.report_analysis.specs.Numbers.{IsNumberOf}
use Rattle.report_analysis.proofs.StageVerdicts.{pruned_is_safe, unheld_is_pruned}
use Rattle.report_analysis.proofs.later.verdict_at.Goals as goal

pub returns-in-None : goal.returns-in-None
returns-in-None c = λ s told numbered.
    let a = c.args.asked in
    let g = a.ground.now in
    let nowhere = subst (λ (answer : Option SiteNo). IsNumberOf g s answer) c.in-None.is numbered in
    pruned_is_safe (subject_in a) (gives_listed g.methods) (Contains g.facts) (record { stages = a.stages; depth = a.depth; fact_limit = a.limit }) c.requires.asked.some s
    (unheld_is_pruned g a.automaton.now c.requires.automaton c.well_formed-in-None.ensures.held s nowhere)
