use Rattle.std.proofs.Common.{◌≡◌, ◌≤◌, ℕ, Option, Contains, arith, subst}
use Rattle.std.specs.List.{slice_get}
use Rattle.std.specs.Prelude.{Some}
use Rattle.std.proofs.lemmas.Result.{IfOk-weaker}
use Rattle.jvm_model.specs.declared.number.SiteNo.{SiteNo}
use Rattle.jvm_model.specs.declared.site.Site.{Site}
use Rattle.machine_bytecode.specs.Objects.{Subject}
use Rattle.lowering_supply.specs.Supplied.{IsSupplied}
use Rattle.site_report.specs.Sites.{site_in}
use Rattle.stage_verdicts.specs.declared.asked.LaterStages.{LaterStages}
use Rattle.stage_verdicts.specs.LaterVerdicts.{AreEdgesAt as AreListedEdges, IsSubjectOf}
use Rattle.report_analysis.specs.Claims.{AreEdgesAt}
use Rattle.report_analysis.specs.Later.{subject_in}
use Rattle.report_analysis.specs.Numbers.{IsNumberOf}
use Rattle.report_analysis.proofs.ClaimedEdges.{edges_of_folder, never_pruned, safe_listed}
use Rattle.report_analysis.proofs.StageVerdicts.{unheld_is_pruned}
use Rattle.report_analysis.proofs.Tracing.{subject_of_own}
use Rattle.report_analysis.proofs.claims.claimed_edges.Goals as goal

pub safe_edges-requires-clause-four : goal.safe_edges-requires-clause-four
safe_edges-requires-clause-four c = let within = c.requires.verdict.within in let stages = c.requires.asked.stages in omega (arith, within, stages)

pub safe_edges-requires-clause-safe : goal.safe_edges-requires-clause-safe
safe_edges-requires-clause-safe c = λ y other subject at.
    let g = c.args.ground.now in
    let a : LaterStages = record { ground = c.args.ground; entry = c.args.asked.entry; automaton = c.args.automaton; stages = c.args.asked.stages; depth = c.args.asked.depth; limit = c.args.asked.fact_limit } in
    let (limit, analysis) = c.requires.analysis in
    let whole = c.supplied_methods_are_whole.ensures g.program in
    let s = site_in g.program c.args.safe.site in
    let stands = subst (λ (o : Option SiteNo). IsNumberOf g s o) c.in-Some.is c.requires.number in
    safe_listed a limit analysis whole c.args.safe.site c.args.safe.stage c.requires.verdict c.requires.later c.in-Some.number stands y other subject at

pub unreachable-requires : goal.unreachable-requires
unreachable-requires c =
    let g = c.args.ground.now in
    let a : LaterStages = record { ground = c.args.ground; entry = c.args.asked.entry; automaton = c.args.automaton; stages = c.args.asked.stages; depth = c.args.asked.depth; limit = c.args.asked.fact_limit } in
    let (limit, analysis) = c.requires.analysis in
    let whole = c.supplied_methods_are_whole.ensures g.program in
    let s = site_in g.program c.args.safe.site in
    let nowhere = subst (λ (o : Option SiteNo). IsNumberOf g s o) c.in-None.is c.requires.number in
    never_pruned a limit analysis whole c.args.safe.site c.args.safe.stage c.requires.verdict c.requires.later
    (unheld_is_pruned g c.args.automaton.now c.requires.automaton c.well_formed-in-None.ensures.held s nowhere)

pub returns : goal.returns
returns c =
    let g = c.args.ground.now in
    let a : LaterStages = record { ground = c.args.ground; entry = c.args.asked.entry; automaton = c.args.automaton; stages = c.args.asked.stages; depth = c.args.asked.depth; limit = c.args.asked.fact_limit } in
    let (limit, analysis) = c.requires.analysis in
    let whole = c.supplied_methods_are_whole.ensures g.program in
    let s = site_in g.program c.args.safe.site in
    let stage = c.args.safe.stage in
    let stands = subst (λ (o : Option SiteNo). IsNumberOf g s o) c.in-Some.is c.requires.number in
    let up_to : stage ≤ 4 = (let within = c.requires.verdict.within in let stages = c.requires.asked.stages in omega (arith, within, stages)) in
    IfOk-weaker c.safe_edges.result
    (λ found. (y : Subject) (other : Site) → IsSubjectOf a y → slice_get g.sites c.in-Some.number.0 ≡ Some other → AreListedEdges a y other stage found.edges)
    (λ found. AreEdgesAt (subject_in a) (IsSupplied g.program) (Contains g.facts) c.args.asked.depth s stage found.edges)
    (λ found told. edges_of_folder a limit analysis whole s stage c.requires.later up_to found.edges (told (subject_in a) s (subject_of_own a) stands))
    c.safe_edges.ensures
