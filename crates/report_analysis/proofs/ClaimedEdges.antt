-- The path edges by which a later stage proves a site safe are those of all methods of the folder.
use Rattle.std.proofs.Common.{◌≡◌, ◌∙◌, ◌↔◌, ◌≤◌, ℕ, List, Contains, Some, refl, sym, subst, arith}
use Rattle.std.specs.List.{slice_get}
use Rattle.std.proofs.lemmas.List.Elements.{All-contains}
use Rattle.std.proofs.lemmas.Option.{same_Some}
use Rattle.jvm_model.specs.declared.number.SiteNo.{SiteNo}
use Rattle.jvm_model.specs.declared.site.Site.{Site}
use Rattle.machine_bytecode.specs.Objects.{Subject}
use Rattle.least_sets.specs.Rules.{IsDerivable}
use Rattle.least_sets.proofs.Derivations.{derivable_in_closed}
use Rattle.points_to_rules.specs.WholeMethods.{AreWholeMethods}
use Rattle.ground.specs.Findings.{Findings, gives_listed}
use Rattle.lowering_supply.specs.Supplied.{IsSupplied}
use Rattle.prune_stage.specs.Pruning.{IsPruned}
use Rattle.site_report.specs.declared.tracked_site.TrackedSite.{TrackedSite}
use Rattle.site_report.specs.declared.verdict.Verdict.TheVariants.{Safe}
use Rattle.site_report.specs.Sites.{site_in}
use Rattle.stage_transfer.specs.Settings.{Setting}
use Rattle.stage_edges.specs.Edges.{StageInstance}
use Rattle.stage_edges.specs.Rules.{Edge}
use Rattle.report_spec.specs.Verdicts.{IsVerdict, by_events}
use Rattle.stage_answers.proofs.Listed.{listed_edge}
use Rattle.stage_verdicts.specs.declared.asked.LaterStages.{LaterStages}
use Rattle.stage_verdicts.specs.LaterVerdicts.{AreEdgesAt as AreListedEdges, IsSafeBy, IsSubjectOf}
use Rattle.stage_verdicts.proofs.Judged.{setting_here, setting_is}
use Rattle.report_analysis.specs.Analyses.{IsAnalysis}
use Rattle.report_analysis.specs.Claims.{AreEdgesAt}
use Rattle.report_analysis.specs.Judging.{asked_in}
use Rattle.report_analysis.specs.Later.{subject_in}
use Rattle.report_analysis.proofs.Agreeing.{pruned_over}
use Rattle.report_analysis.proofs.ListedVerdicts.{safe_back, to_listed}
use Rattle.report_analysis.proofs.Tracing.{subject_same}

module _ (a : LaterStages) (limit : ℕ) (analysis : IsAnalysis a.ground.now.program (IsSupplied a.ground.now.program) a.entry limit a.ground.now)
    (whole : AreWholeMethods a.ground.now.program (IsSupplied a.ground.now.program)) where
  abbrev g : Findings
  g = a.ground.now

  abbrev x : Subject
  x = subject_in a

  -- ---- the site is safe by the listed methods

  module _ (t : TrackedSite) (stage : ℕ) (verdict : IsVerdict x (IsSupplied x.program) (Contains g.facts) (asked_in a) t (Safe stage)) (later : 2 ≤ stage) where
    abbrev s : Site
    s = site_in g.program t

    safe_here : IsSafeBy a x s stage
    safe_here = safe_back x limit g analysis whole (asked_in a) s stage verdict.within verdict.has

    pub safe_listed : (number : SiteNo) → slice_get g.sites number.0 ≡ Some s → (y : Subject) (other : Site) → IsSubjectOf a y → slice_get g.sites number.0 ≡ Some other
        → IsSafeBy a y other stage
    safe_listed number stands y other subject at =
        subst (λ (z : Subject). IsSafeBy a z other stage) (subject_same a y subject)
        (subst (λ (o : Site). IsSafeBy a x o stage) (same_Some s other (sym stands ∙ at)) safe_here)

    -- no earlier stage proves it safe, so some event may occur at its objects
    pub never_pruned : IsPruned (gives_listed g.methods) (Contains g.facts) a.automaton.now s → ⊥
    never_pruned pruned =
        verdict.none_earlier 1 (omega arith) (omega (arith, later))
        (by_events refl (pruned_over g.program (Contains g.facts) (IsSupplied g.program) (gives_listed g.methods) (to_listed x limit g analysis whole) a.automaton.now s pruned))

  -- ---- its edges

  module _ (s : Site) (stage : ℕ) (from : 2 ≤ stage) (up_to : stage ≤ 4) (edges : List Edge) (are : AreListedEdges a x s stage edges) where
    listed : (setting : Setting) (e : Edge) → IsDerivable (StageInstance x (gives_listed g.methods) (Contains g.facts) setting) e
        ↔ IsDerivable (StageInstance x (IsSupplied x.program) (Contains g.facts) setting) e
    listed setting e = listed_edge x g.facts g.methods setting 0 analysis.least.closed (λ l there. (analysis.listed.only l there).1) analysis.listed.all e

    pub edges_of_folder : AreEdgesAt x (IsSupplied x.program) (Contains g.facts) a.depth s stage edges
    edges_of_folder = record {
      each = λ e. (
        λ there.
            let setting = setting_here a x s stage in
            let own = setting_is a x s stage from up_to in
            let all = (are setting own.is own.of).least.derivable in
            record {
              setting = setting;
              of_stage = own.is;
              of_facts = own.of;
              derivable = (listed setting e).0
                  (All-contains (IsDerivable (StageInstance x (gives_listed g.methods) (Contains g.facts) setting)) edges e all there);
            },
        λ at.
            derivable_in_closed (StageInstance x (gives_listed g.methods) (Contains g.facts) at.setting) (Contains edges) e ((listed at.setting e).1 at.derivable)
            (are at.setting at.of_stage at.of_facts).least.closed,
      );
    }
