-- By the facts of an analysis, a site has one verdict by the listed methods and by those of the folder.
use Rattle.std.proofs.Common.{◌≤◌, ℕ, Bool, true, false, List, Contains, Ok}
use Rattle.jvm_model.specs.declared.site.Site.{Site}
use Rattle.machine_bytecode.specs.Objects.{Subject}
use Rattle.op_model.specs.declared.lowered.LoweredMethod.{LoweredMethod}
use Rattle.op_model.specs.Supplies.{GivenAs}
use Rattle.points_to_rules.specs.WholeMethods.{AreWholeMethods}
use Rattle.ground.specs.Findings.{Findings, gives_listed}
use Rattle.lowering_supply.specs.Supplied.{IsSupplied}
use Rattle.site_report.specs.declared.tracked_site.TrackedSite.{TrackedSite}
use Rattle.site_report.specs.declared.verdict.Verdict.{Verdict}
use Rattle.site_report.specs.Sites.{site_in}
use Rattle.report_spec.specs.Verdicts.{Asked, AtLimitBy, IsVerdict, SafeBy, by_events, by_edges, of_edges}
use Rattle.report_spec.proofs.FirstStages.{verdict_over}
use Rattle.stage_edges.specs.Rules.{Edge}
use Rattle.report_spec.specs.Traces.{IsTrace, IsTraceIf, has_trace}
use Rattle.stage_answers.proofs.Listed.{listed_error, listed_limit, listed_safe}
use Rattle.report_analysis.specs.Analyses.{IsAnalysis}
use Rattle.report_analysis.proofs.Agreeing.{GivesNodes, given_is_listed, listed_is_given, pruned_over}

module _ (x : Subject) (limit : ℕ) (g : Findings) (analysis : IsAnalysis x.program (IsSupplied x.program) (record { 0 = x.entry }) limit g)
    (whole : AreWholeMethods x.program (IsSupplied x.program)) where
  abbrev pub Listed : GivenAs
  Listed = gives_listed g.methods

  pub to_supplied : GivesNodes (Contains g.facts) Listed (IsSupplied x.program)
  to_supplied = listed_is_given (IsSupplied x.program) (Contains g.facts) g.methods analysis.listed

  pub to_listed : GivesNodes (Contains g.facts) (IsSupplied x.program) Listed
  to_listed = given_is_listed (IsSupplied x.program) (Contains g.facts) g.methods analysis.listed (λ number l given. (whole number l given).number_is)

  only : (l : LoweredMethod) → Contains g.methods l → IsSupplied x.program l.method.0 (Ok l)
  only l there = (analysis.listed.only l there).1

  module _ (w : Asked) (s : Site) where
    -- What a stage finds of the site, by one supplier.
    abbrev SafeAs : GivenAs → ℕ → Type 0
    SafeAs gives = SafeBy x gives (Contains g.facts) w.depth w.fact_limit s

    abbrev LimitAs : GivenAs → ℕ → Type 0
    LimitAs gives = AtLimitBy x gives (Contains g.facts) w.depth w.fact_limit s

    safe_there : (stage : ℕ) → stage ≤ w.stages → SafeAs Listed stage → SafeAs (IsSupplied x.program) stage
    safe_there stage within (by_events is pruned) =
        by_events is (pruned_over x.program (Contains g.facts) (IsSupplied x.program) Listed to_listed x.property s pruned)
    safe_there stage within (by_edges setting of below) =
        by_edges setting of ((listed_safe x g.facts g.methods setting w.fact_limit analysis.least.closed only analysis.listed.all).0 below)

    pub safe_back : (stage : ℕ) → stage ≤ w.stages → SafeAs (IsSupplied x.program) stage → SafeAs Listed stage
    safe_back stage within (by_events is pruned) =
        by_events is (pruned_over x.program (Contains g.facts) Listed (IsSupplied x.program) to_supplied x.property s pruned)
    safe_back stage within (by_edges setting of below) =
        by_edges setting of ((listed_safe x g.facts g.methods setting w.fact_limit analysis.least.closed only analysis.listed.all).1 below)

    limit_there : (stage : ℕ) → stage ≤ w.stages → LimitAs Listed stage → LimitAs (IsSupplied x.program) stage
    limit_there stage within (of_edges setting of many) =
        of_edges setting of ((listed_limit x g.facts g.methods setting w.fact_limit analysis.least.closed only analysis.listed.all).0 many)

    limit_back : (stage : ℕ) → stage ≤ w.stages → LimitAs (IsSupplied x.program) stage → LimitAs Listed stage
    limit_back stage within (of_edges setting of many) =
        of_edges setting of ((listed_limit x g.facts g.methods setting w.fact_limit analysis.least.closed only analysis.listed.all).1 many)

  pub verdict_of_folder : (w : Asked) (t : TrackedSite) (v : Verdict) → IsVerdict x Listed (Contains g.facts) w t v → IsVerdict x (IsSupplied x.program) (Contains g.facts) w t v
  verdict_of_folder w t v is =
      let s = site_in x.program t in
      verdict_over (SafeAs w s Listed) (SafeAs w s (IsSupplied x.program)) (LimitAs w s Listed) (LimitAs w s (IsSupplied x.program)) w.stages
      (safe_there w s) (safe_back w s) (limit_there w s) (limit_back w s) v is

  -- what is told of a site by the listed methods is told by those of the folder
  pub trace_of_folder : (w : Asked) (trace : Bool) (f : TrackedSite × Verdict) (edges : List Edge) → IsTrace x Listed (Contains g.facts) w trace f edges
      → IsTrace x (IsSupplied x.program) (Contains g.facts) w trace f edges
  trace_of_folder w trace f edges is = by (has_trace trace w.stages f.1) is
    where
      by : (told : Bool) → IsTraceIf x Listed (Contains g.facts) w (site_in x.program f.0) told edges
          → IsTraceIf x (IsSupplied x.program) (Contains g.facts) w (site_in x.program f.0) told edges
      by true d = record {
        setting = d.setting;
        of_stage = d.of_stage;
        of_error = listed_error x g.facts g.methods d.setting w.fact_limit analysis.least.closed only analysis.listed.all edges d.of_error;
      }
      by false none = none
