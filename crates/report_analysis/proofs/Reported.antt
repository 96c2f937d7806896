-- From an analysis and what is found on its ground to the report.
use Rattle.std.proofs.Common.{◌≡◌, ◌∙◌, ℕ, Bool, List, [], ◌∷◌, ◌++◌, append-nil, length, map, Contains, refl, sym, ap, subst, arith}
use Rattle.std.specs.List.{AllByRecursion, AllZip, flat_map}
use Rattle.std.specs.declared.vec.Vec.{Vec}
use Rattle.std.specs.declared.alloc.Global.{Global}
use Rattle.std.proofs.lemmas.Grind.{flat_map-append}
use Rattle.std.proofs.lemmas.List.Folds.{flat_map-map}
use Rattle.std.proofs.lemmas.Slice.Zip.{length-zip}
use Rattle.std.specs.Prelude.{zip}
use Rattle.std.proofs.lemmas.List.Elements.{All-from_recursion}
use Rattle.flow_graph.proofs.Effects.{zip_length}
use Rattle.machine_bytecode.specs.Objects.{Subject}
use Rattle.op_model.specs.Supplies.{GivenAs}
use Rattle.points_to_rules.specs.WholeMethods.{AreWholeMethods}
use Rattle.ground.specs.Findings.{Findings, gives_listed}
use Rattle.report_analysis.specs.Analyses.{IsAnalysis}
use Rattle.lowering_supply.specs.Supplied.{IsSupplied}
use Rattle.site_report.specs.declared.tracked_site.TrackedSite.{TrackedSite}
use Rattle.site_report.specs.declared.verdict.Verdict.{Verdict}
use Rattle.site_report.specs.Sites.{IsKnownSite, site_in}
use Rattle.report_spec.specs.Tracked.{AreTracked}
use Rattle.stage_edges.specs.Rules.{Edge}
use Rattle.report_spec.specs.Reports.{line_of, report_lines, summary_of}
use Rattle.report_spec.specs.Traces.{IsTrace, site_lines, trace_line, traced_lines}
use Rattle.report_spec.specs.Verdicts.{Asked, IsVerdict}
use Rattle.report_analysis.specs.declared.verdicts.Judged.{Judged}
use Rattle.report_analysis.specs.Judging.{AreJudged, IsToldBelow}
use Rattle.report_analysis.specs.Texts.{IsReportText, text_of}
use Rattle.report_analysis.specs.Written.{IsWritten, site_text}
use Rattle.report_analysis.proofs.Agreeing.{tracked_both}
use Rattle.report_analysis.proofs.FoundLines.{all_safe_as, found_sites}
use Rattle.report_analysis.proofs.KnownSites.{site_in_program}
use Rattle.report_analysis.proofs.ListedVerdicts.{to_listed, to_supplied, trace_of_folder, verdict_of_folder}

module _ (x : Subject) (limit : ℕ) (g : Findings) (analysis : IsAnalysis x.program (IsSupplied x.program) (record { 0 = x.entry }) limit g)
    (whole : AreWholeMethods x.program (IsSupplied x.program)) where
  abbrev Here : GivenAs
  Here = gives_listed g.methods

  -- ---- sites

  pub tracked_in : (upper : List ℕ) (sites : List TrackedSite) → AreTracked x.program Here (Contains g.facts) upper sites
      → AreTracked x.program (IsSupplied x.program) (Contains g.facts) upper sites
  tracked_in = tracked_both x.program (Contains g.facts) Here (IsSupplied x.program) (to_supplied x limit g analysis whole) (to_listed x limit g analysis whole)

  pub sites_are_known : (upper : List ℕ) (sites : List TrackedSite) → AreTracked x.program Here (Contains g.facts) upper sites
      → (t : TrackedSite) → Contains sites t → IsKnownSite x.program t
  sites_are_known upper sites are t there =
      let tracked = ((tracked_in upper sites are).those t).0 there in
      record { class = tracked.known; method = site_in_program x.program (Contains g.facts) (site_in x.program t) tracked.allocated }

  -- ---- verdicts

  module _ (w : Asked) where
    verdicts_are : (sites : List TrackedSite) (verdicts : List Verdict) → AllZip (IsVerdict x Here (Contains g.facts) w) sites verdicts
        → AllByRecursion (λ (f : TrackedSite × Verdict). IsVerdict x (IsSupplied x.program) (Contains g.facts) w f.0 f.1) (zip sites verdicts)
    verdicts_are [] verdicts all = tt
    verdicts_are (t ∷ sites) [] all = tt
    verdicts_are (t ∷ sites) (v ∷ verdicts) all = (verdict_of_folder x limit g analysis whole w t v all.0, verdicts_are sites verdicts all.1)

    pub verdicts_both : (sites : List TrackedSite) (verdicts : List Verdict) → AllZip (IsVerdict x Here (Contains g.facts) w) sites verdicts
        → AllZip (IsVerdict x (IsSupplied x.program) (Contains g.facts) w) sites verdicts
    verdicts_both [] [] all = tt
    verdicts_both [] (v ∷ verdicts) all = absurd all
    verdicts_both (t ∷ sites) [] all = absurd all
    verdicts_both (t ∷ sites) (v ∷ verdicts) all = (verdict_of_folder x limit g analysis whole w t v all.0, verdicts_both sites verdicts all.1)

    -- ---- what is told below the lines

    told_lines : (trace : Bool) (found : List (TrackedSite × Verdict)) (traces : List (Vec ℕ Global)) → AllZip (IsToldBelow x Here (Contains g.facts) w trace) found traces
        → (edges : List (List Edge)) × AllZip (IsTrace x (IsSupplied x.program) (Contains g.facts) w trace) found edges
        × (flat_map (site_text x.program) (zip found traces) ≡ text_of (flat_map (site_lines x.program w.stages) (zip found edges)))
    told_lines trace [] [] all = ([], tt, refl)
    told_lines trace [] (t ∷ traces) all = absurd all
    told_lines trace (f ∷ found) [] all = absurd all
    told_lines trace (f ∷ found) (t ∷ traces) all =
        let here = all.0 in
        let (edges, told, is) = told_lines trace found traces all.1 in
        let line = line_of x.program f in
        let own = trace_line w.stages (site_in x.program f.0) in
        let lines = flat_map (site_lines x.program w.stages) (zip found edges) in
        let below : t.items ≡ text_of (map own here.edges) = here.text_is ∙ sym (flat_map-map (λ (l : List ℕ). l) own here.edges) in
        let one : site_text x.program (f, t) ≡ text_of (line ∷ map own here.edges) = ap (λ (xs : List ℕ). line ++ xs) below in (
          here.edges ∷ edges,
          (trace_of_folder x limit g analysis whole w trace f here.edges here.told, told),
          (λ i. one i ++ is i) ∙ sym (flat_map-append (λ (l : List ℕ). l) (line ∷ map own here.edges) lines),
        )

    module _ (trace : Bool) (sites : List TrackedSite) (j : Judged) (judged : AreJudged x Here (Contains g.facts) w trace sites j) where
      abbrev verdicts : List Verdict
      verdicts = j.verdicts.items

      -- the sites have as many verdicts, and as much is told of them
      pub as_many_verdicts : length verdicts ≡ length sites
      as_many_verdicts = zip_length (IsVerdict x Here (Contains g.facts) w) sites verdicts judged.verdicts

      pub as_many_traces : length j.traces.items ≡ length sites
      as_many_traces =
          let one = zip_length (IsToldBelow x Here (Contains g.facts) w trace) (zip sites verdicts) j.traces.items judged.traces in
          let other = length-zip sites verdicts in
          let long = as_many_verdicts in
          omega (arith, one, other, long)

      -- ---- the report

      pub reported : AreTracked x.program Here (Contains g.facts) x.property.class_name sites → (text : List ℕ) (all_safe : Bool)
          → IsWritten x.program sites verdicts j.traces.items text all_safe → IsReportText x (IsSupplied x.program) (Contains g.facts) w trace text all_safe
      reported are text all_safe written =
          let long = as_many_verdicts in
          let tracked = tracked_in x.property.class_name sites are in
          let safe = all_safe_as sites verdicts long in
          let found = zip sites verdicts in
          let (edges, told, is) = told_lines trace found j.traces.items judged.traces in
          let lines = flat_map (site_lines x.program w.stages) (zip found edges) in
          let last = summary_of found in
          record {
            lines = traced_lines x.program w.stages found edges;
            text_is =
                written.text_is ∙ (λ i. is i ++ last)
                ∙ (ap (λ (xs : List ℕ). text_of lines ++ xs) (sym (append-nil last)) ∙ sym (flat_map-append (λ (l : List ℕ). l) lines (last ∷ [])));
            report = record {
              plain = report_lines x.program found;
              report = record {
                found = found;
                tracked = subst (AreTracked x.program (IsSupplied x.program) (Contains g.facts) x.property.class_name) (sym (found_sites sites verdicts long)) tracked;
                verdicts = All-from_recursion (λ (f : TrackedSite × Verdict). IsVerdict x (IsSupplied x.program) (Contains g.facts) w f.0 f.1) found
                    (verdicts_are sites verdicts judged.verdicts);
                lines_are = refl;
                safe = ((λ yes. safe.0 (written.safe.0 yes)), (λ all. written.safe.1 (safe.1 all)));
              };
              traces = edges;
              told = told;
              lines_are = refl;
            };
          }
