-- From tracked sites with their verdicts to the report that tells these.
use Rattle.std.proofs.Common.{◌↔◌, ℕ, Bool, List, [], ◌∷◌, refl, sym, subst}
use Rattle.std.specs.Prelude.{zip, All, IsTrue}
use Rattle.std.specs.List.{AllByRecursion, AllZip}
use Rattle.std.proofs.lemmas.List.Elements.{All-from_recursion}
use Rattle.flow_graph.proofs.Effects.{zip_length}
use Rattle.machine_bytecode.specs.Objects.{Subject}
use Rattle.op_model.specs.Supplies.{GivenAs}
use Rattle.points_to_rules.specs.Facts.{Fact}
use Rattle.site_report.specs.declared.tracked_site.TrackedSite.{TrackedSite}
use Rattle.site_report.specs.declared.verdict.Verdict.{Verdict}
use Rattle.report_spec.specs.Reports.{IsReport, is_safe, report_lines}
use Rattle.report_spec.specs.Tracked.{AreTracked}
use Rattle.report_spec.specs.Verdicts.{Asked, IsVerdict}
use Rattle.report_analysis.proofs.FoundLines.{all_safe_as, found_sites}

module _ (x : Subject) (gives : GivenAs) (S : Fact → Type 0) (w : Asked) where
  -- the pairs of sites and verdicts have what the two lists have
  all_pairs : (sites : List TrackedSite) (verdicts : List Verdict) → AllZip (IsVerdict x gives S w) sites verdicts
      → AllByRecursion (λ (f : TrackedSite × Verdict). IsVerdict x gives S w f.0 f.1) (zip sites verdicts)
  all_pairs [] verdicts all = tt
  all_pairs (t ∷ sites) [] all = tt
  all_pairs (t ∷ sites) (v ∷ verdicts) all = (all.0, all_pairs sites verdicts all.1)

  pub judged_report : (sites : List TrackedSite) (verdicts : List Verdict) → AreTracked x.program gives S x.property.class_name sites
      → AllZip (IsVerdict x gives S w) sites verdicts → (all_safe : Bool) → (IsTrue all_safe ↔ All (λ (v : Verdict). IsTrue (is_safe v)) verdicts)
      → (plain : List (List ℕ)) × IsReport x gives S w plain all_safe
  judged_report sites verdicts tracked are all_safe safe =
      let long = zip_length (IsVerdict x gives S w) sites verdicts are in
      let both = all_safe_as sites verdicts long in
      let found = zip sites verdicts in (
        report_lines x.program found,
        record {
          found = found;
          tracked = subst (AreTracked x.program gives S x.property.class_name) (sym (found_sites sites verdicts long)) tracked;
          verdicts = All-from_recursion (λ (f : TrackedSite × Verdict). IsVerdict x gives S w f.0 f.1) found (all_pairs sites verdicts are);
          lines_are = refl;
          safe = ((λ yes. both.0 (safe.0 yes)), (λ all. safe.1 (both.1 all)));
        },
      )
