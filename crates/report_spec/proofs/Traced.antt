-- A report with derivations: without them it is the report alone; what holds of its lines; and that it is the same by facts that are the same.
use Rattle.std.proofs.Common.{◌≡◌, ◌∙◌, ℕ, Bool, true, false, ◌&&◌, List, [], ◌∷◌, ◌++◌, map, All, Contains, refl, sym, ap, subst, inl, inr, arith}
use Rattle.std.specs.List.{AllByRecursion, AllZip, flat_map}
use Rattle.std.specs.Prelude.{zip}
use Rattle.std.proofs.lemmas.List.Elements.{All-append, All-cons, All-head, All-nil, All-tail, Contains-append_left, Contains-append_right}
use Rattle.list_laws.proofs.Zips.{zip_weaker}
use Rattle.jvm_model.specs.declared.site.Site.{Site}
use Rattle.jvm_model.specs.Programs.{Program}
use Rattle.machine_bytecode.specs.Objects.{Subject}
use Rattle.least_sets.proofs.Places.{first, first_or_later, later, nothing_in}
use Rattle.op_model.specs.Supplies.{GivenAs}
use Rattle.points_to_rules.specs.Facts.{Fact}
use Rattle.site_report.specs.declared.tracked_site.TrackedSite.{TrackedSite}
use Rattle.site_report.specs.declared.verdict.Verdict.{Verdict}
use Rattle.site_report.specs.Sites.{site_in}
use Rattle.site_report.proofs.PlainLines.{IsLine}
use Rattle.site_report.proofs.ReportLines.{summary_is_line, verdict_is_line}
use Rattle.stage_edges.specs.Rules.{Edge}
use Rattle.edge_lines.proofs.PlainEdges.{edge_is_line}
use Rattle.report_spec.specs.Reports.{IsReport, is_unproved, line_of, summary_of}
use Rattle.report_spec.specs.Traces.{IsTrace, IsTraceIf, IsTracedReport, has_trace, site_lines, trace_line, traced_lines}
use Rattle.report_spec.specs.Verdicts.{Asked}
use Rattle.report_spec.proofs.OneReport.{report_same}
use Rattle.report_spec.proofs.SameEdges.{error_over}
use Rattle.report_spec.proofs.SameFacts.{sites_into, verdicts_into}

-- ---- the lines

module _ (P : List ℕ → Type 0) (p : Program) (n : ℕ) (told : (s : Site) (e : Edge) → P (trace_line n s e)) where
  traces_all : (s : Site) (edges : List Edge) → All P (map (trace_line n s) edges)
  traces_all s [] = All-nil P
  traces_all s (e ∷ edges) = All-cons P (trace_line n s e) (map (trace_line n s) edges) (told s e) (traces_all s edges)

  sites_all : (found : List (TrackedSite × Verdict)) (traces : List (List Edge)) → All P (map (line_of p) found) → All P (flat_map (site_lines p n) (zip found traces))
  sites_all [] traces all = All-nil P
  sites_all (f ∷ found) [] all = All-nil P
  sites_all (f ∷ found) (edges ∷ traces) all =
      All-append P (site_lines p n (f, edges)) (flat_map (site_lines p n) (zip found traces))
      (All-cons P (line_of p f) (map (trace_line n (site_in p f.0)) edges) (All-head P (line_of p f) (map (line_of p) found) all) (traces_all (site_in p f.0) edges))
      (sites_all found traces (All-tail P (line_of p f) (map (line_of p) found) all))

  -- what holds of the lines of a report, and of the line of each edge, holds of all
  pub all_traced : (found : List (TrackedSite × Verdict)) (traces : List (List Edge)) → All P (map (line_of p) found) → P (summary_of found) → All P (traced_lines p n found traces)
  all_traced found traces all last =
      All-append P (flat_map (site_lines p n) (zip found traces)) (summary_of found ∷ []) (sites_all found traces all) (All-cons P (summary_of found) [] last (All-nil P))

-- each line is one
trace_is_line : (n : ℕ) (s : Site) (e : Edge) → IsLine (trace_line n s e)
trace_is_line n s e = indented (edge_is_line n s e)
  where
    indented : {line : List ℕ} → IsLine line → IsLine (32 ∷ 32 ∷ line)
    indented {line} is = record { content = 32 ∷ 32 ∷ is.content; plain = record { each = ((λ e. absurd (omega arith)), ((λ e. absurd (omega arith)), is.plain.each)) }; is = ap (λ (xs : List ℕ). 32 ∷ 32 ∷ xs) is.is }

of_all : (P : List ℕ → Type 0) (lines : List (List ℕ)) → All P lines → AllByRecursion P lines
of_all P [] all = tt
of_all P (line ∷ lines) all = (All-head P line lines all, of_all P lines (All-tail P line lines all))

pub traced_are_lines : (p : Program) (n : ℕ) (found : List (TrackedSite × Verdict)) (traces : List (List Edge)) → AllByRecursion IsLine (traced_lines p n found traces)
traced_are_lines p n found traces =
    of_all IsLine (traced_lines p n found traces) (all_traced IsLine p n (trace_is_line n) found traces (each found)
    (summary_is_line _ _ _))
  where
    each : (fs : List (TrackedSite × Verdict)) → All IsLine (map (line_of p) fs)
    each [] = All-nil IsLine
    each (f ∷ fs) = All-cons IsLine (line_of p f) (map (line_of p) fs) (verdict_is_line p f.0 f.1) (each fs)

-- the line of each site is there
pub in_traced : (R : TrackedSite × Verdict → List Edge → Type 0) (p : Program) (n : ℕ) (found : List (TrackedSite × Verdict)) (traces : List (List Edge))
    → AllZip R found traces → (line : List ℕ) → Contains (map (line_of p) found) line → Contains (traced_lines p n found traces) line
in_traced R p n found traces all line there = Contains-append_left (flat_map (site_lines p n) (zip found traces)) (summary_of found ∷ []) line (by found traces all there)
  where
    by : (fs : List (TrackedSite × Verdict)) (es : List (List Edge)) → AllZip R fs es → Contains (map (line_of p) fs) line → Contains (flat_map (site_lines p n) (zip fs es)) line
    by [] es zipped here = absurd (nothing_in line here)
    by (f ∷ fs) [] zipped here = absurd zipped
    by (f ∷ fs) (edges ∷ es) zipped here = elim (first_or_later (line_of p f) (map (line_of p) fs) line here) [
      | inl is ↦
          let own = first (line_of p f) (map (trace_line n (site_in p f.0)) edges) in
          Contains-append_left (site_lines p n (f, edges)) (flat_map (site_lines p n) (zip fs es)) line (subst (λ (l : List ℕ). Contains (site_lines p n (f, edges)) l) is own)
      | inr rest ↦ Contains-append_right (site_lines p n (f, edges)) (flat_map (site_lines p n) (zip fs es)) line (by fs es zipped.1 rest)
    ]

-- ---- without derivations

pub and_false : (b : Bool) → (b && false) ≡ false
and_false true = refl
and_false false = refl

module _ (x : Subject) (gives : GivenAs) (S : Fact → Type 0) (w : Asked) where
  untold_sites : (found : List (TrackedSite × Verdict)) (traces : List (List Edge)) → AllZip (IsTrace x gives S w false) found traces
      → flat_map (site_lines x.program w.stages) (zip found traces) ≡ map (line_of x.program) found
  untold_sites [] [] all = refl
  untold_sites [] (edges ∷ traces) all = absurd all
  untold_sites (f ∷ found) [] all = absurd all
  untold_sites (f ∷ found) (edges ∷ traces) all =
      let none : edges ≡ [] = subst (λ (b : Bool). IsTraceIf x gives S w (site_in x.program f.0) b edges) (and_false (is_unproved f.1)) all.0 in
      let rest = untold_sites found traces all.1 in
      (λ i. (line_of x.program f ∷ map (trace_line w.stages (site_in x.program f.0)) (none i)) ++ rest i)

  pub plain_report : (lines : List (List ℕ)) (all_safe : Bool) → IsTracedReport x gives S w false lines all_safe → IsReport x gives S w lines all_safe
  plain_report lines all_safe r =
      let same : lines ≡ r.plain =
      r.lines_are ∙ ap (λ (ls : List (List ℕ)). ls ++ summary_of r.report.found ∷ []) (untold_sites r.report.found r.traces r.told) ∙ sym r.report.lines_are in
      subst (λ (ls : List (List ℕ)). IsReport x gives S w ls all_safe) (sym same) r.report

-- ---- the same facts

module _ (x : Subject) (gives : GivenAs) (S T : Fact → Type 0) (to : (fact : Fact) → S fact → T fact) (back : (fact : Fact) → T fact → S fact) (w : Asked) where
  trace_into : (trace : Bool) (f : TrackedSite × Verdict) (edges : List Edge) → IsTrace x gives S w trace f edges → IsTrace x gives T w trace f edges
  trace_into trace f edges is = by (has_trace trace w.stages f.1) is
    where
      by : (told : Bool) → IsTraceIf x gives S w (site_in x.program f.0) told edges → IsTraceIf x gives T w (site_in x.program f.0) told edges
      by true d = record { setting = d.setting; of_stage = d.of_stage; of_error = error_over x gives S T to back d.setting edges d.of_error }
      by false none = none

  pub traced_into : (trace : Bool) (lines : List (List ℕ)) (all_safe : Bool) → IsTracedReport x gives S w trace lines all_safe → IsTracedReport x gives T w trace lines all_safe
  traced_into trace lines all_safe r = record {
    plain = r.plain;
    report = record {
      found = r.report.found;
      tracked = sites_into x gives S T to back x.property.class_name (map (λ (f : TrackedSite × Verdict). f.0) r.report.found) r.report.tracked;
      verdicts = verdicts_into x gives S T to back w r.report.found r.report.verdicts;
      lines_are = r.report.lines_are;
      safe = r.report.safe;
    };
    traces = r.traces;
    told = zip_weaker (IsTrace x gives S w trace) (IsTrace x gives T w trace) (trace_into trace) r.report.found r.traces r.told;
    lines_are = r.lines_are;
  }

-- by the same facts all sites are safe, or not; and where no derivation is asked for, the lines are the same
module _ (x : Subject) (gives : GivenAs) (w : Asked) (S T : Fact → Type 0) (to : (fact : Fact) → S fact → T fact) (back : (fact : Fact) → T fact → S fact) where
  pub safe_same : (trace : Bool) (l m : List (List ℕ)) (a b : Bool) → IsTracedReport x gives S w trace l a → IsTracedReport x gives T w trace m b → a ≡ b
  safe_same trace l m a b r q = (report_same x gives w S T to back r.plain q.plain a b r.report q.report).1

  pub lines_same : (trace : Bool) → trace ≡ false → (l m : List (List ℕ)) (a b : Bool) → IsTracedReport x gives S w trace l a → IsTracedReport x gives T w trace m b → l ≡ m
  lines_same trace none l m a b r q =
      let one = plain_report x gives S w l a (subst (λ (t : Bool). IsTracedReport x gives S w t l a) none r) in
      let other = plain_report x gives T w m b (subst (λ (t : Bool). IsTracedReport x gives T w t m b) none q) in
      (report_same x gives w S T to back l m a b one other).0
