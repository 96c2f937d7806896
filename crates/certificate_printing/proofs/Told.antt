-- The lines that are collected are those that are told.
use Rattle.std.proofs.Common.{◌≡◌, ◌↔◌, ◌∙◌, ◌⊎◌, inl, inr, List, [], length, Contains, Some, refl, sym, ap, subst}
use Rattle.std.specs.List.{slice_get}
use Rattle.std.proofs.lemmas.Option.{same_Some, slice_get_within}
use Rattle.list_laws.proofs.Places.{contains_at, place_of}
use Rattle.list_laws.proofs.Zips.{zip_at}
use Rattle.jvm_model.specs.declared.number.MethodNo.{MethodNo}
use Rattle.jvm_model.specs.declared.site.Site.{Site}
use Rattle.least_sets.specs.Rules.{IsDerivable}
use Rattle.points_to_rules.specs.Facts as facts
use Rattle.ground.specs.Added.{AreAdded, OfOne}
use Rattle.ground.specs.declared.lists.FieldWrite.{FieldWrite}
use Rattle.ground.specs.Findings.{Findings}
use Rattle.ground.proofs.Adding.{added_alone, added_both}
use Rattle.site_report.specs.declared.tracked_site.TrackedSite.{TrackedSite}
use Rattle.site_report.specs.declared.verdict.Verdict.{Verdict}
use Rattle.site_report.specs.declared.verdict.Verdict.TheVariants.{Safe, Unproved, Limit}
use Rattle.stage_facts.specs.declared.plain.PlainFact.{PlainFact}
use Rattle.stage_facts.specs.declared.plain.PlainFact.TheVariants.{NoneYet, SomeYet, OfObject}
use Rattle.stage_facts.specs.Facts.{SiteFact, none_yet, some_yet, of_object}
use Rattle.stage_facts.specs.Plain.{fact_of}
use Rattle.stage_edges.specs.Edges.{StageInstance}
use Rattle.stage_edges.specs.Rules.{Edge}
use Rattle.report_spec.specs.Tracked.{IsTracked}
use Rattle.report_spec.specs.Verdicts.{AtLimitBy, IsStageOf, IsVerdict, SafeBy}
use Rattle.report_spec.proofs.FirstStages.{verdict_is_one}
use Rattle.report_analysis.specs.Claims.{AreJudgedSites}
use Rattle.report_analysis.specs.Stages.{asked_of}
use Rattle.report_analysis.specs.declared.claims.JudgedSites.{JudgedSites}
use Rattle.certificate_lines.specs.declared.line.Holder.{Holder}
use Rattle.certificate_lines.specs.declared.line.Holder.TheVariants as holders
use Rattle.certificate_lines.specs.declared.line.Line.{Line}
use Rattle.certificate_lines.specs.declared.line.Line.TheVariants as lines
use Rattle.certificate_lines.specs.declared.line.ListedEdge.{ListedEdge}
use Rattle.certificate_lines.specs.LineTexts.{edge_of, holder_of}
use Rattle.certificate_spec.specs.Certificates.{DoAscend, IsClaim, IsEdgeOf, IsTold, claims, follows, holds, modifies, runs}
use Rattle.certificate_printing.specs.Analysed.{HasEdge, HasVerdict, IsBody, IsClaimLine, IsVerdictLine, facts_in, gives_in, site_of, subject_in}
use Rattle.certificate_printing.specs.Collected.{IsHeldLine, IsReachedLine, IsWriteLine, OfBelow, listed_edge, listed_holder, plain_of}
use Rattle.certificate_printing.specs.declared.claims.Analysed.{Analysed}

-- ---- values and what they stand for

holder_back : (h : facts.Holder) → holder_of (listed_holder h) ≡ h
holder_back (facts.variable v) = refl
holder_back (facts.field_of s f) = refl
holder_back (facts.elements_of s) = refl
holder_back (facts.static_field f) = refl
holder_back facts.kept_objects = refl
holder_back (facts.returned_by m) = refl
holder_back (facts.thrown_by m) = refl

listed_back : (h : Holder) → h ≡ listed_holder (holder_of h)
listed_back (holders.Variable v) = refl
listed_back (holders.Field s f) = refl
listed_back (holders.Elements s) = refl
listed_back (holders.Static f) = refl
listed_back holders.Kept = refl
listed_back (holders.Returned m) = refl
listed_back (holders.Thrown m) = refl

fact_back : (f : SiteFact) → fact_of (plain_of f) ≡ f
fact_back none_yet = refl
fact_back some_yet = refl
fact_back (of_object t) = refl

pub plain_back : (f : PlainFact) → f ≡ plain_of (fact_of f)
plain_back NoneYet = refl
plain_back SomeYet = refl
plain_back (OfObject t) = refl

edge_back : (stage : _) (s : Site) (e : Edge) → edge_of (listed_edge stage s e) ≡ e
edge_back stage s e =
    let entry = fact_back e.entry in
    let fact = fact_back e.fact in
    (λ i. record { method = e.method; entry = entry i; spot = e.spot; fact = fact i })

listed_edge_back : (e : ListedEdge) (s : Site) → e.site ≡ s → e ≡ listed_edge e.stage s (edge_of e)
listed_edge_back e s same =
    let entry = plain_back e.entry in
    let fact = plain_back e.fact in
    (λ i. record { stage = e.stage; site = same i; method = e.method; entry = entry i; spot = e.spot; fact = fact i })

-- ---- lines

module _ (a : Analysed) (j : JudgedSites) (judged : AreJudgedSites (subject_in a) (gives_in a) a.ground.now (asked_of a.asked) j)
    (running : List MethodNo) (run : (m : MethodNo) → Contains running m ↔ Contains a.ground.now.facts (facts.may_run m))
    (writes : List FieldWrite) (write : (w : FieldWrite) → Contains writes w ↔ Contains a.ground.now.facts (facts.may_write w.method w.field))
    (placed : (h : facts.Holder) (s : Site) → Contains a.ground.now.facts (facts.may_hold h s) → (place : _) × (slice_get a.ground.now.holders place ≡ Some h)) where
  abbrev g : Findings
  g = a.ground.now

  -- It is told.
  abbrev T : Line → Type 0
  T = IsTold (subject_in a) (gives_in a) (facts_in a) (asked_of a.asked)

  -- It is collected.
  abbrev pub Collected : Line → Type 0
  Collected line =
      ((OfOne IsReachedLine running line ⊎ OfBelow (IsHeldLine g) (length g.holders) line) ⊎ OfOne IsWriteLine writes line)
      ⊎ OfBelow (IsClaimLine a j) (length j.sites.items) line

  -- ---- each line that is collected is told

  held_told : (place : _) (line : Line) → IsHeldLine g place line → T line
  held_told place line h =
      subst T (sym h.is)
      (holds (listed_holder h.holder) h.site (subst (λ (k : facts.Holder). Contains g.facts (facts.may_hold k h.site)) (sym (holder_back h.holder)) h.holds))

  edge_told : (t : TrackedSite) (stage : _) (e : Edge) → IsClaim (subject_in a) (gives_in a) (facts_in a) (asked_of a.asked) stage (site_of a t) → HasEdge a t stage e
      → T (lines.PathEdge (listed_edge stage (site_of a t) e))
  edge_told t stage e claim edge =
      follows (listed_edge stage (site_of a t) e) claim
      (record {
        setting = edge.setting;
        of_stage = edge.of_stage;
        of_facts = edge.of_facts;
        derivable = subst (λ (f : Edge). IsDerivable (StageInstance (subject_in a) (gives_in a) (facts_in a) edge.setting) f) (sym (edge_back stage (site_of a t) e)) edge.derivable;
      })

  verdict_told : (t : TrackedSite) (v : Verdict) (line : Line) → IsTracked (subject_in a).program (gives_in a) (facts_in a) (subject_in a).property.class_name t → HasVerdict a t v
      → IsVerdictLine a t v line → T line
  verdict_told t (Safe stage) line tracked verdict (inl is) =
      subst T is (claims stage (site_of a t) (record { site = t; tracked = tracked; verdict = verdict; is = refl }))
  verdict_told t (Safe stage) line tracked verdict (inr (e, edge, is)) =
      subst T (sym is) (edge_told t stage e (record { site = t; tracked = tracked; verdict = verdict; is = refl }) edge)
  verdict_told t Unproved line tracked verdict none = absurd none
  verdict_told t (Limit stage) line tracked verdict none = absurd none

  claim_told : (place : _) (line : Line) → IsClaimLine a j place line → T line
  claim_told place line c =
      let (v, beside, verdict) = zip_at (HasVerdict a) j.sites.items j.verdicts.items place c.site judged.verdicts c.stands in
      let own = subst (HasVerdict a c.site) (same_Some v c.verdict (sym beside ∙ c.beside)) verdict in
      verdict_told c.site c.verdict line ((judged.tracked.those c.site).0 (contains_at j.sites.items place c.site c.stands)) own c.is

  pub to_told : (line : Line) → Collected line → T line
  to_told line (inl (inl (inl (m, there, is)))) = subst T (sym is) (runs m ((run m).0 there))
  to_told line (inl (inl (inr (place, within, held)))) = held_told place line held
  to_told line (inl (inr (w, there, is))) = subst T (sym is) (modifies w.method w.field ((write w).0 there))
  to_told line (inr (place, within, claim)) = claim_told place line claim

  -- ---- and each line that is told is collected

  claimed : (stage : _) (s : Site) (line : Line) (claim : IsClaim (subject_in a) (gives_in a) (facts_in a) (asked_of a.asked) stage s)
      → IsVerdictLine a claim.site (Safe stage) line → OfBelow (IsClaimLine a j) (length j.sites.items) line
  claimed stage s line claim is =
      let t = claim.site in
      let (place, stands) = place_of j.sites.items t ((judged.tracked.those t).1 claim.tracked) in
      let (v, beside, verdict) = zip_at (HasVerdict a) j.sites.items j.verdicts.items place t judged.verdicts stands in
      let x = subject_in a in
      let w = asked_of a.asked in
      let one = verdict_is_one (SafeBy x (gives_in a) (facts_in a) w.depth w.fact_limit (site_of a t)) (AtLimitBy x (gives_in a) (facts_in a) w.depth w.fact_limit (site_of a t)) w.stages
      v (Safe stage) verdict claim.verdict in (
        place,
        slice_get_within j.sites.items place t stands,
        record { site = t; verdict = Safe stage; stands = stands; beside = beside ∙ ap (λ (u : Verdict). Some u) one; is = is },
      )

  pub from_told : (line : Line) → T line → Collected line
  from_told line (runs m there) = inl (inl (inl (m, (run m).1 there, refl)))
  from_told line (holds h s there) =
      let (place, stands) = placed (holder_of h) s there in
      inl (inl (inr (
        place,
        slice_get_within g.holders place (holder_of h) stands,
        record { holder = holder_of h; site = s; stands = stands; holds = there; is = ap (λ (k : Holder). lines.PointsTo k s) (listed_back h) },
      )))
  from_told line (modifies m f there) = inl (inr (record { method = m; field = f }, (write (record { method = m; field = f })).1 there, refl))
  from_told line (claims stage s claim) =
      inr (claimed stage s line claim (inl (ap (λ (o : Site). lines.Claim stage o) (sym claim.is))))
  from_told line (follows e claim edge) =
      let own : HasEdge a claim.site e.stage (edge_of e) = record {
        setting = edge.setting;
        of_stage = subst (λ (o : Site). IsStageOf a.asked.depth o e.stage edge.setting) claim.is edge.of_stage;
        of_facts = edge.of_facts;
        derivable = edge.derivable;
      } in
      inr (claimed e.stage e.site line claim (inr (edge_of e, own, ap (λ (k : ListedEdge). lines.PathEdge k) (listed_edge_back e (site_of a claim.site) claim.is))))

  -- ---- all together

  pub body_is : (one two three four ordered : List Line) → AreAdded (OfOne IsReachedLine running) [] one → AreAdded (OfBelow (IsHeldLine g) (length g.holders)) one two
      → AreAdded (OfOne IsWriteLine writes) two three → AreAdded (OfBelow (IsClaimLine a j) (length j.sites.items)) three four
      → ((line : Line) → Contains ordered line ↔ Contains four line) → DoAscend ordered → IsBody (subject_in a) (gives_in a) (facts_in a) (asked_of a.asked) ordered
  body_is one two three four ordered reached held written claim same ascend =
      let first = added_both (OfOne IsReachedLine running) (OfBelow (IsHeldLine g) (length g.holders)) [] one two reached held in
      let second =
      added_both (λ (line : Line). OfOne IsReachedLine running line ⊎ OfBelow (IsHeldLine g) (length g.holders) line) (OfOne IsWriteLine writes) [] two three first written in
      let third =
      added_both (λ (line : Line). (OfOne IsReachedLine running line ⊎ OfBelow (IsHeldLine g) (length g.holders) line) ⊎ OfOne IsWriteLine writes line)
      (OfBelow (IsClaimLine a j) (length j.sites.items)) [] three four second claim in
      record {
        told = λ line. (
          (λ there. to_told line ((added_alone Collected four third line).0 ((same line).0 there))),
          (λ told. (same line).1 ((added_alone Collected four third line).1 (from_told line told))),
        );
        ascend = ascend;
      }
