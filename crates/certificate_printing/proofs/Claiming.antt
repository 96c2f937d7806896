-- What stands at a place among the sites, and the lines that it gives.
use Rattle.std.proofs.Common.{◌≡◌, ◌∙◌, ◌<◌, ◌≤◌, ◌⊎◌, inl, inr, ℕ, List, length, get_or, Option, None, Some, sym, ap, subst, arith}
use Rattle.std.specs.List.{AllZip, slice_get}
use Rattle.std.proofs.lemmas.Option.{get_or_from_slice_get, same_Some, slice_get-get_or}
use Rattle.std.proofs.lemmas.Slice.Zip.{AllZip-long}
use Rattle.list_laws.proofs.Places.{contains_at, stands_below}
use Rattle.list_laws.proofs.Zips.{zip_at}
use Rattle.jvm_model.specs.declared.number.SiteNo.{SiteNo}
use Rattle.jvm_model.specs.declared.site.Site.{Site}
use Rattle.program_model.specs.Numbers.{IsClassNumber}
use Rattle.ground.specs.Added.{AreAdded}
use Rattle.ground.proofs.Adding.{added_as, added_both, added_none}
use Rattle.site_report.specs.declared.tracked_site.TrackedSite.{TrackedSite}
use Rattle.site_report.specs.declared.verdict.Verdict.{Verdict}
use Rattle.site_report.specs.declared.verdict.Verdict.TheVariants.{Safe, Unproved, Limit}
use Rattle.report_analysis.specs.Claims.{AreJudgedSites}
use Rattle.report_analysis.specs.Numbers.{IsNumberOf}
use Rattle.report_analysis.specs.Stages.{asked_of}
use Rattle.report_analysis.specs.declared.claims.JudgedSites.{JudgedSites}
use Rattle.certificate_lines.specs.declared.line.Line.{Line}
use Rattle.certificate_lines.specs.declared.line.Line.TheVariants as lines
use Rattle.certificate_printing.specs.Analysed.{HasVerdict, IsClaimLine, IsOwnEdgeLine, IsSafeLine, IsVerdictLine, gives_in, site_of, subject_in}
use Rattle.certificate_printing.specs.declared.claims.Analysed.{Analysed}

-- what an index below the length gives stands there
pub read_at : {X : Type 0} (xs : List X) (k : ℕ) (x : X) → k < length xs → x ≡ get_or xs k x → slice_get xs k ≡ Some x
read_at xs k x short is = let (y, stands) = stands_below xs k short in stands ∙ ap Some (sym (get_or_from_slice_get xs k y x stands) ∙ sym is)

module _ (a : Analysed) (j : JudgedSites) (judged : AreJudgedSites (subject_in a) (gives_in a) a.ground.now (asked_of a.asked) j) where
  abbrev sites : List TrackedSite
  sites = j.sites.items

  abbrev verdicts : List Verdict
  verdicts = j.verdicts.items

  abbrev numbers : List (Option SiteNo)
  numbers = j.numbers.items

  -- there are as many verdicts and numbers
  pub verdicts_below : (k : ℕ) → k < length sites → k < length verdicts
  verdicts_below k short = let long = AllZip-long (HasVerdict a) sites verdicts judged.verdicts in omega (arith, long, short)

  pub numbers_below : (k : ℕ) → k < length sites → k < length numbers
  numbers_below k short = let long = judged.numbers.count in omega (arith, long, short)

  module _ (k : ℕ) (short : k < length sites) (t : TrackedSite) (at : slice_get sites k ≡ Some t) where
    pub class_here : IsClassNumber a.ground.now.program t.class.0
    class_here = ((judged.tracked.those t).0 (contains_at sites k t at)).known

    module _ (v : Verdict) (beside : slice_get verdicts k ≡ Some v) where
      pub verdict_here : HasVerdict a t v
      verdict_here =
          let (u, there, verdict) = zip_at (HasVerdict a) sites verdicts k t judged.verdicts at in
          subst (HasVerdict a t) (same_Some u v (sym there ∙ beside)) verdict

      -- the lines of the site are those at the place
      pub claims_here : (old new : List Line) → AreAdded (IsVerdictLine a t v) old new → AreAdded (IsClaimLine a j k) old new
      claims_here old new added =
          added_as (IsVerdictLine a t v) (IsClaimLine a j k) old new
          (λ line is. record { site = t; verdict = v; stands = at; beside = beside; is = is })
          (λ line c.
          subst (λ (u : TrackedSite). IsVerdictLine a u v line) (same_Some c.site t (sym c.stands ∙ at))
          (subst (λ (w : Verdict). IsVerdictLine a c.site w line) (same_Some c.verdict v (sym c.beside ∙ beside)) c.is))
          added

    pub number_here : (n : Option SiteNo) → slice_get numbers k ≡ Some n → IsNumberOf a.ground.now (site_of a t) n
    number_here n beside = judged.numbers.each k t n at beside

-- ---- the lines of one site

module _ (a : Analysed) (t : TrackedSite) where
  -- the first stage has no edges
  pub first_alone : (stage : ℕ) → stage ≡ 1 → (s : Site) → s ≡ site_of a t → (old new : List Line) → AreAdded (λ (o : Line). lines.Claim stage s ≡ o) old new
      → AreAdded (IsSafeLine a t stage) old new
  first_alone stage one s named old new added =
      added_as (λ (o : Line). lines.Claim stage s ≡ o) (IsSafeLine a t stage) old new
      (λ line is. inl (ap (λ (o : Site). lines.Claim stage o) (sym named) ∙ is))
      (λ line safe. elim safe [
        | inl is ↦ ap (λ (o : Site). lines.Claim stage o) named ∙ is
        | inr own ↦ (let two = own.1.of_stage.from_two in absurd (omega (arith, one, two)))
      ])
      added

  -- a claim, and then its edges
  pub with_edges : (stage : ℕ) (s : Site) → s ≡ site_of a t → (old between new : List Line) → AreAdded (λ (o : Line). lines.Claim stage s ≡ o) old between
      → AreAdded (IsOwnEdgeLine a t stage) between new → AreAdded (IsSafeLine a t stage) old new
  with_edges stage s named old between new claim edges =
      added_as (λ (o : Line). (lines.Claim stage s ≡ o) ⊎ IsOwnEdgeLine a t stage o) (IsSafeLine a t stage) old new
      (λ line either. elim either [ inl is ↦ inl (ap (λ (o : Site). lines.Claim stage o) (sym named) ∙ is) | inr own ↦ inr own ])
      (λ line safe. elim safe [ inl is ↦ inl (ap (λ (o : Site). lines.Claim stage o) named ∙ is) | inr own ↦ inr own ])
      (added_both (λ (o : Line). lines.Claim stage s ≡ o) (IsOwnEdgeLine a t stage) old between new claim edges)
