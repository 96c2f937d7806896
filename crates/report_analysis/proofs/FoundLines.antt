-- The sites with their verdicts, one after another: their lines with what is told below them, how many of them have a verdict, and whether all are safe.
use Rattle.std.proofs.Common.{◌≡◌, ◌↔◌, ℕ, zero, suc, ◌+◌, ◌≤◌, Bool, cond, List, [], ◌∷◌, ◌++◌, length, drop, map, Some, slice_get, IsTrue, refl, sym, ap, ◌∙◌, arith, add-one, append_assoc, append-nil}
use Rattle.std.specs.Prelude.{zip}
use Rattle.std.specs.List.{All, AllByRecursion, count_by, flat_map}
use Rattle.std.specs.declared.vec.Vec.{Vec}
use Rattle.std.specs.declared.alloc.Global.{Global}
use Rattle.std.proofs.lemmas.List.{drop_all}
use Rattle.std.proofs.lemmas.List.Elements.{All-from_recursion, recursion_from_All}
use Rattle.std.proofs.lemmas.List.Sums.{sum_by-cons}
use Rattle.std.proofs.lemmas.Option.{none-some, same_Some}
use Rattle.jvm_model.specs.Programs.{Program}
use Rattle.site_report.specs.declared.tracked_site.TrackedSite.{TrackedSite}
use Rattle.site_report.specs.declared.verdict.Verdict.{Verdict}
use Rattle.site_report.specs.declared.verdict.Verdict.TheVariants.{Safe, Unproved, Limit}
use Rattle.site_report.specs.Lines.{summary_line, verdict_line}
use Rattle.report_spec.specs.Reports.{is_safe, is_unproved, is_limit, summary_of}
use Rattle.report_analysis.specs.declared.writing.Counts.{Counts}
use Rattle.report_analysis.specs.Written.{AreCounts, site_text, text_of_sites}

-- ---- one more line

-- what is told of the next site
next_found : (sites : List TrackedSite) (verdicts : List Verdict) (traces : List (Vec ℕ Global)) (i : ℕ) (t : TrackedSite) (v : Verdict) (r : Vec ℕ Global) → slice_get sites i ≡ Some t
    → slice_get verdicts i ≡ Some v → slice_get traces i ≡ Some r
    → zip (zip (drop i sites) (drop i verdicts)) (drop i traces) ≡ ((t, v), r) ∷ zip (zip (drop (suc i) sites) (drop (suc i) verdicts)) (drop (suc i) traces)
next_found [] verdicts traces i t v r at given told = absurd (none-some t at)
next_found (x ∷ sites) [] traces i t v r at given told = absurd (none-some v given)
next_found (x ∷ sites) (u ∷ verdicts) [] i t v r at given told = absurd (none-some r told)
next_found (x ∷ sites) (u ∷ verdicts) (s ∷ traces) zero t v r at given told =
    let same_site = same_Some x t at in
    let same_verdict = same_Some u v given in
    let same_text = same_Some s r told in
    (λ i. ((same_site i, same_verdict i), same_text i) ∷ zip (zip sites verdicts) traces)
next_found (x ∷ sites) (u ∷ verdicts) (s ∷ traces) (suc i) t v r at given told = next_found sites verdicts traces i t v r at given told

module _ (p : Program) (sites : List TrackedSite) (verdicts : List Verdict) (traces : List (Vec ℕ Global)) where
  -- the text that was written, and that of what is left, are that of all of them
  abbrev pub LeavesLines : List ℕ → ℕ → Type 0
  LeavesLines text i = text ++ text_of_sites p (drop i sites) (drop i verdicts) (drop i traces) ≡ text_of_sites p sites verdicts traces

  pub next_line : (text line below : List ℕ) (i : ℕ) (t : TrackedSite) (v : Verdict) (r : Vec ℕ Global) → slice_get sites i ≡ Some t → slice_get verdicts i ≡ Some v
      → slice_get traces i ≡ Some r → line ≡ verdict_line p t v → below ≡ r.items → LeavesLines text i → LeavesLines ((text ++ line) ++ below) (i + 1)
  next_line text line below i t v r at given told is below_is before =
      let rest = text_of_sites p (drop (suc i) sites) (drop (suc i) verdicts) (drop (suc i) traces) in
      let apart : ((text ++ line) ++ below) ++ rest ≡ text ++ ((line ++ below) ++ rest) =
      append_assoc (text ++ line) below rest ∙ append_assoc text line (below ++ rest) ∙ ap (λ (xs : List ℕ). text ++ xs) (sym (append_assoc line below rest)) in
      let one : text ++ ((line ++ below) ++ rest) ≡ text ++ ((verdict_line p t v ++ r.items) ++ rest) = (λ j. text ++ ((is j ++ below_is j) ++ rest)) in
      let next = next_found sites verdicts traces i t v r at given told in
      let here = ap (λ (found : List ((TrackedSite × Verdict) × Vec ℕ Global)). text ++ flat_map (site_text p) found) next in
      rw add-one (apart ∙ one ∙ sym here ∙ before)

  pub no_line_left : (text : List ℕ) (i : ℕ) → length sites ≤ i → LeavesLines text i → text ≡ text_of_sites p sites verdicts traces
  no_line_left text i past left =
      let none = ap (λ (ts : List TrackedSite). text ++ text_of_sites p ts (drop i verdicts) (drop i traces)) (drop_all i sites past) in
      sym (append-nil text) ∙ sym none ∙ left

-- ---- counts

-- so many sites have the verdict
counted : (test : Verdict → Bool) (sites : List TrackedSite) (verdicts : List Verdict) → length verdicts ≡ length sites
    → count_by (λ (f : TrackedSite × Verdict). test f.1) (zip sites verdicts) ≡ count_by test verdicts
counted test [] [] long = refl
counted test [] (v ∷ verdicts) long = absurd (omega arith)
counted test (t ∷ sites) [] long = absurd (omega arith)
counted test (t ∷ sites) (v ∷ verdicts) long =
    let shorter : length verdicts ≡ length sites = omega arith in
    let rest = counted test sites verdicts shorter in
    sum_by-cons (λ (f : TrackedSite × Verdict). cond (test f.1) 1 0) (t, v) (zip sites verdicts)
    ∙ (λ i. cond (test v) 1 0 + rest i) ∙ sym (sum_by-cons (λ (u : Verdict). cond (test u) 1 0) v verdicts)

-- each verdict is one of three kinds
pub all_counted : (verdicts : List Verdict) → count_by is_safe verdicts + count_by is_unproved verdicts + count_by is_limit verdicts ≡ length verdicts
all_counted [] = refl
all_counted (v ∷ verdicts) =
    let safe = sum_by-cons (λ (u : Verdict). cond (is_safe u) 1 0) v verdicts in
    let unproved = sum_by-cons (λ (u : Verdict). cond (is_unproved u) 1 0) v verdicts in
    let limit = sum_by-cons (λ (u : Verdict). cond (is_limit u) 1 0) v verdicts in
    let rest = all_counted verdicts in
    let one = one_kind v in omega arith
  where
    one_kind : (u : Verdict) → cond (is_safe u) 1 0 + cond (is_unproved u) 1 0 + cond (is_limit u) 1 0 ≡ 1
    one_kind (Safe stage) = refl
    one_kind Unproved = refl
    one_kind (Limit stage) = refl

-- the text of the report
pub written_text : (p : Program) (sites : List TrackedSite) (verdicts : List Verdict) (traces : List (Vec ℕ Global)) → length verdicts ≡ length sites → (text summary : List ℕ)
    (c : Counts) → text ≡ text_of_sites p sites verdicts traces → AreCounts verdicts c → summary ≡ summary_line c.safe c.unproved c.limit
    → text ++ summary ≡ text_of_sites p sites verdicts traces ++ summary_of (zip sites verdicts)
written_text p sites verdicts traces long text summary c text_is counts is =
    let safe = counts.safe ∙ sym (counted is_safe sites verdicts long) in
    let unproved = counts.unproved ∙ sym (counted is_unproved sites verdicts long) in
    let limit = counts.limit ∙ sym (counted is_limit sites verdicts long) in
    (λ i. text_is i ++ is i) ∙ (λ i. text_of_sites p sites verdicts traces ++ summary_line (safe i) (unproved i) (limit i))

-- ---- all of them

pub found_sites : (sites : List TrackedSite) (verdicts : List Verdict) → length verdicts ≡ length sites
    → map (λ (f : TrackedSite × Verdict). f.0) (zip sites verdicts) ≡ sites
found_sites [] verdicts long = refl
found_sites (t ∷ sites) [] long = absurd (omega arith)
found_sites (t ∷ sites) (v ∷ verdicts) long =
    let shorter : length verdicts ≡ length sites = omega arith in
    ap (λ (ts : List TrackedSite). t ∷ ts) (found_sites sites verdicts shorter)

abbrev AreAllSafe : List (TrackedSite × Verdict) → Type 0
AreAllSafe found = AllByRecursion (λ (f : TrackedSite × Verdict). IsTrue (is_safe f.1)) found

safe_found : (sites : List TrackedSite) (verdicts : List Verdict)
    → AllByRecursion (λ (v : Verdict). IsTrue (is_safe v)) verdicts → AreAllSafe (zip sites verdicts)
safe_found [] verdicts all = tt
safe_found (t ∷ sites) [] all = tt
safe_found (t ∷ sites) (v ∷ verdicts) all = (all.0, safe_found sites verdicts all.1)

found_safe : (sites : List TrackedSite) (verdicts : List Verdict) → length verdicts ≡ length sites
    → AreAllSafe (zip sites verdicts) → AllByRecursion (λ (v : Verdict). IsTrue (is_safe v)) verdicts
found_safe sites [] long all = tt
found_safe [] (v ∷ verdicts) long all = absurd (omega arith)
found_safe (t ∷ sites) (v ∷ verdicts) long all =
    let shorter : length verdicts ≡ length sites = omega arith in
    (all.0, found_safe sites verdicts shorter all.1)

pub all_safe_as : (sites : List TrackedSite) (verdicts : List Verdict) → length verdicts ≡ length sites
    → All (λ (v : Verdict). IsTrue (is_safe v)) verdicts ↔ All (λ (f : TrackedSite × Verdict). IsTrue (is_safe f.1)) (zip sites verdicts)
all_safe_as sites verdicts long =
    let given = λ (v : Verdict). IsTrue (is_safe v) in
    let found = λ (f : TrackedSite × Verdict). IsTrue (is_safe f.1) in (
      (λ all. All-from_recursion found (zip sites verdicts) (safe_found sites verdicts (recursion_from_All given verdicts all))),
      (λ all. All-from_recursion given verdicts (found_safe sites verdicts long (recursion_from_All found (zip sites verdicts) all))),
    )
