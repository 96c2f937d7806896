-- A line that says that a site is safe, wherever it stands in what a run wrote, is true, and of a site that the report is about; and where all sites
-- are safe, none errs.
use Rattle.std.proofs.Common.{◌≡◌, inl, inr, ◌∙◌, ℕ, Bool, true, false, List, [], ◌∷◌, ◌++◌, All, append_assoc, map, refl, sym, ap, subst}
use Rattle.std.proofs.lemmas.List.Elements.{All-cons, All-head, All-nil, All-tail}
use Rattle.ts_outside.specs.Files.{File}
use Rattle.machine_bytecode.specs.Objects.{Subject}
use Rattle.run_soundness.specs.Reports.{IsReportedLine, IsReportedOfRun}
use Rattle.run_soundness.specs.Truth.{IsTrueLine, SaysSafe}
use Rattle.run_spec.specs.RunSubjects.{IsRunOf}
use Rattle.run_spec.specs.declared.status.Status.{Status}
use Rattle.run_spec.specs.declared.status.Status.TheVariants.{AllSafe}
use Rattle.certificate_lines.specs.declared.line.Line.{Line}
use Rattle.certificate_lines.specs.LineTexts.{line_text}
use Rattle.command_words.specs.declared.request.Mode.{Mode}
use Rattle.command_words.specs.Requests.{is_trace}
use Rattle.run_spec.specs.Inputs.{AsksForSample}
use Rattle.run_spec.specs.Outcomes.{Outcome, asked_of, report_status}
use Rattle.run_soundness.proofs.TrueReports.{EdgesNeverErr, lines_reported, lines_true}
use Rattle.run_soundness.proofs.Verdicts.{least_are_closed}
use Rattle.run_soundness.proofs.OwnSites.{own_never_err}
use Rattle.run_soundness.proofs.Reported.{IsWrittenAs, is_reported}
use Rattle.run_soundness.specs.Claims.{IsTrueOfRun, KeepsProtocol, StandsIn}
use Rattle.run_soundness.proofs.LineForms.{IsReport, certificate_unsafe, outcome_formed}
use Rattle.site_report.proofs.PlainLines.{Among, IsPlain-all, line_among, text_of}

-- What the words and files give, of which all lines that say so are true, and of sites that the report is about.
abbrev pub AreReported : List (List ℕ) → List File → List (List ℕ) → Type 0
AreReported words files lines = (x : Subject) × IsRunOf words files x × All (λ (line : List ℕ). SaysSafe line → IsReportedLine x line) lines

-- Those that are true.
abbrev pub AreTrue : List (List ℕ) → List File → List (List ℕ) → Type 0
AreTrue words files lines = (x : Subject) × IsRunOf words files x × All (λ (line : List ℕ). SaysSafe line → IsTrueLine x line) lines

-- what holds of the lines of a report that say that a site is safe holds of those that are written: a line of a certificate says it of none
of_told : (P : List ℕ → Type 0) (mode : Mode) (lines told : List (List ℕ)) → IsWrittenAs mode lines told → All (λ (line : List ℕ). SaysSafe line → P line) told
    → All (λ (line : List ℕ). SaysSafe line → P line) lines
of_told P mode lines told (inl same) all = subst (All (λ (line : List ℕ). SaysSafe line → P line)) (sym same) all
of_told P mode lines told (inr (asked, certificate, cut)) all = subst (All (λ (line : List ℕ). SaysSafe line → P line)) (sym cut) (none certificate)
  where
    none : (certificate : List Line) → All (λ (line : List ℕ). SaysSafe line → P line) (map line_text certificate)
    none [] = All-nil (λ (line : List ℕ). SaysSafe line → P line)
    none (k ∷ ks) =
        All-cons (λ (line : List ℕ). SaysSafe line → P line) (line_text k) (map line_text ks)
        (λ says. absurd (certificate_unsafe (k ∷ ks) (line_text k) (inl refl) says)) (none ks)

reports_are_told : EdgesNeverErr → (words : List (List ℕ)) (files : List File) (s : Status) (lines : List (List ℕ)) → Outcome words files s lines → IsReport s
    → (AsksForSample words → ⊥) → AreReported words files lines
reports_are_told never_by_edges words files s lines outcome reports none =
    let (x, run, program, exceptions, entry, (told, (facts, all_safe, report, is), written)) = is_reported words files s lines outcome reports none in
    let all = lines_reported never_by_edges x (asked_of run.input) (is_trace run.input.wanted.mode) facts told all_safe program exceptions entry report in
    (x, run, of_told (λ (line : List ℕ). IsReportedLine x line) run.input.wanted.mode lines told written all)

pub reports_are_true : EdgesNeverErr → (words : List (List ℕ)) (files : List File) (s : Status) (lines : List (List ℕ)) → Outcome words files s lines → IsReport s
    → (AsksForSample words → ⊥) → AreTrue words files lines
reports_are_true never_by_edges words files s lines outcome reports none =
    let (x, run, program, exceptions, entry, (told, (facts, all_safe, report, is), written)) = is_reported words files s lines outcome reports none in
    let all = lines_true never_by_edges x (asked_of run.input) (is_trace run.input.wanted.mode) facts told all_safe program exceptions entry (least_are_closed x facts report.of_all) report.report in
    (x, run, of_told (λ (line : List ℕ). IsTrueLine x line) run.input.wanted.mode lines told written all)

module _ (x : Subject) where
  abbrev IsReportedIfSafe : List ℕ → Type 0
  IsReportedIfSafe line = SaysSafe line → IsReportedLine x line

  among_reported : (lines : List (List ℕ)) (line : List ℕ) → All IsReportedIfSafe lines → Among line lines → SaysSafe line → IsReportedLine x line
  among_reported [] line all none says = absurd none
  among_reported (other ∷ lines) line all (inl e) says = subst IsReportedIfSafe e (All-head IsReportedIfSafe other lines all) says
  among_reported (other ∷ lines) line all (inr more) says = among_reported lines line (All-tail IsReportedIfSafe other lines all) more says

pub written_reported : EdgesNeverErr → (words : List (List ℕ)) (files : List File) (s : Status) (lines : List (List ℕ)) → Outcome words files s lines → (line : List ℕ)
    → StandsIn (text_of lines) line → SaysSafe line → IsReportedOfRun words files line
written_reported never_by_edges words files s lines outcome line stands says =
    let formed = outcome_formed words files s lines outcome in
    let e : text_of formed.others ≡ stands.front ++ (stands.content ++ 10 ∷ stands.rest) =
    ap text_of (sym formed.same) ∙ (stands.text_is
    ∙ (ap (λ (l : List ℕ). stands.front ++ (l ++ stands.rest)) stands.line_is ∙ ap (λ xs. stands.front ++ xs) (append_assoc stands.content (10 ∷ []) stands.rest))) in
    let there = line_among formed.others stands.front stands.content stands.rest formed.are stands.whole (IsPlain-all stands.content stands.plain) e in
    let among : Among line formed.others = subst (λ (l : List ℕ). Among l formed.others) (sym stands.line_is) there in
    let t = reports_are_told never_by_edges words files s lines outcome (formed.reports line among says) (λ sample. formed.of_sample sample line among says) in
    let all = subst (λ (ls : List (List ℕ)). All (λ (l : List ℕ). SaysSafe l → IsReportedLine t.0 l) ls) formed.same t.2 in
    record { x = t.0; run = t.1; reported = among_reported t.0 formed.others line all among says }

pub written_true : EdgesNeverErr → (words : List (List ℕ)) (files : List File) (s : Status) (lines : List (List ℕ)) → Outcome words files s lines → (line : List ℕ)
    → StandsIn (text_of lines) line → SaysSafe line → IsTrueOfRun words files line
written_true never_by_edges words files s lines outcome line stands says =
    let r = written_reported never_by_edges words files s lines outcome line stands says in
    record { x = r.x; run = r.run; is_true = r.reported.told }

-- ---- where all sites are safe

all_are : (all_safe : Bool) → AllSafe ≡ report_status all_safe → all_safe ≡ true
all_are true is = refl
all_are false is = absurd (cc)

pub safe_runs_keep : EdgesNeverErr → (words : List (List ℕ)) (files : List File) (lines : List (List ℕ)) → Outcome words files AllSafe lines → (AsksForSample words → ⊥)
    → KeepsProtocol words files
safe_runs_keep never_by_edges words files lines outcome none =
    let (x, run, program, exceptions, entry, (told, (facts, all_safe, report, is), written)) = is_reported words files AllSafe lines outcome (inl refl) none in
    let are = least_are_closed x facts report.of_all in
    record {
      x = x;
      run = run;
      never = own_never_err never_by_edges x (asked_of run.input) (is_trace run.input.wanted.mode) facts told all_safe program exceptions entry are report.report (all_are all_safe is);
    }
