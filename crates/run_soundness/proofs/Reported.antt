-- A run whose status is that of a report has passed each level: each other case of a level ends with a line and the status of a refusal or of usage.
use Rattle.std.proofs.Common.{◌≡◌, ◌∙◌, ◌⊎◌, inl, inr, ℕ, Bool, true, false, List, [], ◌∷◌, ◌++◌, Contains, map, zip, Option, Some, Ok, refl, sym, ap, subst}
use Rattle.std.specs.List.{AllZip, flat_map}
use Rattle.ts_outside.specs.Files.{File, file_at}
use Rattle.jvm_model.specs.declared.automaton.Automaton.{Automaton}
use Rattle.jvm_model.specs.declared.number.MethodNo.{MethodNo}
use Rattle.jvm_model.specs.declared.stub.StubClass.{StubClass}
use Rattle.jvm_model.specs.LinkedPrograms.{IsProgram}
use Rattle.jvm_model.specs.Linking.{Links}
use Rattle.jvm_model.specs.Lookups.{Signature}
use Rattle.jvm_model.specs.Programs.{Class, Program}
use Rattle.jvm_model.specs.Subtypes.{class_named}
use Rattle.machine_bytecode.specs.Objects.{Subject}
use Rattle.command_words.specs.declared.request.Mode.{Mode}
use Rattle.command_words.specs.declared.request.Mode.TheVariants as modes
use Rattle.command_words.specs.Requests.{Wanted, AsksFor, is_certificate, is_trace}
use Rattle.certificate_lines.specs.declared.line.Line.{Line}
use Rattle.certificate_lines.specs.LineTexts.{line_text}
use Rattle.entry_points.specs.Entries.{IsEntry, with_strings, plain}
use Rattle.lowering_supply.specs.Supplied.{IsSupplied}
use Rattle.points_to_rules.specs.Facts.{Fact}
use Rattle.points_to_rules.specs.Solutions.{IsSolution}
use Rattle.property_file.specs.PropertyFile.{IsPropertyFile}
use Rattle.run_spec.specs.declared.status.Status.{Status}
use Rattle.run_spec.specs.declared.status.Status.TheVariants.{AllSafe, SomeUnproved, Refused, Usage}
use Rattle.run_spec.specs.Inputs.{AreStubs, AsksForCertificate, AsksForSample, Input, IsInput, IsOfTree, all_stubs}
use Rattle.run_spec.specs.Outcomes.{asked_of, run_of, report_status, AnalysisOutcome, pair_limit, refused_method, analysed, ToldOutcome, reported, certified, too_large, ClassOutcome, no_class, has_class, EntryOutcome, no_entry, other_shape, has_entry, LinkOutcome, unlinked, linked, FolderOutcome, refused_folder, has_classes, StubOutcome, no_stub_file, stubs_no_document, broken_stubs, no_stubs, has_stubs, PropertyOutcome, no_property, property_no_document, broken_property, has_property, Outcome, unusable, usable}
use Rattle.simulation.specs.Simulation.{HasEntry, HasExceptions}
use Rattle.run_spec.specs.RunSubjects.{IsRunOf}
use Rattle.run_spec.proofs.ReadFiles.{of_tree, read_are, written_are}
use Rattle.run_spec.specs.WholeInputs.{IsWholeInput}
use Rattle.op_model.specs.Supplies.{GivenAs}
use Rattle.site_report.specs.declared.tracked_site.TrackedSite.{TrackedSite}
use Rattle.site_report.specs.declared.verdict.Verdict.{Verdict}
use Rattle.site_report.specs.Sites.{site_in}
use Rattle.stage_edges.specs.Rules.{Edge}
use Rattle.report_spec.specs.AllFacts.{AreAllFacts}
use Rattle.report_spec.specs.Reports.{IsReport, is_unproved, line_of, summary_of}
use Rattle.report_spec.specs.Traces.{IsTrace, IsTraceIf, IsTracedReport, site_lines}
use Rattle.report_spec.specs.Verdicts.{Asked}
use Rattle.report_spec.proofs.Traced.{and_false}
use Rattle.run_soundness.specs.Reports.{IsReportOf}
use Rattle.run_soundness.proofs.BuiltIn.{has_exceptions}

-- ---- the entry

-- a method that can start a program takes nothing, or an array of strings, and has no result
pub has_entry_method : (x : Subject) (class method : List ℕ) → IsEntry x.program class method x.entry → HasEntry x
has_entry_method x class method (with_strings s) = record { method = s.found; stands = s.stands; descriptor = inr (ap (λ (k : Signature). k.descriptor) s.named) }
has_entry_method x class method (plain none s) = record { method = s.found; stands = s.stands; descriptor = inl (ap (λ (k : Signature). k.descriptor) s.named) }

-- ---- what is told of a run

-- what is run
abbrev subject : Program → Automaton → MethodNo → Subject
subject p a entry = record { program = p; property = a; entry = entry.0 }

-- the lines are the report on it by the least facts, and the status is that of the report
abbrev HasReport : Subject → Asked → (trace : Bool) → Status → List (List ℕ) → Type 0
HasReport x w trace status lines = (facts : List Fact) × (all_safe : Bool) × IsReportOf x w trace facts lines all_safe × (status ≡ report_status all_safe)

-- the property's class is there, and there are least sets, with nothing refused and within the limit
abbrev IsAnalysed : Subject → ℕ → Type 0
IsAnalysed x limit =
    ((class : Class) × (class_named x.program x.property.class_name ≡ Some class))
    × ((facts : List Fact) × IsSolution x.program (IsSupplied x.program) (record { 0 = x.entry }) limit facts)

-- what is written is that report, or where a certificate is asked for, its lines
abbrev pub IsWrittenAs : Mode → (lines told : List (List ℕ)) → Type 0
IsWrittenAs mode lines told = (lines ≡ told) ⊎ ((is_certificate mode ≡ true) × (certificate : List Line) × (lines ≡ map line_text certificate))

abbrev IsWrittenFor : Subject → Asked → Mode → Status → List (List ℕ) → Type 0
IsWrittenFor x w mode status lines = (told : List (List ℕ)) × HasReport x w (is_trace mode) status told × IsWrittenAs mode lines told

-- what the run is of, with its report
abbrev IsReported : List (List ℕ) → List File → Status → List (List ℕ) → Type 0
IsReported words files status lines =
    (x : Subject) × (run : IsRunOf words files x) × IsProgram x.program × HasExceptions x.program × HasEntry x
    × IsWrittenFor x (asked_of run.input) run.input.wanted.mode status lines × IsAnalysed x run.input.wanted.pair_limit

-- ---- a report without derivations

module _ (x : Subject) (gives : GivenAs) (S : Fact → Type 0) (w : Asked) where
  abbrev nothing_told : List (TrackedSite × Verdict) → List (List Edge)
  nothing_told found = map (λ f. []) found

  none_told : (found : List (TrackedSite × Verdict)) → AllZip (IsTrace x gives S w false) found (nothing_told found)
  none_told [] = tt
  none_told (f ∷ found) = (subst (λ (b : Bool). IsTraceIf x gives S w (site_in x.program f.0) b []) (sym (and_false (is_unproved f.1))) refl, none_told found)

  lines_alone : (found : List (TrackedSite × Verdict)) → flat_map (site_lines x.program w.stages) (zip found (nothing_told found)) ≡ map (line_of x.program) found
  lines_alone [] = refl
  lines_alone (f ∷ found) = ap (λ (ls : List (List ℕ)). line_of x.program f ∷ ls) (lines_alone found)

  untraced : (lines : List (List ℕ)) (all_safe : Bool) → IsReport x gives S w lines all_safe → IsTracedReport x gives S w false lines all_safe
  untraced lines all_safe r = record {
    plain = lines;
    report = r;
    traces = nothing_told r.found;
    told = none_told r.found;
    lines_are = r.lines_are ∙ ap (λ (ls : List (List ℕ)). ls ++ summary_of r.found ∷ []) (sym (lines_alone r.found));
  }

no_trace : (mode : Mode) → is_certificate mode ≡ true → is_trace mode ≡ false
no_trace modes.Report asked = refl
no_trace modes.Trace asked = absurd (cc asked)
no_trace modes.Certificate asked = refl
no_trace (modes.Sample n) asked = refl

-- ---- the levels, from the last to the first

module _ (status : Status) (lines : List (List ℕ)) (ends : (status ≡ AllSafe) ⊎ (status ≡ SomeUnproved)) where
  never_refused : status ≡ Refused → ⊥
  never_refused is = elim ends [ inl safe ↦ cc | inr unproved ↦ cc ]

  never_usage : status ≡ Usage → ⊥
  never_usage is = elim ends [ inl safe ↦ cc | inr unproved ↦ cc ]

  of_told : (i : Input) (p : Program) (entry : MethodNo) (found facts : List Fact) → IsSolution p (IsSupplied p) entry i.wanted.pair_limit found
      → AreAllFacts p (IsSupplied p) entry facts → ToldOutcome (run_of i p entry) facts (asked_of i) i.wanted.mode status lines → IsWrittenFor (subject p i.property entry) (asked_of i) i.wanted.mode status lines
  of_told i p entry found facts solution of_all (reported all_safe unasked report is) = (
    lines,
    (facts, all_safe, record { found = found; limit = i.wanted.pair_limit; solution = solution; of_all = of_all; report = report }, is),
    inl refl,
  )
  of_told i p entry found facts solution of_all (certified certificate all_safe asked of fits cut is) =
      let x = subject p i.property entry in
      let traced = untraced x (IsSupplied p) (Contains facts) (asked_of i) of.report.0 all_safe of.report.1 in
      let report = subst (λ (t : Bool). IsTracedReport x (IsSupplied p) (Contains facts) (asked_of i) t of.report.0 all_safe) (sym (no_trace i.wanted.mode asked)) traced in (
        of.report.0,
        (facts, all_safe, record { found = found; limit = i.wanted.pair_limit; solution = solution; of_all = of_all; report = report }, is),
        inr (asked, certificate, cut),
      )
  of_told i p entry found facts solution of_all (too_large certificate all_safe asked of over e) = absurd (never_refused e.status_is)

  of_analysis : (i : Input) (p : Program) (entry : MethodNo) → AnalysisOutcome i p entry status lines
      → IsWrittenFor (subject p i.property entry) (asked_of i) i.wanted.mode status lines
      × ((facts : List Fact) × IsSolution p (IsSupplied p) entry i.wanted.pair_limit facts)
  of_analysis i p entry (pair_limit many e) = absurd (never_refused e.status_is)
  of_analysis i p entry (refused_method r is e) = absurd (never_refused e.status_is)
  of_analysis i p entry (analysed found facts solution of_all told) = (of_told i p entry found facts solution of_all told, (found, solution))

  of_class : (i : Input) (p : Program) (entry : MethodNo) → ClassOutcome i p entry status lines
      → IsWrittenFor (subject p i.property entry) (asked_of i) i.wanted.mode status lines × IsAnalysed (subject p i.property entry) i.wanted.pair_limit
  of_class i p entry (no_class none e) = absurd (never_refused e.status_is)
  of_class i p entry (has_class class is next) = let told = of_analysis i p entry next in (told.0, ((class, is), told.1))

  module _ (words : List (List ℕ)) (files : List File) where
    module _ (i : Input) (is_input : IsInput words files i) where
      of_entry : (p : Program) → Links i.classes (all_stubs i.stubs) (Ok p) → IsProgram p → EntryOutcome i p status lines → IsReported words files status lines
      of_entry p links program (no_entry none no_name e) = absurd (never_refused e.status_is)
      of_entry p links program (other_shape none named e) = absurd (never_refused e.status_is)
      of_entry p links program (has_entry entry is next) =
          let x = subject p i.property entry in
          let run : IsRunOf words files x = record { input = i; is_input = is_input; property = refl; links = links; entry = is } in
          let told = of_class i p entry next in
          (x, run, program, has_exceptions i.classes i.stubs p links, has_entry_method x i.wanted.class i.wanted.method is, told.0, told.1)

      of_link : LinkOutcome i status lines → IsReported words files status lines
      of_link (unlinked r links e) = absurd (never_refused e.status_is)
      of_link (linked p links program next) = of_entry p links program next

    module _ (w : Wanted) (asks : AsksFor words w) (plain : IsOfTree w.mode) where
      module _ (property_bytes : List ℕ) (a : Automaton) (property_held : file_at files w.property ≡ Some property_bytes)
          (property : IsPropertyFile property_bytes a) where
        of_folder : (stubs : List StubClass) → AreStubs files w.stubs stubs → FolderOutcome files w a stubs status lines → IsReported words files status lines
        of_folder stubs are_stubs (refused_folder r is e) = absurd (never_refused e.status_is)
        of_folder stubs are_stubs (has_classes classes are next) =
            of_link (record { wanted = w; property = a; stubs = stubs; classes = classes }) (record {
              asks = asks;
              of_tree = plain;
              property_bytes = property_bytes;
              property_held = property_held;
              property = property;
              stubs = are_stubs;
              classes = are;
            }) next

        of_stubs : StubOutcome files w a status lines → IsReported words files status lines
        of_stubs (no_stub_file name asked none e) = absurd (never_usage e.status_is)
        of_stubs (stubs_no_document name bytes asked held bad e) = absurd (never_refused e.status_is)
        of_stubs (broken_stubs name bytes class asked held bad e) = absurd (never_refused e.status_is)
        of_stubs (no_stubs unasked next) = of_folder [] (subst (λ (o : Option (List ℕ)). AreStubs files o []) (sym unasked) refl) next
        of_stubs (has_stubs name bytes stubs asked held are next) =
            of_folder stubs (subst (λ (o : Option (List ℕ)). AreStubs files o stubs) (sym asked) (bytes, held, are)) next

      of_property : PropertyOutcome files w status lines → IsReported words files status lines
      of_property (no_property none e) = absurd (never_usage e.status_is)
      of_property (property_no_document bytes held bad e) = absurd (never_refused e.status_is)
      of_property (broken_property bytes key held bad e) = absurd (never_refused e.status_is)
      of_property (has_property bytes a held is next) = of_stubs bytes a held is next

module _ (words : List (List ℕ)) (files : List File) (status : Status) (lines : List (List ℕ)) (outcome : Outcome words files status lines)
    (ends : (status ≡ AllSafe) ⊎ (status ≡ SomeUnproved)) (none : AsksForSample words → ⊥) where
  of_words : Outcome words files status lines → IsReported words files status lines
  of_words (unusable fault is e) = absurd (never_usage status lines ends e.status_is)
  of_words (usable w all asks next cut) =
      let plain = of_tree words w asks none in
      let here = subst (λ (fs : List File). PropertyOutcome fs w status all) (read_are w.mode files plain) next in
      let same = cut ∙ written_are w.mode all plain in
      of_property status lines ends words files w asks plain (subst (PropertyOutcome files w status) (sym same) here)

  pub is_reported : (x : Subject) × (run : IsRunOf words files x) × IsProgram x.program × HasExceptions x.program × HasEntry x
      × IsWrittenFor x (asked_of run.input) run.input.wanted.mode status lines
  is_reported = let (x, run, program, exceptions, entry, report, analysed_) = of_words outcome in (x, run, program, exceptions, entry, report)

  -- where no certificate is asked for, what is written is the report
  pub is_report : (AsksForCertificate words → ⊥) → (x : Subject) × (run : IsRunOf words files x) × IsProgram x.program × HasExceptions x.program × HasEntry x
      × HasReport x (asked_of run.input) (is_trace run.input.wanted.mode) status lines
  is_report no_certificate =
      let (x, run, program, exceptions, entry, (told, report, written), analysed_) = of_words outcome in
      (x, run, program, exceptions, entry, subst (HasReport x (asked_of run.input) (is_trace run.input.wanted.mode) status) (sym (same run written)) report)
    where
      is_mode : (mode : Mode) → is_certificate mode ≡ true → mode ≡ modes.Certificate
      is_mode modes.Report asked = absurd (cc asked)
      is_mode modes.Trace asked = absurd (cc asked)
      is_mode modes.Certificate asked = refl
      is_mode (modes.Sample n) asked = absurd (cc asked)

      same : {x : Subject} {told : List (List ℕ)} (run : IsRunOf words files x) → IsWrittenAs run.input.wanted.mode lines told → lines ≡ told
      same run (inl is) = is
      same run (inr (asked, certificate, cut)) = absurd (no_certificate (run.input.wanted, run.is_input.asks, is_mode run.input.wanted.mode asked))

  -- nothing was missing, and nothing was refused
  pub is_whole : IsWholeInput words files
  is_whole =
      let (x, run, program, exceptions, entry, report, found) = of_words outcome in
      record { x = x; run = run; class = found.0.0; is_class = found.0.1; facts = found.1.0; solution = found.1.1 }
