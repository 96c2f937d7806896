-- Of two runs that are asked for the same but for their last stages, level by level: where the one goes on, so does the other, and where the one ends with
-- a line of its own, no line says that a site is safe.
use Rattle.std.proofs.Common.{◌≡◌, ◌≢◌, ◌∙◌, ◌≤◌, inl, inr, ℕ, true, false, List, [], ◌∷◌, map, Some, None, AllPairs, Contains, refl, sym, ap, subst}
use Rattle.std.proofs.lemmas.List.Elements.{All-nil}
use Rattle.ts_outside.specs.Files.{File}
use Rattle.jvm_model.specs.declared.automaton.Automaton.{Automaton}
use Rattle.jvm_model.specs.declared.number.MethodNo.{MethodNo}
use Rattle.jvm_model.specs.declared.reason.Reason.TheVariants.{BadToml, BadProperty, BadStub, NoEntry, EntryShape, MissingClass, PairLimit, CertificateTooLarge}
use Rattle.jvm_model.specs.declared.stub.StubClass.{StubClass}
use Rattle.jvm_model.specs.LinkedPrograms.{MembersDiffer}
use Rattle.jvm_model.specs.Programs.{Program}
use Rattle.command_words.specs.declared.fault.UsageFault.{UsageFault}
use Rattle.command_words.specs.declared.fault.UsageFault.TheVariants.{Words, Modes, Range}
use Rattle.command_words.specs.declared.request.Mode.{Mode}
use Rattle.command_words.specs.declared.request.Mode.TheVariants as modes
use Rattle.command_words.specs.Requests.{Wanted, AsksFor, is_trace}
use Rattle.certificate_lines.specs.LineTexts.{line_text}
use Rattle.points_to_rules.specs.Facts.{Fact}
use Rattle.lowering_supply.specs.OneAnswer.{one_answer}
use Rattle.lowering_supply.specs.Supplied.{IsSupplied}
use Rattle.least_sets.proofs.Least.{least_is_one}
use Rattle.points_to_rules.specs.Writes.{AnyInstance}
use Rattle.report_spec.proofs.Traced.{traced_into}
use Rattle.run_spec.specs.declared.status.Status.{Status}
use Rattle.run_spec.specs.declared.status.Status.TheVariants.{Refused, Usage}
use Rattle.run_spec.specs.Inputs.{HaveDifferentNames, Input}
use Rattle.run_spec.specs.Lines.{last_of, missing_line, no_file, refused_line, usage_line}
use Rattle.run_spec.specs.Outcomes.{asked_of, run_of, AnalysisOutcome, ClassOutcome, EndsWith, EntryOutcome, FolderOutcome, LinkOutcome, Outcome, PropertyOutcome, StubOutcome, ToldOutcome, pair_limit, refused_method, analysed, reported, certified, too_large, no_class, has_class, no_entry, other_shape, has_entry, unlinked, linked, refused_folder, has_classes, no_stub_file, stubs_no_document, broken_stubs, no_stubs, has_stubs, no_property, property_no_document, broken_property, has_property, unusable, usable, files_read, lines_written}
use Rattle.run_spec.proofs.Levels.{past_class, past_entry, past_link, past_folder, past_stubs, past_property, past_words}
use Rattle.run_spec.proofs.OneAnalysis.{many_or_few, refused_or_solved}
use Rattle.run_spec.proofs.OneFolder.{files_differ}
use Rattle.run_spec.proofs.OneRequest.{AsksFor-same}
use Rattle.run_spec.proofs.ReadFiles.{read_differ}
use Rattle.run_soundness.specs.Truth.{SaysSafe}
use Rattle.run_soundness.proofs.MoreStages.{AreKeptIn, kept_with, safe_lines_kept}
use Rattle.run_soundness.proofs.LineForms.{AreFormed, certificate_unsafe, property_formed}
use Rattle.run_soundness.proofs.SafeLines.{has_a, says_a}
use Rattle.site_report.proofs.PlainLines.{Among}

-- lines none of which says it
none_says : (m lines : List (List ℕ)) → ((line : List ℕ) → Among line lines → SaysSafe line → ⊥) → AreKeptIn m lines
none_says m [] never = All-nil (λ (k : List ℕ). SaysSafe k → Contains m k)
none_says m (line ∷ lines) never =
    kept_with m lines line (λ says. absurd (never line (inl refl) says)) (none_says m lines (λ other among. never other (inr among)))

module _ (files : List File) (differ : HaveDifferentNames files) (s t : Status) (l m : List (List ℕ)) where
  abbrev Kept : Type 0
  Kept = AreKeptIn m l

  -- a line of another kind says of no site that it is safe
  none_safe : (is : Status) (line : List ℕ) → has_a line ≡ false → EndsWith s l is line → Kept
  none_safe is line other ends =
      subst (AreKeptIn m) (sym ends.lines_are)
      (kept_with m [] line (λ says. let a = says_a line says in absurd (cc (a, other))) (All-nil (λ (k : List ℕ). SaysSafe k → Contains m k)))

  of_usage : (fault : UsageFault) → EndsWith s l Usage (usage_line fault) → Kept
  of_usage Words ends = none_safe Usage (usage_line Words) refl ends
  of_usage Modes ends = none_safe Usage (usage_line Modes) refl ends
  of_usage (Range option) ends = none_safe Usage (usage_line (Range option)) refl ends

  -- an input that is asked for more stages
  module _ (i : Input) (more : ℕ) (le : i.wanted.stages ≤ more) where
    abbrev asked_for_more : Input
    asked_for_more = record i { wanted = record i.wanted { stages = more } }

    abbrev limit : ℕ
    limit = i.wanted.pair_limit

    of_told : (p : Program) (entry : MethodNo) (all other : List Fact) → ((fact : Fact) → Contains all fact → Contains other fact)
        → ((fact : Fact) → Contains other fact → Contains all fact) → ToldOutcome (run_of i p entry) all (asked_of i) i.wanted.mode s l → ToldOutcome (run_of i p entry) other (asked_of asked_for_more) i.wanted.mode t m → Kept
    of_told p entry all other to back (reported b unasked report si) (reported c unasked2 report2 ti) =
        let here = traced_into (run_of i p entry) (IsSupplied p) (Contains other) (Contains all) back to (asked_of asked_for_more) (is_trace i.wanted.mode) m c report2 in
        safe_lines_kept (run_of i p entry) (IsSupplied p) (Contains all) (asked_of i) more le (is_trace i.wanted.mode) (is_trace i.wanted.mode) l m b c report here
    of_told p entry all other to back (reported b unasked report si) (certified those c asked of fits cut ti) = absurd (cc (unasked, asked))
    of_told p entry all other to back (reported b unasked report si) (too_large those c asked of over ends) = absurd (cc (unasked, asked))
    of_told p entry all other to back (certified these b asked of fits cut si) second =
        subst (AreKeptIn m) (sym cut) (none_says m (map line_text these) (certificate_unsafe these))
    of_told p entry all other to back (too_large these b asked of over ends) second = none_safe Refused (refused_line no_file 0 CertificateTooLarge) refl ends

    of_analysis : (p : Program) (entry : MethodNo) → AnalysisOutcome i p entry s l → AnalysisOutcome asked_for_more p entry t m → Kept
    of_analysis p entry (pair_limit many ends) other = none_safe Refused (refused_line no_file 0 PairLimit) refl ends
    of_analysis p entry (refused_method r is ends) other = none_safe Refused (refused_line r.file r.offset r.reason) refl ends
    of_analysis p entry (analysed facts all is of_all told) (pair_limit many ends) =
        absurd (many_or_few p (IsSupplied p) (one_answer p) entry limit facts many.1 is.least)
    of_analysis p entry (analysed facts all is of_all told) (refused_method q is2 ends) =
        absurd (refused_or_solved p (IsSupplied p) (one_answer p) entry limit q facts is2 is)
    of_analysis p entry (analysed facts all is of_all told) (analysed others other is2 of_other told2) =
        let to = least_is_one (AnyInstance p (IsSupplied p) entry) all other of_all.least of_other.least in
        let back = least_is_one (AnyInstance p (IsSupplied p) entry) other all of_other.least of_all.least in
        of_told p entry all other to back told told2

    of_class : (p : Program) (entry : MethodNo) → ClassOutcome i p entry s l → ClassOutcome asked_for_more p entry t m → Kept
    of_class p entry (no_class none ends) other = none_safe Refused (refused_line i.wanted.property 0 MissingClass) refl ends
    of_class p entry (has_class class is next) other = of_analysis p entry next (past_class t m asked_for_more p entry class is other)

    of_entry : (p : Program) → MembersDiffer p → EntryOutcome i p s l → EntryOutcome asked_for_more p t m → Kept
    of_entry p members (no_entry none no_name ends) other = none_safe Refused (refused_line no_file 0 NoEntry) refl ends
    of_entry p members (other_shape none named ends) other = none_safe Refused (refused_line no_file 0 EntryShape) refl ends
    of_entry p members (has_entry entry is next) other = of_class p entry next (past_entry t m asked_for_more p members entry is other)

    of_link : AllPairs (λ f g. f.file ≢ g.file) i.classes → LinkOutcome i s l → LinkOutcome asked_for_more t m → Kept
    of_link apart (unlinked r links ends) other = none_safe Refused (refused_line r.file r.offset r.reason) refl ends
    of_link apart (linked p links program next) other = of_entry p program.members next (past_link t m asked_for_more apart p links other).1

  module _ (w : Wanted) (more : ℕ) (le : w.stages ≤ more) where
    -- what the second run is asked for
    abbrev pub asked_more : Wanted
    asked_more = record w { stages = more }

    of_folder : (a : Automaton) (stubs : List StubClass) → FolderOutcome files w a stubs s l → FolderOutcome files asked_more a stubs t m → Kept
    of_folder a stubs (refused_folder r is ends) other = none_safe Refused (refused_line r.file r.offset r.reason) refl ends
    of_folder a stubs (has_classes classes are next) other =
        let i : Input = record { wanted = w; property = a; stubs = stubs; classes = classes } in
        of_link i more le (files_differ files differ classes are) next (past_folder t m files differ (asked_for_more i more le) are other)

    of_stubs : (a : Automaton) → StubOutcome files w a s l → StubOutcome files asked_more a t m → Kept
    of_stubs a (no_stub_file name asked none ends) other = none_safe Usage (missing_line name) refl ends
    of_stubs a (stubs_no_document name bytes asked held bad ends) other = none_safe Refused (refused_line name 0 BadToml) refl ends
    of_stubs a (broken_stubs name bytes class asked held bad ends) other = none_safe Refused (refused_line name 0 BadStub) refl ends
    of_stubs a (no_stubs unasked next) other = of_folder a [] next (past_stubs t m files asked_more a [] None unasked refl other)
    of_stubs a (has_stubs name bytes stubs asked held are next) other =
        of_folder a stubs next (past_stubs t m files asked_more a stubs (Some name) asked (bytes, held, are) other)

    of_property : PropertyOutcome files w s l → PropertyOutcome files asked_more t m → Kept
    of_property (no_property none ends) other = none_safe Usage (missing_line w.property) refl ends
    of_property (property_no_document bytes held bad ends) other = none_safe Refused (refused_line w.property 0 BadToml) refl ends
    of_property (broken_property bytes key held bad ends) other = none_safe Refused (refused_line w.property 0 BadProperty) refl ends
    of_property (has_property bytes a held is next) other = of_stubs a next (past_property t m files asked_more bytes a held is other)

-- of the lines of a sample the last one says of no site that it is safe
written_kept : (mode : Mode) (s : Status) (l m all others : List (List ℕ)) → AreFormed s all → l ≡ lines_written mode all → m ≡ lines_written mode others
    → AreKeptIn others all → AreKeptIn m l
written_kept modes.Report s l m all others are cut cut2 kept = subst (λ (ls : List (List ℕ)). AreKeptIn ls l) (sym cut2) (subst (AreKeptIn others) (sym cut) kept)
written_kept modes.Trace s l m all others are cut cut2 kept = subst (λ (ls : List (List ℕ)). AreKeptIn ls l) (sym cut2) (subst (AreKeptIn others) (sym cut) kept)
written_kept modes.Certificate s l m all others are cut cut2 kept = subst (λ (ls : List (List ℕ)). AreKeptIn ls l) (sym cut2) (subst (AreKeptIn others) (sym cut) kept)
written_kept (modes.Sample count) s l m all others are cut cut2 kept =
    subst (AreKeptIn m) (sym (cut ∙ ap last_of are.formed.same)) (none_says m (last_of are.formed.others) are.last)

module _ (files : List File) (differ : HaveDifferentNames files) (s t : Status) (l m : List (List ℕ)) (w : Wanted) (more : ℕ) (le : w.stages ≤ more) where
  pub of_words : (words others : List (List ℕ)) → AsksFor words w → AsksFor others (record w { stages = more }) → Outcome words files s l
      → Outcome others files t m → AreKeptIn m l
  of_words words others asks asks_more (unusable fault is ends) other = of_usage files differ s t l m fault ends
  of_words words others asks asks_more (usable u all asked next cut) other =
      let read = files_read w.mode files in
      let apart = read_differ w.mode files differ in
      let here = subst (λ (k : Wanted). PropertyOutcome (files_read k.mode files) k s all × (l ≡ lines_written k.mode all)) (AsksFor-same words u w asked asks) (next, cut) in
      let there = past_words t m others files (record w { stages = more }) asks_more other in
      let kept = of_property read apart s t all there.0 w more le here.0 there.1 in
      written_kept w.mode s l m all there.0 (property_formed read w s all here.0) here.1 there.2 kept
