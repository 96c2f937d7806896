-- The outcome of a run is one: level by level, from the last one up. Of two outcomes of a level both fail at one check, or both go on to the next level.
use Rattle.std.proofs.Common.{codes, ◌≡◌, ◌≢◌, ◌∙◌, ◌<◌, ◌≤◌, ℕ, Bool, true, false, List, [], ◌∷◌, Option, Some, None, Contains, AllPairs, length, map, refl, sym, ap, subst, arith}
use Rattle.std.proofs.lemmas.Option.{same_Some, none-some}
use Rattle.ts_outside.specs.Files.{File, file_at}
use Rattle.failure.specs.declared.Failure.TheVariants.{Cause}
use Rattle.jvm_model.specs.declared.automaton.Automaton.{Automaton}
use Rattle.jvm_model.specs.declared.number.MethodNo.{MethodNo}
use Rattle.jvm_model.specs.declared.reason.Reason.{Reason}
use Rattle.jvm_model.specs.declared.reason.Reason.TheVariants.{BadToml, BadStub}
use Rattle.jvm_model.specs.declared.reason.Refusal.{Refusal}
use Rattle.jvm_model.specs.declared.stub.StubClass.{StubClass}
use Rattle.jvm_model.specs.LinkedPrograms.{IsProgram}
use Rattle.jvm_model.specs.Programs.{Program}
use Rattle.command_words.specs.declared.request.Mode.{Mode}
use Rattle.command_words.specs.declared.request.Mode.TheVariants as modes
use Rattle.command_words.specs.Command.{HasFlag}
use Rattle.command_words.specs.Requests.{Wanted, IsModeBy, is_certificate, is_trace, mode_options}
use Rattle.lowering_supply.specs.OneAnswer.{one_answer}
use Rattle.lowering_supply.specs.Supplied.{IsSupplied}
use Rattle.property_file.specs.Refusals.{IsBrokenFile}
use Rattle.property_file.proofs.Broken.{IsNoDocument-not, IsNoDocument-not_broken, IsBrokenFile-not}
use Rattle.least_sets.proofs.Least.{least_is_one}
use Rattle.points_to_rules.specs.Writes.{AnyInstance}
use Rattle.certificate_lines.specs.declared.line.Line.{Line}
use Rattle.certificate_lines.specs.LineTexts.{line_text}
use Rattle.certificate_spec.specs.Certificates.{IsCertificateOf}
use Rattle.certificate_spec.proofs.OneCertificate.{certificate_same}
use Rattle.certificates.specs.Texts.{most_bytes, text}
use Rattle.machine_bytecode.specs.Objects.{Subject}
use Rattle.points_to_rules.specs.Facts.{Fact}
use Rattle.report_spec.proofs.Traced.{lines_same, safe_same}
use Rattle.stub_file.specs.declared.stub_failure.StubFault.TheVariants as stub_faults
use Rattle.stub_file.specs.StubFile.{IsStubFile, IsStubRefusal}
use Rattle.toml_tables.specs.Documents.{IsNoDocument}
use Rattle.run_spec.specs.declared.status.Status.{Status}
use Rattle.run_spec.specs.declared.status.Status.TheVariants as statuses
use Rattle.run_spec.specs.Inputs.{HaveDifferentNames, Input}
use Rattle.run_spec.specs.Lines.{missing_line, refused_line, usage_line}
use Rattle.run_spec.specs.Outcomes.{EndsWith, Refuses, asked_of, run_of, report_status, AnalysisOutcome, pair_limit, refused_method, analysed, ToldOutcome, reported, certified, too_large, ClassOutcome, no_class, has_class, EntryOutcome, no_entry, other_shape, has_entry, LinkOutcome, unlinked, linked, FolderOutcome, refused_folder, has_classes, StubOutcome, no_stub_file, stubs_no_document, broken_stubs, no_stubs, has_stubs, PropertyOutcome, no_property, property_no_document, broken_property, has_property, Outcome, unusable, usable, files_read, lines_written}
use Rattle.run_spec.proofs.Levels.{past_class, past_entry, past_link, past_folder, past_stubs, past_property, past_words, linked_or_not, link_refusal_same, stubs_or_refused, document_or_broken}
use Rattle.run_spec.proofs.OneAnalysis.{many_or_few, refusal_same, refused_or_solved}
use Rattle.run_spec.proofs.OneFolder.{classes_or_refused, files_differ, IsRefusedFolder-same}
use Rattle.run_spec.proofs.ReadFiles.{read_differ}
use Rattle.run_spec.proofs.OneRequest.{asked_or_wrong, UsageFault-same}

bytes_same : (files : List File) (name other b c : List ℕ) → name ≡ other → file_at files name ≡ Some b → file_at files other ≡ Some c → b ≡ c
bytes_same files name other b c e x y = same_Some b c (sym x ∙ ap (file_at files) e ∙ y)

not_both : {b : Bool} → b ≡ false → b ≡ true → ⊥
not_both unasked asked = absurd (cc (unasked, asked))

fits_or_over : (all : List Line) → length (text all) ≤ most_bytes → most_bytes < length (text all) → ⊥
fits_or_over all fits over = omega arith

held_or_not : (files : List File) (name other b : List ℕ) → name ≡ other → file_at files name ≡ None → file_at files other ≡ Some b → ⊥
held_or_not files name other b e none held = none-some b (sym none ∙ ap (file_at files) e ∙ held)

module _ (s t : Status) (l m : List (List ℕ)) where
  -- The outcomes have one status, and the same lines where no derivation is told.
  abbrev Same : Bool → Type 0
  Same trace = (s ≡ t) × (trace ≡ false → l ≡ m)

  same_end : (trace : Bool) (is : Status) (y z : List ℕ) → y ≡ z → EndsWith s l is y → EndsWith t m is z → Same trace
  same_end trace is y z e x k = (x.status_is ∙ sym k.status_is, λ none. x.lines_are ∙ ap (λ (line : List ℕ). line ∷ []) e ∙ sym k.lines_are)

  same_refusal : (trace : Bool) (r q : Refusal) → r ≡ q → Refuses s l r.file r.offset r.reason → Refuses t m q.file q.offset q.reason → Same trace
  same_refusal trace r q e x k =
      same_end trace statuses.Refused (refused_line r.file r.offset r.reason) (refused_line q.file q.offset q.reason)
      (ap (λ (z : Refusal). refused_line z.file z.offset z.reason) e) x k

  -- a file is refused as a whole
  same_named : (trace : Bool) (reason : Reason) (name other : List ℕ) → name ≡ other → Refuses s l name 0 reason → Refuses t m other 0 reason → Same trace
  same_named trace reason name other e x k =
      same_end trace statuses.Refused (refused_line name 0 reason) (refused_line other 0 reason) (ap (λ (file : List ℕ). refused_line file 0 reason) e) x k

  -- ---- the analysis

  module _ (i : Input) (p : Program) (entry : MethodNo) where
    abbrev limit : ℕ
    limit = i.wanted.pair_limit

    -- what is told by the same facts
    module _ (all other : List Fact) (to : (fact : Fact) → Contains all fact → Contains other fact) (back : (fact : Fact) → Contains other fact → Contains all fact) where
      abbrev x : Subject
      x = run_of i p entry

      one : (these those : List Line) (b c : Bool) → IsCertificateOf x (IsSupplied p) (Contains all) (asked_of i) these b
          → IsCertificateOf x (IsSupplied p) (Contains other) (asked_of i) those c → (these ≡ those) × (b ≡ c)
      one these those b c is is2 = certificate_same x (IsSupplied p) (Contains all) (Contains other) to back (asked_of i) these those b c is is2

      ToldOutcome-same : ToldOutcome (run_of i p entry) all (asked_of i) i.wanted.mode s l → ToldOutcome (run_of i p entry) other (asked_of i) i.wanted.mode t m → Same (is_trace i.wanted.mode)
      ToldOutcome-same (reported b unasked report si) (reported c unasked2 report2 ti) =
          let safe = safe_same x (IsSupplied p) (asked_of i) (Contains all) (Contains other) to back (is_trace i.wanted.mode) l m b c report report2 in (
            si ∙ ap report_status safe ∙ sym ti,
            λ none. lines_same x (IsSupplied p) (asked_of i) (Contains all) (Contains other) to back (is_trace i.wanted.mode) none l m b c report report2,
          )
      ToldOutcome-same (reported b unasked report si) (certified those c asked is fits cut ti) = absurd (not_both unasked asked)
      ToldOutcome-same (reported b unasked report si) (too_large those c asked is over ends) = absurd (not_both unasked asked)
      ToldOutcome-same (certified these b asked is fits cut si) (reported c unasked report ti) = absurd (not_both unasked asked)
      ToldOutcome-same (certified these b asked is fits cut si) (certified those c asked2 is2 fits2 cut2 ti) =
          let same = one these those b c is is2 in
          (si ∙ ap report_status same.1 ∙ sym ti, λ none. cut ∙ ap (map line_text) same.0 ∙ sym cut2)
      ToldOutcome-same (certified these b asked is fits cut si) (too_large those c asked2 is2 over ends) =
          absurd (fits_or_over those (subst (λ (ls : List Line). length (text ls) ≤ most_bytes) (one these those b c is is2).0 fits) over)
      ToldOutcome-same (too_large these b asked is over ends) (reported c unasked report ti) = absurd (not_both unasked asked)
      ToldOutcome-same (too_large these b asked is over ends) (certified those c asked2 is2 fits cut ti) =
          absurd (fits_or_over those fits (subst (λ (ls : List Line). most_bytes < length (text ls)) (one these those b c is is2).0 over))
      ToldOutcome-same (too_large these b asked is over ends) (too_large those c asked2 is2 over2 ends2) = same_end (is_trace i.wanted.mode) statuses.Refused _ _ refl ends ends2

    AnalysisOutcome-same : AnalysisOutcome i p entry s l → AnalysisOutcome i p entry t m → Same (is_trace i.wanted.mode)
    AnalysisOutcome-same (pair_limit many ends) (pair_limit many2 ends2) = same_end (is_trace i.wanted.mode) statuses.Refused _ _ refl ends ends2
    AnalysisOutcome-same (pair_limit many ends) (refused_method q is ends2) =
        absurd (many_or_few p (IsSupplied p) (one_answer p) entry limit is.facts many.1 is.least)
    AnalysisOutcome-same (pair_limit many ends) (analysed facts all is of_all next) =
        absurd (many_or_few p (IsSupplied p) (one_answer p) entry limit facts many.1 is.least)
    AnalysisOutcome-same (refused_method r is ends) (pair_limit many ends2) =
        absurd (many_or_few p (IsSupplied p) (one_answer p) entry limit is.facts many.1 is.least)
    AnalysisOutcome-same (refused_method r is ends) (refused_method q is2 ends2) =
        same_refusal (is_trace i.wanted.mode) r q (refusal_same p (IsSupplied p) (one_answer p) entry limit r q is is2) ends ends2
    AnalysisOutcome-same (refused_method r is ends) (analysed facts all is2 of_all next) =
        absurd (refused_or_solved p (IsSupplied p) (one_answer p) entry limit r facts is is2)
    AnalysisOutcome-same (analysed facts all is of_all next) (pair_limit many ends) =
        absurd (many_or_few p (IsSupplied p) (one_answer p) entry limit facts many.1 is.least)
    AnalysisOutcome-same (analysed facts all is of_all next) (refused_method q is2 ends) =
        absurd (refused_or_solved p (IsSupplied p) (one_answer p) entry limit q facts is2 is)
    AnalysisOutcome-same (analysed facts all is of_all next) (analysed others other is2 of_other next2) =
        let to = least_is_one (AnyInstance p (IsSupplied p) entry) all other of_all.least of_other.least in
        let back = least_is_one (AnyInstance p (IsSupplied p) entry) other all of_other.least of_all.least in
        ToldOutcome-same all other to back next next2

    -- ---- the program

    ClassOutcome-same : ClassOutcome i p entry s l → ClassOutcome i p entry t m → Same (is_trace i.wanted.mode)
    ClassOutcome-same (no_class none ends) (no_class none2 ends2) = same_end (is_trace i.wanted.mode) statuses.Refused _ _ refl ends ends2
    ClassOutcome-same (no_class none ends) (has_class class is next) = absurd (none-some class (sym none ∙ is))
    ClassOutcome-same (has_class class is next) other = AnalysisOutcome-same next (past_class t m i p entry class is other)

  module _ (i : Input) where
    EntryOutcome-same : (p : Program) → IsProgram p → EntryOutcome i p s l → EntryOutcome i p t m → Same (is_trace i.wanted.mode)
    EntryOutcome-same p program (no_entry none no_name ends) (no_entry none2 no_name2 ends2) = same_end (is_trace i.wanted.mode) statuses.Refused _ _ refl ends ends2
    EntryOutcome-same p program (no_entry none no_name ends) (other_shape none2 named ends2) = absurd (no_name named)
    EntryOutcome-same p program (no_entry none no_name ends) (has_entry entry is next) = absurd (none entry.0 is)
    EntryOutcome-same p program (other_shape none named ends) (no_entry none2 no_name ends2) = absurd (no_name named)
    EntryOutcome-same p program (other_shape none named ends) (other_shape none2 named2 ends2) = same_end (is_trace i.wanted.mode) statuses.Refused _ _ refl ends ends2
    EntryOutcome-same p program (other_shape none named ends) (has_entry entry is next) = absurd (none entry.0 is)
    EntryOutcome-same p program (has_entry entry is next) other =
        ClassOutcome-same i p entry next (past_entry t m i p program.members entry is other)

    LinkOutcome-same : AllPairs (λ f g. f.file ≢ g.file) i.classes → LinkOutcome i s l → LinkOutcome i t m → Same (is_trace i.wanted.mode)
    LinkOutcome-same differ (unlinked r is ends) (unlinked q is2 ends2) =
        same_refusal (is_trace i.wanted.mode) r q (link_refusal_same i.stubs i.classes differ r q is is2) ends ends2
    LinkOutcome-same differ (unlinked r is ends) (linked p is2 program next) = absurd (linked_or_not i.stubs i.classes differ p r is2 is)
    LinkOutcome-same differ (linked p is program next) other = EntryOutcome-same p program next (past_link t m i differ p is other).1

  -- ---- the files

  module _ (files : List File) (differ : HaveDifferentNames files) (w : Wanted) where
    FolderOutcome-same : (a : Automaton) (stubs : List StubClass) → FolderOutcome files w a stubs s l → FolderOutcome files w a stubs t m → Same (is_trace w.mode)
    FolderOutcome-same a stubs (refused_folder r is ends) (refused_folder q is2 ends2) =
        same_refusal (is_trace w.mode) r q (IsRefusedFolder-same files differ r q is is2) ends ends2
    FolderOutcome-same a stubs (refused_folder r is ends) (has_classes classes are next) = absurd (classes_or_refused files differ classes r are is)
    FolderOutcome-same a stubs (has_classes classes are next) other =
        let input : Input = record { wanted = w; property = a; stubs = stubs; classes = classes } in
        LinkOutcome-same input (files_differ files differ classes are) next (past_folder t m files differ input are other)

    -- two names of a stub file, of its bytes
    names_same : (name other : List ℕ) → w.stubs ≡ Some name → w.stubs ≡ Some other → name ≡ other
    names_same name other x y = same_Some name other (sym x ∙ y)

    asked_or_not : (name : List ℕ) → w.stubs ≡ None → w.stubs ≡ Some name → ⊥
    asked_or_not name none asked = none-some name (sym none ∙ asked)

    abbrev Broken : List ℕ → List ℕ → Option ℕ → Type 0
    Broken name bytes class = IsStubRefusal name bytes (Cause (stub_faults.BadStub class))

    module _ (name other b c : List ℕ) (asked : w.stubs ≡ Some name) (asked2 : w.stubs ≡ Some other)
        (held : file_at files name ≡ Some b) (held2 : file_at files other ≡ Some c) where
      contents_same : b ≡ c
      contents_same = bytes_same files name other b c (names_same name other asked asked2) held held2

      no_document_or_broken : (class : Option ℕ) → IsNoDocument b → Broken other c class → ⊥
      no_document_or_broken class x y = document_or_broken other c class (subst IsNoDocument contents_same x) y

      no_document_or_stubs : (stubs : List StubClass) → IsNoDocument b → IsStubFile other c stubs → ⊥
      no_document_or_stubs stubs x y = stubs_or_refused other c stubs stub_faults.BadToml y (subst IsNoDocument contents_same x)

      broken_or_stubs : (class : Option ℕ) (stubs : List StubClass) → Broken name b class → IsStubFile other c stubs → ⊥
      broken_or_stubs class stubs x y =
          let named = subst (λ (n : List ℕ). Broken n b class) (names_same name other asked asked2) x in
          stubs_or_refused other c stubs (stub_faults.BadStub class) y (subst (λ (k : List ℕ). Broken other k class) contents_same named)

    StubOutcome-same : (a : Automaton) → StubOutcome files w a s l → StubOutcome files w a t m → Same (is_trace w.mode)
    StubOutcome-same a (no_stub_file name asked none ends) (no_stub_file other asked2 none2 ends2) =
        same_end (is_trace w.mode) statuses.Usage (missing_line name) (missing_line other) (ap missing_line (names_same name other asked asked2)) ends ends2
    StubOutcome-same a (no_stub_file name asked none ends) (stubs_no_document other bytes asked2 held bad ends2) =
        absurd (held_or_not files name other bytes (names_same name other asked asked2) none held)
    StubOutcome-same a (no_stub_file name asked none ends) (broken_stubs other bytes class asked2 held bad ends2) =
        absurd (held_or_not files name other bytes (names_same name other asked asked2) none held)
    StubOutcome-same a (no_stub_file name asked none ends) (no_stubs unasked next) = absurd (asked_or_not name unasked asked)
    StubOutcome-same a (no_stub_file name asked none ends) (has_stubs other bytes stubs asked2 held are next) =
        absurd (held_or_not files name other bytes (names_same name other asked asked2) none held)
    StubOutcome-same a (stubs_no_document name b asked held bad ends) (no_stub_file other asked2 none ends2) =
        absurd (held_or_not files other name b (names_same other name asked2 asked) none held)
    StubOutcome-same a (stubs_no_document name b asked held bad ends) (stubs_no_document other c asked2 held2 bad2 ends2) =
        same_named (is_trace w.mode) BadToml name other (names_same name other asked asked2) ends ends2
    StubOutcome-same a (stubs_no_document name b asked held bad ends) (broken_stubs other c class asked2 held2 bad2 ends2) =
        absurd (no_document_or_broken name other b c asked asked2 held held2 class bad bad2)
    StubOutcome-same a (stubs_no_document name b asked held bad ends) (no_stubs unasked next) = absurd (asked_or_not name unasked asked)
    StubOutcome-same a (stubs_no_document name b asked held bad ends) (has_stubs other c stubs asked2 held2 are next) =
        absurd (no_document_or_stubs name other b c asked asked2 held held2 stubs bad are)
    StubOutcome-same a (broken_stubs name b class asked held bad ends) (no_stub_file other asked2 none ends2) =
        absurd (held_or_not files other name b (names_same other name asked2 asked) none held)
    StubOutcome-same a (broken_stubs name b class asked held bad ends) (stubs_no_document other c asked2 held2 bad2 ends2) =
        absurd (no_document_or_broken other name c b asked2 asked held2 held class bad2 bad)
    StubOutcome-same a (broken_stubs name b class asked held bad ends) (broken_stubs other c class2 asked2 held2 bad2 ends2) =
        same_named (is_trace w.mode) BadStub name other (names_same name other asked asked2) ends ends2
    StubOutcome-same a (broken_stubs name b class asked held bad ends) (no_stubs unasked next) = absurd (asked_or_not name unasked asked)
    StubOutcome-same a (broken_stubs name b class asked held bad ends) (has_stubs other c stubs asked2 held2 are next) =
        absurd (broken_or_stubs name other b c asked asked2 held held2 class stubs bad are)
    StubOutcome-same a (no_stubs unasked next) other = FolderOutcome-same a [] next (past_stubs t m files w a [] None unasked refl other)
    StubOutcome-same a (has_stubs name bytes stubs asked held are next) other =
        FolderOutcome-same a stubs next (past_stubs t m files w a stubs (Some name) asked (bytes, held, are) other)

    PropertyOutcome-same : PropertyOutcome files w s l → PropertyOutcome files w t m → Same (is_trace w.mode)
    PropertyOutcome-same (no_property none ends) (no_property none2 ends2) = same_end (is_trace w.mode) statuses.Usage _ _ refl ends ends2
    PropertyOutcome-same (no_property none ends) (property_no_document bytes held bad ends2) =
        absurd (held_or_not files w.property w.property bytes refl none held)
    PropertyOutcome-same (no_property none ends) (broken_property bytes key held bad ends2) =
        absurd (held_or_not files w.property w.property bytes refl none held)
    PropertyOutcome-same (no_property none ends) (has_property bytes a held is next) = absurd (held_or_not files w.property w.property bytes refl none held)
    PropertyOutcome-same (property_no_document b held bad ends) (no_property none ends2) = absurd (held_or_not files w.property w.property b refl none held)
    PropertyOutcome-same (property_no_document b held bad ends) (property_no_document c held2 bad2 ends2) = same_end (is_trace w.mode) statuses.Refused _ _ refl ends ends2
    PropertyOutcome-same (property_no_document b held bad ends) (broken_property c key held2 bad2 ends2) =
        absurd (IsNoDocument-not_broken c key (subst IsNoDocument (bytes_same files w.property w.property b c refl held held2) bad) bad2)
    PropertyOutcome-same (property_no_document b held bad ends) (has_property c a held2 is next) =
        absurd (IsNoDocument-not c a (subst IsNoDocument (bytes_same files w.property w.property b c refl held held2) bad) is)
    PropertyOutcome-same (broken_property b key held bad ends) (no_property none ends2) = absurd (held_or_not files w.property w.property b refl none held)
    PropertyOutcome-same (broken_property b key held bad ends) (property_no_document c held2 bad2 ends2) =
        absurd (IsNoDocument-not_broken b key (subst IsNoDocument (bytes_same files w.property w.property c b refl held2 held) bad2) bad)
    PropertyOutcome-same (broken_property b key held bad ends) (broken_property c key2 held2 bad2 ends2) = same_end (is_trace w.mode) statuses.Refused _ _ refl ends ends2
    PropertyOutcome-same (broken_property b key held bad ends) (has_property c a held2 is next) =
        absurd (IsBrokenFile-not c key a (subst (λ (k : List ℕ). IsBrokenFile k key) (bytes_same files w.property w.property b c refl held held2) bad) is)
    PropertyOutcome-same (has_property bytes a held is next) other = StubOutcome-same a next (past_property t m files w bytes a held is other)

-- ---- the words

-- words without the flag ask for no derivations
no_traces : (words : List (List ℕ)) (mode : Mode) → IsModeBy (mode_options words) mode
    → (HasFlag words (codes "trace") → ⊥) → is_trace mode ≡ false
no_traces words modes.Report is none = refl
no_traces words modes.Trace is none = absurd (none is.0)
no_traces words modes.Certificate is none = refl
no_traces words (modes.Sample n) is none = refl

Outcome-same : (words : List (List ℕ)) (files : List File) (s t : Status) (l m : List (List ℕ)) → HaveDifferentNames files
    → Outcome words files s l → Outcome words files t m → (s ≡ t) × ((HasFlag words (codes "trace") → ⊥) → l ≡ m)
Outcome-same words files s t l m differ (unusable f is ends) (unusable g is2 ends2) =
    let both = same_end s t l m false statuses.Usage (usage_line f) (usage_line g) (ap usage_line (UsageFault-same words f g is is2)) ends ends2 in
    (both.0, λ none. both.1 refl)
Outcome-same words files s t l m differ (unusable f is ends) (usable w all asks next cut) = absurd (asked_or_wrong words w f asks is)
Outcome-same words files s t l m differ (usable w all asks next cut) other =
    let there = past_words t m words files w asks other in
    let both = PropertyOutcome-same s t all there.0 (files_read w.mode files) (read_differ w.mode files differ) w next there.1 in
    (both.0, λ none. cut ∙ ap (lines_written w.mode) (both.1 (no_traces words w.mode asks.mode none)) ∙ sym there.2)

pub status_same : (words : List (List ℕ)) (files : List File) (s t : Status) (l m : List (List ℕ)) → HaveDifferentNames files
    → Outcome words files s l → Outcome words files t m → s ≡ t
status_same words files s t l m differ x y = (Outcome-same words files s t l m differ x y).0

pub report_same : (words : List (List ℕ)) (files : List File) (s t : Status) (l m : List (List ℕ)) → HaveDifferentNames files → (HasFlag words (codes "trace") → ⊥)
    → Outcome words files s l → Outcome words files t m → l ≡ m
report_same words files s t l m differ none x y = (Outcome-same words files s t l m differ x y).1 none
