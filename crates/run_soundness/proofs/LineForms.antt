-- Each line of an outcome is a line, and only that of a report says that a site is safe.
use Rattle.std.proofs.Common.{codes, ◌≡◌, ◌∙◌, ◌⊎◌, inl, inr, ℕ, zero, suc, ◌-◌, Bool, true, false, not, eqb, nat_eq, List, [], ◌∷◌, ◌++◌, length, drop, map, zip, refl, sym, ap, subst, arith}
use Rattle.std.proofs.Math.Seq.{drop-append_seam}
use Rattle.std.proofs.lemmas.List.{length-append}
use Rattle.std.specs.List.{AllByRecursion, flat_map, list_all}
use Rattle.std.specs.Prelude.{slice_index_or}
use Rattle.ts_outside.specs.Files.{File}
use Rattle.jvm_model.specs.declared.automaton.Automaton.{Automaton}
use Rattle.jvm_model.specs.declared.number.MethodNo.{MethodNo}
use Rattle.jvm_model.specs.declared.reason.Reason.{Reason}
use Rattle.jvm_model.specs.declared.reason.Reason.TheVariants.{Truncated, BadMagic, BadVersion, BadTag, BadIndex, BadUtf8, BadDescriptor, TrailingBytes, CodeMissing, CodeUnexpected, ClassTooLarge, BadOpcode, BadTarget, CodeCut, StackUnder, StackOver, StackMerge, FallsOff, BadLocal, BadHandler, Subroutine, InvokeDynamic, MethodConstant, DuplicateClass, MissingClass, Cycle, MissingField, MissingMethod, NoStub, NoImplementation, ClashingDefaults, PackageOverride, KindMismatch, Reflection, Threads, Finalizer, BadToml, BadProperty, BadStub, NoEntry, EntryShape, TooManyFiles, PairLimit, CertificateTooLarge}
use Rattle.jvm_model.specs.declared.stub.StubClass.{StubClass}
use Rattle.jvm_model.specs.Programs.{Program}
use Rattle.jvm_model.specs.Words.{word_of}
use Rattle.command_words.specs.declared.fault.NumberOption.{NumberOption}
use Rattle.command_words.specs.declared.fault.NumberOption.TheVariants as options
use Rattle.command_words.specs.declared.fault.UsageFault.{UsageFault}
use Rattle.command_words.specs.declared.fault.UsageFault.TheVariants.{Words, Modes, Range}
use Rattle.command_words.specs.declared.request.Mode.{Mode}
use Rattle.command_words.specs.declared.request.Mode.TheVariants as modes
use Rattle.command_words.specs.Requests.{Wanted, AsksFor}
use Rattle.certificate_lines.specs.declared.line.Line.{Line}
use Rattle.certificate_lines.specs.LineTexts.{line_text}
use Rattle.certificate_spec.proofs.PlainCertificates.{lines_are_lines, no_second_a}
use Rattle.points_to_rules.specs.Facts.{Fact}
use Rattle.report_spec.specs.Reports.{summary_of}
use Rattle.report_spec.specs.Traces.{site_lines, traced_lines}
use Rattle.report_spec.proofs.Traced.{traced_are_lines}
use Rattle.run_spec.specs.declared.status.Status.{Status}
use Rattle.run_spec.specs.declared.status.Status.TheVariants.{AllSafe, SomeUnproved, Refused, Usage}
use Rattle.run_spec.specs.Inputs.{AsksForSample, Input, IsOfTree}
use Rattle.run_spec.specs.Lines.{last_of, missing_line, no_file, option_word, refused_line, usage_line}
use Rattle.run_spec.specs.Outcomes.{asked_of, run_of, AnalysisOutcome, ClassOutcome, EndsWith, EntryOutcome, FolderOutcome, LinkOutcome, Misses, Outcome, PropertyOutcome, Refuses, StubOutcome, ToldOutcome, pair_limit, refused_method, analysed, reported, certified, too_large, report_status, no_class, has_class, no_entry, other_shape, has_entry, unlinked, linked, refused_folder, has_classes, no_stub_file, stubs_no_document, broken_stubs, no_stubs, has_stubs, no_property, property_no_document, broken_property, has_property, unusable, usable, files_read, lines_written}
use Rattle.run_spec.proofs.OneRequest.{AsksFor-same, asked_or_wrong}
use Rattle.run_soundness.specs.Truth.{SaysSafe}
use Rattle.site_report.specs.Lines.{summary_line}
use Rattle.site_report.proofs.PlainLines.{IsLine, Among, IsPlain-test, word, number, name, ended}

-- ---- single lines

word_plain : (r : Reason) → list_all (λ b. not (eqb b 10)) (word_of r) ≡ true
word_plain Truncated = refl
word_plain BadMagic = refl
word_plain BadVersion = refl
word_plain BadTag = refl
word_plain BadIndex = refl
word_plain BadUtf8 = refl
word_plain BadDescriptor = refl
word_plain TrailingBytes = refl
word_plain CodeMissing = refl
word_plain CodeUnexpected = refl
word_plain ClassTooLarge = refl
word_plain BadOpcode = refl
word_plain BadTarget = refl
word_plain CodeCut = refl
word_plain StackUnder = refl
word_plain StackOver = refl
word_plain StackMerge = refl
word_plain FallsOff = refl
word_plain BadLocal = refl
word_plain BadHandler = refl
word_plain Subroutine = refl
word_plain InvokeDynamic = refl
word_plain MethodConstant = refl
word_plain DuplicateClass = refl
word_plain MissingClass = refl
word_plain Cycle = refl
word_plain MissingField = refl
word_plain MissingMethod = refl
word_plain NoStub = refl
word_plain NoImplementation = refl
word_plain ClashingDefaults = refl
word_plain PackageOverride = refl
word_plain KindMismatch = refl
word_plain Reflection = refl
word_plain Threads = refl
word_plain Finalizer = refl
word_plain BadToml = refl
word_plain BadProperty = refl
word_plain BadStub = refl
word_plain NoEntry = refl
word_plain EntryShape = refl
word_plain TooManyFiles = refl
word_plain PairLimit = refl
word_plain CertificateTooLarge = refl

pub refused_is_line : (file : List ℕ) (offset : ℕ) (reason : Reason) → IsLine (refused_line file offset reason)
refused_is_line file offset reason =
    ended (word (word_of reason) (word_plain reason) (word (codes " ") refl (number offset (word (codes " ") refl (name file (IsPlain-test (codes "refused ") refl))))))

pub missing_is_line : (file : List ℕ) → IsLine (missing_line file)
missing_is_line file = ended (name file (IsPlain-test (codes "missing ") refl))

option_plain : (o : NumberOption) → list_all (λ b. not (eqb b 10)) (option_word o) ≡ true
option_plain options.Stages = refl
option_plain options.Depth = refl
option_plain options.FactLimit = refl
option_plain options.PairLimit = refl
option_plain options.Sample = refl

pub usage_is_line : (fault : UsageFault) → IsLine (usage_line fault)
usage_is_line Words = ended (IsPlain-test (codes "usage words") refl)
usage_is_line Modes = ended (IsPlain-test (codes "usage modes") refl)
usage_is_line (Range option) = ended (word (option_word option) (option_plain option) (IsPlain-test (codes "usage range ") refl))

-- ---- what is known of an outcome

abbrev pub IsReport : Status → Type 0
IsReport s = (s ≡ AllSafe) ⊎ (s ≡ SomeUnproved)

-- Its lines are lines, and one of them that says that a site is safe is that of a report.
pub record IsFormed (s : Status) (lines : List (List ℕ)) : Type 0 where
  pub others : List (List ℕ)
  pub same : lines ≡ others
  pub are : AllByRecursion IsLine others
  pub reports : (line : List ℕ) → Among line others → SaysSafe line → IsReport s

-- So they are, and the last one does not say it.
pub record AreFormed (s : Status) (lines : List (List ℕ)) : Type 0 where
  pub formed : IsFormed s lines
  pub last : (line : List ℕ) → Among line (last_of formed.others) → SaysSafe line → ⊥

-- the second letter of the word that says that a site is safe
abbrev has_a : List ℕ → Bool
has_a line = nat_eq (slice_index_or line 1 0) 97

says_a : (line : List ℕ) → SaysSafe line → has_a line ≡ true
says_a line (rest, e) = ap has_a e

ends_formed : (s is : Status) (lines : List (List ℕ)) (line : List ℕ) → IsLine line → has_a line ≡ false → EndsWith s lines is line → AreFormed s lines
ends_formed s is lines line is_line other ends = record {
  formed = record { others = line ∷ []; same = ends.lines_are; are = (is_line, tt); reports = λ found among says. absurd (never found among says) };
  last = never;
}
  where
    never : (found : List ℕ) → Among found (line ∷ []) → SaysSafe found → ⊥
    never found (inl e) says = let a = says_a found says in let b = ap has_a e in absurd (cc (a, b, other))
    never found (inr none) says = none

refuses_formed : (s : Status) (lines : List (List ℕ)) (file : List ℕ) (offset : ℕ) (reason : Reason) → Refuses s lines file offset reason → AreFormed s lines
refuses_formed s lines file offset reason ends = ends_formed s Refused lines (refused_line file offset reason) (refused_is_line file offset reason) refl ends

misses_formed : (s : Status) (lines : List (List ℕ)) (file : List ℕ) → Misses s lines file → AreFormed s lines
misses_formed s lines file ends = ends_formed s Usage lines (missing_line file) (missing_is_line file) refl ends

usage_formed : (s : Status) (lines : List (List ℕ)) (fault : UsageFault) → EndsWith s lines Usage (usage_line fault) → AreFormed s lines
usage_formed s lines Words ends = ends_formed s Usage lines (usage_line Words) (usage_is_line Words) refl ends
usage_formed s lines Modes ends = ends_formed s Usage lines (usage_line Modes) (usage_is_line Modes) refl ends
usage_formed s lines (Range option) ends = ends_formed s Usage lines (usage_line (Range option)) (usage_is_line (Range option)) refl ends

status_reports : (all_safe : Bool) (s : Status) → s ≡ report_status all_safe → IsReport s
status_reports true s is = inl is
status_reports false s is = inr is

-- the last of lines behind which one more stands is this one
last_is : (lines : List (List ℕ)) (line : List ℕ) → last_of (lines ++ line ∷ []) ≡ line ∷ []
last_is lines line =
    let count : length (lines ++ line ∷ []) - 1 ≡ length lines = omega (arith, length-append lines (line ∷ [])) in
    ap (λ n. drop n (lines ++ line ∷ [])) count ∙ drop-append_seam lines (line ∷ [])

-- a summary says of no site that it is safe
summary_unsafe : (safe unproved limit : ℕ) (found : List ℕ) → Among found (summary_line safe unproved limit ∷ []) → SaysSafe found → ⊥
summary_unsafe safe unproved limit found (inl e) says = let a = says_a found says in absurd (cc a)
summary_unsafe safe unproved limit found (inr none) says = none

-- nor does a line of a certificate
pub certificate_unsafe : (certificate : List Line) (found : List ℕ) → Among found (map line_text certificate) → SaysSafe found → ⊥
certificate_unsafe [] found none says = none
certificate_unsafe (x ∷ certificate) found (inl e) says = let a = says_a found says in let b = ap has_a e in let other = no_second_a x in absurd (cc (a, b, other))
certificate_unsafe (x ∷ certificate) found (inr more) says = certificate_unsafe certificate found more says

-- what is among the last of some lines is among them
among_dropped : (n : ℕ) (lines : List (List ℕ)) (line : List ℕ) → Among line (drop n lines) → Among line lines
among_dropped zero lines line among = among
among_dropped (suc n) [] line among = among
among_dropped (suc n) (other ∷ lines) line among = inr (among_dropped n lines line among)

-- ---- the levels

told_formed : (i : Input) (p : Program) (entry : MethodNo) (facts : List Fact) (s : Status) (lines : List (List ℕ)) → ToldOutcome (run_of i p entry) facts (asked_of i) i.wanted.mode s lines → AreFormed s lines
told_formed i p entry facts s lines (reported all_safe unasked report is) = record {
  formed = record {
    others = traced_lines p i.wanted.stages report.report.found report.traces;
    same = report.lines_are;
    are = traced_are_lines p i.wanted.stages report.report.found report.traces;
    reports = λ line among says. status_reports all_safe s is;
  };
  last = λ line among says. summary_unsafe _ _ _ line (subst (λ (ls : List (List ℕ)). Among line ls) (last_is (flat_map (site_lines p i.wanted.stages) (zip report.report.found report.traces)) (summary_of report.report.found)) among) says;
}
told_formed i p entry facts s lines (certified certificate all_safe asked of fits cut is) = record {
  formed = record {
    others = map line_text certificate;
    same = cut;
    are = lines_are_lines certificate;
    reports = λ line among says. absurd (certificate_unsafe certificate line among says);
  };
  last = λ line among says. certificate_unsafe certificate line (among_dropped (length (map line_text certificate) - 1) (map line_text certificate) line among) says;
}
told_formed i p entry facts s lines (too_large certificate all_safe asked of over ends) = refuses_formed s lines no_file 0 CertificateTooLarge ends

analysis_formed : (i : Input) (p : Program) (entry : MethodNo) (s : Status) (lines : List (List ℕ)) → AnalysisOutcome i p entry s lines → AreFormed s lines
analysis_formed i p entry s lines (pair_limit end ends) = refuses_formed s lines no_file 0 PairLimit ends
analysis_formed i p entry s lines (refused_method r end ends) = refuses_formed s lines r.file r.offset r.reason ends
analysis_formed i p entry s lines (analysed found facts solution of_all told) = told_formed i p entry facts s lines told

class_formed : (i : Input) (p : Program) (entry : MethodNo) (s : Status) (lines : List (List ℕ)) → ClassOutcome i p entry s lines → AreFormed s lines
class_formed i p entry s lines (no_class none ends) = refuses_formed s lines i.wanted.property 0 MissingClass ends
class_formed i p entry s lines (has_class class named outcome) = analysis_formed i p entry s lines outcome

entry_formed : (i : Input) (p : Program) (s : Status) (lines : List (List ℕ)) → EntryOutcome i p s lines → AreFormed s lines
entry_formed i p s lines (no_entry none names ends) = refuses_formed s lines no_file 0 NoEntry ends
entry_formed i p s lines (other_shape none names ends) = refuses_formed s lines no_file 0 EntryShape ends
entry_formed i p s lines (has_entry entry is outcome) = class_formed i p entry s lines outcome

link_formed : (i : Input) (s : Status) (lines : List (List ℕ)) → LinkOutcome i s lines → AreFormed s lines
link_formed i s lines (unlinked r links ends) = refuses_formed s lines r.file r.offset r.reason ends
link_formed i s lines (linked p links program outcome) = entry_formed i p s lines outcome

folder_formed : (files : List File) (w : Wanted) (a : Automaton) (stubs : List StubClass) (s : Status) (lines : List (List ℕ)) → FolderOutcome files w a stubs s lines
    → AreFormed s lines
folder_formed files w a stubs s lines (refused_folder r refused ends) = refuses_formed s lines r.file r.offset r.reason ends
folder_formed files w a stubs s lines (has_classes classes are outcome) =
    link_formed (record { wanted = w; property = a; stubs = stubs; classes = classes }) s lines outcome

stubs_formed : (files : List File) (w : Wanted) (a : Automaton) (s : Status) (lines : List (List ℕ)) → StubOutcome files w a s lines → AreFormed s lines
stubs_formed files w a s lines (no_stub_file file given missing ends) = misses_formed s lines file ends
stubs_formed files w a s lines (stubs_no_document file bytes given held bad ends) = refuses_formed s lines file 0 BadToml ends
stubs_formed files w a s lines (broken_stubs file bytes class given held bad ends) = refuses_formed s lines file 0 BadStub ends
stubs_formed files w a s lines (no_stubs none outcome) = folder_formed files w a [] s lines outcome
stubs_formed files w a s lines (has_stubs file bytes stubs given held gives outcome) = folder_formed files w a stubs s lines outcome

pub property_formed : (files : List File) (w : Wanted) (s : Status) (lines : List (List ℕ)) → PropertyOutcome files w s lines → AreFormed s lines
property_formed files w s lines (no_property missing ends) = misses_formed s lines w.property ends
property_formed files w s lines (property_no_document bytes held bad ends) = refuses_formed s lines w.property 0 BadToml ends
property_formed files w s lines (broken_property bytes key held bad ends) = refuses_formed s lines w.property 0 BadProperty ends
property_formed files w s lines (has_property bytes a held gives outcome) = stubs_formed files w a s lines outcome

-- the lines that are written of these
all_dropped : (n : ℕ) (xs : List (List ℕ)) → AllByRecursion IsLine xs → AllByRecursion IsLine (drop n xs)
all_dropped zero xs all = all
all_dropped (suc n) [] all = all
all_dropped (suc n) (x ∷ xs) all = all_dropped n xs all.1

-- So are those of an outcome, and on a sample none says it.
pub record AreWritten (words : List (List ℕ)) (s : Status) (lines : List (List ℕ)) : Type 0 where
  pub others : List (List ℕ)
  pub same : lines ≡ others
  pub are : AllByRecursion IsLine others
  pub reports : (line : List ℕ) → Among line others → SaysSafe line → IsReport s
  pub of_sample : AsksForSample words → (line : List ℕ) → Among line others → SaysSafe line → ⊥

module _ (words : List (List ℕ)) (s : Status) (lines all : List (List ℕ)) (w : Wanted) (asks : AsksFor words w) (formed : AreFormed s all) where
  -- all of them are written
  all_written : IsOfTree w.mode → lines ≡ all → AreWritten words s lines
  all_written plain same = record {
    others = formed.formed.others;
    same = same ∙ formed.formed.same;
    are = formed.formed.are;
    reports = formed.formed.reports;
    of_sample = λ (v, asks_other, count, is) line among says.
        absurd (subst IsOfTree (ap (λ (k : Wanted). k.mode) (AsksFor-same words w v asks asks_other) ∙ is) plain);
  }

  -- the last one is
  last_written : lines ≡ last_of all → AreWritten words s lines
  last_written same = record {
    others = last_of formed.formed.others;
    same = same ∙ ap last_of formed.formed.same;
    are = all_dropped (length formed.formed.others - 1) formed.formed.others formed.formed.are;
    reports = λ line among says. absurd (formed.last line among says);
    of_sample = λ sample line among says. formed.last line among says;
  }

  written_formed : (mode : Mode) → w.mode ≡ mode → lines ≡ lines_written mode all → AreWritten words s lines
  written_formed modes.Report is cut = all_written (subst IsOfTree (sym is) tt) cut
  written_formed modes.Trace is cut = all_written (subst IsOfTree (sym is) tt) cut
  written_formed modes.Certificate is cut = all_written (subst IsOfTree (sym is) tt) cut
  written_formed (modes.Sample count) is cut = last_written cut

usage_written : (words : List (List ℕ)) (s : Status) (lines : List (List ℕ)) → AreFormed s lines → (AsksForSample words → ⊥) → AreWritten words s lines
usage_written words s lines formed none = record {
  others = formed.formed.others;
  same = formed.formed.same;
  are = formed.formed.are;
  reports = formed.formed.reports;
  of_sample = λ sample line among says. none sample;
}

pub outcome_formed : (words : List (List ℕ)) (files : List File) (s : Status) (lines : List (List ℕ)) → Outcome words files s lines → AreWritten words s lines
outcome_formed words files s lines (unusable fault bad ends) =
    usage_written words s lines (usage_formed s lines fault ends) (λ (w, asks, count, is). asked_or_wrong words w fault asks bad)
outcome_formed words files s lines (usable w all asks outcome cut) =
    written_formed words s lines all w asks (property_formed (files_read w.mode files) w s all outcome) w.mode refl cut
