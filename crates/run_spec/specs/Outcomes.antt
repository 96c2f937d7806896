-- Public contracts rest on this module.
-- What a run answers, from the words and the files of the tree: a status, and the lines that are written. The checks stand in their order, a level
-- for each thing that is read or made: each of its cases but the last is a check that fails, and the last one goes on to the next level.
use Rattle.std.specs.Prelude.{◌≡◌, ◌<◌, ◌≤◌, ℕ, Bool, true, false, List, [], ◌∷◌, length, map, Option, Some, None, Ok, Err, Contains}
use Rattle.ts_outside.specs.Files.{File, file_at}
use Rattle.failure.specs.declared.Failure.TheVariants.{Cause}
use Rattle.jvm_model.specs.declared.automaton.Automaton.{Automaton}
use Rattle.jvm_model.specs.declared.number.MethodNo.{MethodNo}
use Rattle.jvm_model.specs.declared.program.NamedClass.{NamedClass}
use Rattle.jvm_model.specs.declared.reason.Reason.{Reason}
use Rattle.jvm_model.specs.declared.reason.Reason.TheVariants.{BadToml, BadProperty, BadStub, NoEntry, EntryShape, MissingClass, PairLimit, CertificateTooLarge}
use Rattle.jvm_model.specs.declared.reason.Refusal.{Refusal}
use Rattle.jvm_model.specs.declared.stub.StubClass.{StubClass}
use Rattle.jvm_model.specs.LinkedPrograms.{IsProgram}
use Rattle.jvm_model.specs.Linking.{Links}
use Rattle.jvm_model.specs.Programs.{Class, Program}
use Rattle.jvm_model.specs.Subtypes.{class_named}
use Rattle.certificate_lines.specs.declared.line.Line.{Line}
use Rattle.certificate_lines.specs.LineTexts.{line_text}
use Rattle.certificate_spec.specs.Certificates.{IsCertificateOf}
use Rattle.certificates.specs.Texts.{most_bytes, text}
use Rattle.class_folder.specs.ClassFiles.{AreClassFiles, IsRefusedFolder}
use Rattle.class_maker.specs.Sample.{sample_files}
use Rattle.command_words.specs.declared.fault.UsageFault.{UsageFault}
use Rattle.command_words.specs.declared.request.Mode.{Mode}
use Rattle.command_words.specs.declared.request.Mode.TheVariants as modes
use Rattle.command_words.specs.Requests.{Wanted, AsksFor, IsUsageFault, is_certificate, is_trace}
use Rattle.entry_points.specs.Entries.{IsEntry, NamesMethod}
use Rattle.lowering_supply.specs.Supplied.{IsSupplied}
use Rattle.machine_bytecode.specs.Objects.{Subject}
use Rattle.points_to_rules.specs.declared.solve_fault.SolveFault.TheVariants as solve_faults
use Rattle.points_to_rules.specs.Solutions.{IsSolution, IsSolveEnd}
use Rattle.points_to_rules.specs.Facts.{Fact}
use Rattle.property_file.specs.PropertyFile.{IsPropertyFile}
use Rattle.property_file.specs.Refusals.{IsBrokenFile}
use Rattle.report_spec.specs.AllFacts.{AreAllFacts}
use Rattle.report_spec.specs.Traces.{IsTracedReport}
use Rattle.report_spec.specs.Verdicts.{Asked}
use Rattle.stub_file.specs.declared.stub_failure.StubFault.TheVariants as stub_faults
use Rattle.stub_file.specs.StubFile.{IsStubFile, IsStubRefusal}
use Rattle.toml_tables.specs.Documents.{IsNoDocument}
use Rattle.run_spec.specs.declared.status.Status.{Status}
use Rattle.run_spec.specs.declared.status.Status.TheVariants as statuses
use Rattle.run_spec.specs.Inputs.{Input, all_stubs}
use Rattle.run_spec.specs.Lines.{last_of, no_file, missing_line, refused_line, usage_line}

-- ---- what is said where a check fails

-- The run ends with this status and this line alone.
pub record EndsWith (status : Status) (lines : List (List ℕ)) (is : Status) (line : List ℕ) : Type 0 where
  pub status_is : status ≡ is
  pub lines_are : lines ≡ line ∷ []

-- Something is refused; a file that the words name is not there.
abbrev pub Refuses : Status → List (List ℕ) → (file : List ℕ) → (offset : ℕ) → Reason → Type 0
Refuses status lines file offset reason = EndsWith status lines statuses.Refused (refused_line file offset reason)

abbrev pub Misses : Status → List (List ℕ) → (name : List ℕ) → Type 0
Misses status lines name = EndsWith status lines statuses.Usage (missing_line name)

-- ---- the analysis

-- What is asked of an input: by the stages up to the last one that the words ask for, with their depth and their limit.
abbrev pub asked_of : Input → Asked
asked_of i = record { stages = i.wanted.stages; depth = i.wanted.depth; fact_limit = i.wanted.fact_limit }

-- What is run: a program with an entry, and the property of the input.
abbrev pub run_of : Input → Program → MethodNo → Subject
run_of i p entry = record { program = p; property = i.property; entry = entry.0 }

-- The status where each tracked site is safe, and where not.
abbrev pub report_status : Bool → Status
report_status true = statuses.AllSafe
report_status false = statuses.SomeUnproved

-- What is told of an analysis, by all facts: the report, with derivations if these are asked for; or the certificate, if that is asked for; or that it is
-- too large.
pub data ToldOutcome (x : Subject) (facts : List Fact) (w : Asked) (mode : Mode) (status : Status) (lines : List (List ℕ)) : Type 0 where
  reported : (all_safe : Bool) → is_certificate mode ≡ false → IsTracedReport x (IsSupplied x.program) (Contains facts) w (is_trace mode) lines all_safe
      → status ≡ report_status all_safe → ToldOutcome x facts w mode status lines
  certified : (certificate : List Line) (all_safe : Bool) → is_certificate mode ≡ true
      → IsCertificateOf x (IsSupplied x.program) (Contains facts) w certificate all_safe
      → length (text certificate) ≤ most_bytes → lines ≡ map line_text certificate
      → status ≡ report_status all_safe → ToldOutcome x facts w mode status lines
  too_large : (certificate : List Line) (all_safe : Bool) → is_certificate mode ≡ true
      → IsCertificateOf x (IsSupplied x.program) (Contains facts) w certificate all_safe
      → most_bytes < length (text certificate) → Refuses status lines no_file 0 CertificateTooLarge → ToldOutcome x facts w mode status lines

-- There are too many pairs of a place and a site; or a method that may run, or a call in one, is refused; or all facts are found.
pub data AnalysisOutcome (i : Input) (p : Program) (entry : MethodNo) (status : Status) (lines : List (List ℕ)) : Type 0 where
  pair_limit : IsSolveEnd p (IsSupplied p) entry i.wanted.pair_limit (Cause (solve_faults.PairLimit i.wanted.pair_limit))
      → Refuses status lines no_file 0 PairLimit → AnalysisOutcome i p entry status lines
  refused_method : (r : Refusal) → IsSolveEnd p (IsSupplied p) entry i.wanted.pair_limit (Cause (solve_faults.Refused r))
      → Refuses status lines r.file r.offset r.reason → AnalysisOutcome i p entry status lines
  analysed : (found facts : List Fact) → IsSolution p (IsSupplied p) entry i.wanted.pair_limit found
      → AreAllFacts p (IsSupplied p) entry facts → ToldOutcome (run_of i p entry) facts (asked_of i) i.wanted.mode status lines → AnalysisOutcome i p entry status lines

-- ---- the program

-- The property's class is not in the program.
pub data ClassOutcome (i : Input) (p : Program) (entry : MethodNo) (status : Status) (lines : List (List ℕ)) : Type 0 where
  no_class : class_named p i.property.class_name ≡ None → Refuses status lines i.wanted.property 0 MissingClass → ClassOutcome i p entry status lines
  has_class : (class : Class) → class_named p i.property.class_name ≡ Some class → AnalysisOutcome i p entry status lines
      → ClassOutcome i p entry status lines

-- No class file has a method of the entry's class and name; or none of them can start the program.
pub data EntryOutcome (i : Input) (p : Program) (status : Status) (lines : List (List ℕ)) : Type 0 where
  no_entry : ((entry : ℕ) → IsEntry p i.wanted.class i.wanted.method entry → ⊥) → (NamesMethod i.classes i.wanted.class i.wanted.method → ⊥)
      → Refuses status lines no_file 0 NoEntry → EntryOutcome i p status lines
  other_shape : ((entry : ℕ) → IsEntry p i.wanted.class i.wanted.method entry → ⊥) → NamesMethod i.classes i.wanted.class i.wanted.method
      → Refuses status lines no_file 0 EntryShape → EntryOutcome i p status lines
  has_entry : (entry : MethodNo) → IsEntry p i.wanted.class i.wanted.method entry.0 → ClassOutcome i p entry status lines → EntryOutcome i p status lines

-- The classes do not link.
pub data LinkOutcome (i : Input) (status : Status) (lines : List (List ℕ)) : Type 0 where
  unlinked : (r : Refusal) → Links i.classes (all_stubs i.stubs) (Err r) → Refuses status lines r.file r.offset r.reason → LinkOutcome i status lines
  linked : (p : Program) → Links i.classes (all_stubs i.stubs) (Ok p) → IsProgram p → EntryOutcome i p status lines → LinkOutcome i status lines

-- ---- the files

-- There are too many class files, or one is refused.
pub data FolderOutcome (files : List File) (w : Wanted) (a : Automaton) (stubs : List StubClass) (status : Status) (lines : List (List ℕ)) : Type 0 where
  refused_folder : (r : Refusal) → IsRefusedFolder files r → Refuses status lines r.file r.offset r.reason → FolderOutcome files w a stubs status lines
  has_classes : (classes : List NamedClass) → AreClassFiles files classes
      → LinkOutcome (record { wanted = w; property = a; stubs = stubs; classes = classes }) status lines → FolderOutcome files w a stubs status lines

-- The stub file is not there; it is no TOML document; or it breaks a rule of a key or of a class.
pub data StubOutcome (files : List File) (w : Wanted) (a : Automaton) (status : Status) (lines : List (List ℕ)) : Type 0 where
  no_stub_file : (name : List ℕ) → w.stubs ≡ Some name → file_at files name ≡ None → Misses status lines name → StubOutcome files w a status lines
  stubs_no_document : (name bytes : List ℕ) → w.stubs ≡ Some name → file_at files name ≡ Some bytes → IsNoDocument bytes
      → Refuses status lines name 0 BadToml → StubOutcome files w a status lines
  broken_stubs : (name bytes : List ℕ) (class : Option ℕ) → w.stubs ≡ Some name → file_at files name ≡ Some bytes
      → IsStubRefusal name bytes (Cause (stub_faults.BadStub class)) → Refuses status lines name 0 BadStub → StubOutcome files w a status lines
  no_stubs : w.stubs ≡ None → FolderOutcome files w a [] status lines → StubOutcome files w a status lines
  has_stubs : (name bytes : List ℕ) (stubs : List StubClass) → w.stubs ≡ Some name → file_at files name ≡ Some bytes → IsStubFile name bytes stubs
      → FolderOutcome files w a stubs status lines → StubOutcome files w a status lines

-- The property file is not there; it is no TOML document; or it breaks a rule of a key.
pub data PropertyOutcome (files : List File) (w : Wanted) (status : Status) (lines : List (List ℕ)) : Type 0 where
  no_property : file_at files w.property ≡ None → Misses status lines w.property → PropertyOutcome files w status lines
  property_no_document : (bytes : List ℕ) → file_at files w.property ≡ Some bytes → IsNoDocument bytes
      → Refuses status lines w.property 0 BadToml → PropertyOutcome files w status lines
  broken_property : (bytes key : List ℕ) → file_at files w.property ≡ Some bytes → IsBrokenFile bytes key
      → Refuses status lines w.property 0 BadProperty → PropertyOutcome files w status lines
  has_property : (bytes : List ℕ) (a : Automaton) → file_at files w.property ≡ Some bytes → IsPropertyFile bytes a
      → StubOutcome files w a status lines → PropertyOutcome files w status lines

-- ---- the words

-- The files that a run reads: those of its tree, or where a sample is asked for, those of the sample.
abbrev pub files_read : Mode → List File → List File
files_read modes.Report files = files
files_read modes.Trace files = files
files_read modes.Certificate files = files
files_read (modes.Sample count) files = sample_files count

-- Of lines on a sample the last one alone is written: the summary, or why there is none.
abbrev pub lines_written : Mode → List (List ℕ) → List (List ℕ)
lines_written modes.Report lines = lines
lines_written modes.Trace lines = lines
lines_written modes.Certificate lines = lines
lines_written (modes.Sample count) lines = last_of lines

pub data Outcome (words : List (List ℕ)) (files : List File) (status : Status) (lines : List (List ℕ)) : Type 0 where
  -- The words are not those of a run, or ask for two modes, or a number among them is not of its form or range.
  unusable : (fault : UsageFault) → IsUsageFault words fault → EndsWith status lines statuses.Usage (usage_line fault) → Outcome words files status lines
  usable : (w : Wanted) (all : List (List ℕ)) → AsksFor words w → PropertyOutcome (files_read w.mode files) w status all → lines ≡ lines_written w.mode all
      → Outcome words files status lines
