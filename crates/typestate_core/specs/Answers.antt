-- Public contracts rest on this module.
-- What a run answers, what the sink has taken then, and what was handed to it.
use Rattle.std.specs.Prelude.{◌≡◌, ℕ, Bool, false, List, [], Option, Result, Ok, Err}
use Rattle.ts_outside.specs.Files.{File}
use Rattle.ts_outside.specs.Handed.{Handed}
use Rattle.failure.specs.declared.Failure.{Failure}
use Rattle.failure.specs.declared.Failure.TheVariants.{Cause, OutOfMemory}
use Rattle.jvm_model.specs.declared.automaton.Automaton.{Automaton}
use Rattle.jvm_model.specs.declared.program.NamedClass.{NamedClass}
use Rattle.jvm_model.specs.declared.stub.StubClass.{StubClass}
use Rattle.class_maker.specs.Sample.{sample_files}
use Rattle.command_words.specs.Requests.{Wanted}
use Rattle.run_spec.specs.declared.status.Status.{Status}
use Rattle.run_spec.specs.declared.status.Status.TheVariants.{AllSafe, SomeUnproved, Refused, RejectedCertificate, ReadFault, WriteFault, Usage, Memory}
use Rattle.typestate_core.specs.declared.answer.Answer.{Answer}
use Rattle.typestate_core.specs.declared.answer.ReadFault.{ReadFault as Unread}
use Rattle.run_spec.specs.Inputs.{Input}
use Rattle.run_spec.specs.Lines.{last_of}
use Rattle.run_spec.specs.Outcomes.{Outcome, PropertyOutcome}
use Rattle.report_analysis.specs.Texts.{text_of}
use Rattle.typestate_core.specs.ReadingOrder.{is_report}
use Rattle.typestate_core.specs.Output.{TakesAll, TakesFront, Hands, HandsInVain, lines_in}

-- The lines of an answer: its text is cut after each newline.
abbrev pub lines_of : Answer → List (List ℕ)
lines_of a = lines_in a.text.items

-- The answer has this status and these lines.
pub record Says (a : Answer) (status : Status) (lines : List (List ℕ)) : Type 0 where
  pub status_is : a.status ≡ status
  pub lines_are : lines_of a ≡ lines

-- The answer is that on the files of the sample with so many methods, of which the last line is kept.
abbrev pub IsOnSample : Wanted → (count : ℕ) → Status → List (List ℕ) → Type 0
IsOnSample w count status lines = (all : List (List ℕ)) × PropertyOutcome (sample_files count) w status all × (lines ≡ last_of all)

-- It holds of each input that is asked for this and has this property, whatever its stubs and its class files are.
abbrev pub OfInputs : Wanted → Automaton → (Input → Type 0) → Type 0
OfInputs w a P = (stubs : List StubClass) (classes : List NamedClass) → P (record { wanted = w; property = a; stubs = stubs; classes = classes })

-- The cause of a run that has nothing to say.
abbrev pub read_fault : Unread
read_fault = record {}

-- A status that comes with lines of its own.
abbrev pub IsReported : Status → Type 0
IsReported AllSafe = Unit {0}
IsReported SomeUnproved = Unit {0}
IsReported Refused = Unit {0}
IsReported Usage = Unit {0}
IsReported RejectedCertificate = ⊥
IsReported ReadFault = ⊥
IsReported WriteFault = ⊥
IsReported Memory = ⊥

-- The run answers as its outcome says, and the sink has taken the outcome's lines. Where reading fails or
-- memory runs out, nothing is written. Where writing fails, the sink has taken some of the first bytes of
-- the lines that were being written.
abbrev pub AnswersRun : List (List ℕ) → List File → Status → Option (List ℕ) → Option (List ℕ) → Type 0
AnswersRun words files ReadFault old new = new ≡ old
AnswersRun words files Memory old new = new ≡ old
AnswersRun words files WriteFault old new =
    (status : Status) × (lines : List (List ℕ)) × Outcome words files status lines × TakesFront old new (text_of lines)
AnswersRun words files AllSafe old new = (lines : List (List ℕ)) × Outcome words files AllSafe lines × TakesAll old new (text_of lines)
AnswersRun words files SomeUnproved old new = (lines : List (List ℕ)) × Outcome words files SomeUnproved lines × TakesAll old new (text_of lines)
AnswersRun words files Refused old new = (lines : List (List ℕ)) × Outcome words files Refused lines × TakesAll old new (text_of lines)
AnswersRun words files Usage old new = (lines : List (List ℕ)) × Outcome words files Usage lines × TakesAll old new (text_of lines)
AnswersRun words files RejectedCertificate old new = ⊥

-- The calls of the run hand out the lines of its outcome, each as a piece of its own: all of them, or where writing
-- fails, up to the call that failed, which is the last one. Where reading fails or memory runs out, there is no call.
abbrev pub HandsRun : List (List ℕ) → List File → Status → Option (List Handed) → Option (List Handed) → Type 0
HandsRun words files ReadFault old new = new ≡ old
HandsRun words files Memory old new = new ≡ old
HandsRun words files WriteFault old new =
    (status : Status) × (lines : List (List ℕ)) × Outcome words files status lines × HandsInVain old new lines
HandsRun words files AllSafe old new = (lines : List (List ℕ)) × Outcome words files AllSafe lines × Hands old new lines []
HandsRun words files SomeUnproved old new = (lines : List (List ℕ)) × Outcome words files SomeUnproved lines × Hands old new lines []
HandsRun words files Refused old new = (lines : List (List ℕ)) × Outcome words files Refused lines × Hands old new lines []
HandsRun words files Usage old new = (lines : List (List ℕ)) × Outcome words files Usage lines × Hands old new lines []
HandsRun words files RejectedCertificate old new = ⊥

-- A report, or an answer that says nothing of the input.
abbrev pub IsReportOrFault : Status → Type 0
IsReportOrFault AllSafe = Unit {0}
IsReportOrFault SomeUnproved = Unit {0}
IsReportOrFault Refused = ⊥
IsReportOrFault Usage = ⊥
IsReportOrFault RejectedCertificate = ⊥
IsReportOrFault ReadFault = Unit {0}
IsReportOrFault WriteFault = Unit {0}
IsReportOrFault Memory = Unit {0}

-- Whether what was judged is a report.
abbrev pub reports : {E : Type 0} → Result Answer E → Bool
reports (Ok a) = is_report a.status
reports (Err failure) = false

-- Where the words ask for nothing, that is said, or memory ran out.
abbrev pub SaysUsage : Result Answer (Failure Unread) → Type 0
SaysUsage (Ok a) = a.status ≡ Usage
SaysUsage (Err (Cause fault)) = ⊥
SaysUsage (Err OutOfMemory) = Unit {0}
