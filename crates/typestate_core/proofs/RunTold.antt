-- From the outcome and what was written to what the run says of the input.
use Rattle.std.proofs.Common.{◌≡◌, ◌∙◌, ◌⊎◌, inl, inr, ℕ, List, Option, Some, None, IfSome, sym, subst}
use Rattle.ts_outside.specs.Files.{File}
use Rattle.run_spec.specs.declared.status.Status.{Status}
use Rattle.run_spec.specs.declared.status.Status.TheVariants as statuses
use Rattle.run_spec.specs.Inputs.{HaveDifferentNames}
use Rattle.run_spec.specs.Outcomes.{Outcome}
use Rattle.run_spec.specs.WholeInputs.{HasLargeCertificate, IsWholeInput}
use Rattle.typestate_core.specs.declared.answer.Answer.{Answer}
use Rattle.typestate_core.specs.Answers.{AnswersRun, IsReported, IsReportOrFault, lines_of}
use Rattle.report_analysis.specs.Texts.{text_of}
use Rattle.typestate_core.specs.Output.{TakesAll, TakesFront}
use Rattle.typestate_core.proofs.Cutting.{text_of_lines}

by_status : (words : List (List ℕ)) (files : List File) (lines : List (List ℕ)) (old new : Option (List ℕ)) (s : Status)
    → IsReported s → TakesAll old new (text_of lines) → Outcome words files s lines → AnswersRun words files s old new
by_status words files lines old new statuses.AllSafe r takes outcome = (lines, outcome, takes)
by_status words files lines old new statuses.SomeUnproved r takes outcome = (lines, outcome, takes)
by_status words files lines old new statuses.Refused r takes outcome = (lines, outcome, takes)
by_status words files lines old new statuses.Usage r takes outcome = (lines, outcome, takes)
by_status words files lines old new statuses.RejectedCertificate r takes outcome = absurd r
by_status words files lines old new statuses.ReadFault r takes outcome = absurd r
by_status words files lines old new statuses.WriteFault r takes outcome = absurd r
by_status words files lines old new statuses.Memory r takes outcome = absurd r

-- The text was written to its end.
pub written_told : (o : Option (List File)) (words : List (List ℕ)) (answer : Answer) (text : List ℕ) (old new : Option (List ℕ))
    → text ≡ answer.text.items → IsReported answer.status → IfSome o (λ files. Outcome words files answer.status (lines_of answer)) → TakesAll old new text
    → IfSome o (λ files. AnswersRun words files answer.status old new)
written_told None words answer text old new text_is reported told takes = tt
written_told (Some files) words answer text old new text_is reported told takes =
    let lines = subst (TakesAll old new) (text_is ∙ sym (text_of_lines answer.text.items)) takes in
    by_status words files (lines_of answer) old new answer.status reported lines told

-- Some of the first bytes of the text were written, and then writing failed.
pub front_told : (o : Option (List File)) (words : List (List ℕ)) (answer : Answer) (text : List ℕ) (old new : Option (List ℕ))
    → text ≡ answer.text.items → IfSome o (λ files. Outcome words files answer.status (lines_of answer)) → TakesFront old new text
    → IfSome o (λ files. AnswersRun words files statuses.WriteFault old new)
front_told None words answer text old new text_is told takes = tt
front_told (Some files) words answer text old new text_is told takes =
    (answer.status, lines_of answer, told, subst (TakesFront old new) (text_is ∙ sym (text_of_lines answer.text.items)) takes)

-- ---- a whole input

-- The law: its outcome is a report.
abbrev IsLaw : Type 0
IsLaw = (words : List (List ℕ)) (files : List File) (s : Status) (l : List (List ℕ)) → HaveDifferentNames files → IsWholeInput words files
    → (HasLargeCertificate words files → ⊥) → Outcome words files s l → (s ≡ statuses.AllSafe) ⊎ (s ≡ statuses.SomeUnproved)

-- a status is a report's only if it is one of these
is_report : (s : Status) → (s ≡ statuses.AllSafe) ⊎ (s ≡ statuses.SomeUnproved) → IsReportOrFault s
is_report s (inl is) = let P : Status → Type 0 = λ t. IsReportOrFault t in subst P (sym is) tt
is_report s (inr is) = let P : Status → Type 0 = λ t. IsReportOrFault t in subst P (sym is) tt

whole_by_status : IsLaw → (words : List (List ℕ)) (files : List File) (old new : Option (List ℕ)) (s : Status) → HaveDifferentNames files → IsWholeInput words files
    → (HasLargeCertificate words files → ⊥) → AnswersRun words files s old new → IsReportOrFault s
whole_by_status law words files old new statuses.AllSafe differ whole small told = tt
whole_by_status law words files old new statuses.SomeUnproved differ whole small told = tt
whole_by_status law words files old new statuses.Refused differ whole small told = is_report statuses.Refused (law words files statuses.Refused told.0 differ whole small told.1)
whole_by_status law words files old new statuses.Usage differ whole small told = is_report statuses.Usage (law words files statuses.Usage told.0 differ whole small told.1)
whole_by_status law words files old new statuses.RejectedCertificate differ whole small told = absurd told
whole_by_status law words files old new statuses.ReadFault differ whole small told = tt
whole_by_status law words files old new statuses.WriteFault differ whole small told = tt
whole_by_status law words files old new statuses.Memory differ whole small told = tt

pub complete_told : IsLaw → (o : Option (List File)) (words : List (List ℕ)) (status : Status) (old new : Option (List ℕ))
    → IfSome o (λ files. AnswersRun words files status old new)
    → IfSome o (λ files. HaveDifferentNames files → IsWholeInput words files → (HasLargeCertificate words files → ⊥) → IsReportOrFault status)
complete_told law None words status old new told = tt
complete_told law (Some files) words status old new told = λ differ whole small. whole_by_status law words files old new status differ whole small told
