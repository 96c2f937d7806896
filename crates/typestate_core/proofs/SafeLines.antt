-- From the lines of an outcome to what the sink took of them: where a line that says that a site is safe stands in that, it stands in the lines.
use Rattle.std.proofs.Common.{◌≡◌, ◌∙◌, ℕ, List, [], ◌∷◌, ◌++◌, take, drop, length, Option, Some, None, IfSome, option_map, sym, ap, append_assoc, length-append, subst, arith}
use Rattle.std.proofs.lemmas.List.{append_cancel_left, take-append-drop}
use Rattle.ts_outside.specs.Files.{File}
use Rattle.run_soundness.specs.Truth.{SaysSafe}
use Rattle.run_spec.specs.declared.status.Status.{Status}
use Rattle.run_spec.specs.declared.status.Status.TheVariants as statuses
use Rattle.run_spec.specs.Inputs.{AsksForSample}
use Rattle.run_spec.specs.Outcomes.{Outcome}
use Rattle.run_soundness.specs.Claims.{KeepsProtocol, StandsIn, WroteLine}
use Rattle.typestate_core.specs.Answers.{AnswersRun}
use Rattle.report_analysis.specs.Texts.{text_of}
use Rattle.typestate_core.specs.Output.{TakesAll, TakesFront}
use Rattle.typestate_core.proofs.Written.{TakesAll-nil}

-- The laws of runs.
abbrev AreWritten : (List (List ℕ) → List File → List ℕ → Type 0) → Type 0
AreWritten Q =
    (words : List (List ℕ)) (files : List File) (s : Status) (lines : List (List ℕ)) → Outcome words files s lines → (line : List ℕ)
    → StandsIn (text_of lines) line → SaysSafe line → Q words files line

abbrev AreAllKept : Type 0
AreAllKept =
    (words : List (List ℕ)) (files : List File) (lines : List (List ℕ)) → Outcome words files statuses.AllSafe lines → (AsksForSample words → ⊥)
    → KeepsProtocol words files

-- what the sink took is what it was given
taken : (old new : Option (List ℕ)) (line bytes : List ℕ) (wrote : WroteLine old new line) → TakesAll old new bytes → bytes ≡ wrote.text
taken old new line bytes wrote takes =
    let same : Some (wrote.before ++ bytes) ≡ Some (wrote.before ++ wrote.text) =
    sym (takes ∙ ap (option_map (λ (t : List ℕ). t ++ bytes)) wrote.before_is) ∙ wrote.new_is in
    append_cancel_left wrote.before bytes wrote.text (cc)

-- a line of a text stands in a longer one too
stands_on : (text more line : List ℕ) → StandsIn text line → StandsIn (text ++ more) line
stands_on text more line s = record {
  front = s.front;
  whole = s.whole;
  rest = s.rest ++ more;
  text_is = ap (λ xs. xs ++ more) s.text_is ∙ (append_assoc s.front (line ++ s.rest) more ∙ ap (λ xs. s.front ++ xs) (append_assoc line s.rest more));
  content = s.content;
  plain = s.plain;
  line_is = s.line_is;
}

-- no line stands in no text
none_stands : (line : List ℕ) → StandsIn [] line → ⊥
none_stands line s =
    absurd (omega (arith, ap length s.text_is ∙ length-append s.front (line ++ s.rest), length-append line s.rest, ap length s.line_is ∙ length-append s.content (10 ∷ [])))

module _ (Q : List (List ℕ) → List File → List ℕ → Type 0) (law : AreWritten Q) (words : List (List ℕ)) (files : List File) (old new : Option (List ℕ)) (line : List ℕ)
    (wrote : WroteLine old new line) (says : SaysSafe line) where
  of_all : (s : Status) → ((lines : List (List ℕ)) × Outcome words files s lines × TakesAll old new (text_of lines)) → Q words files line
  of_all s (lines, outcome, takes) =
      law words files s lines outcome line (subst (λ (t : List ℕ). StandsIn t line) (sym (taken old new line (text_of lines) wrote takes)) wrote.stands) says

  of_front : (s : Status) (lines : List (List ℕ)) → Outcome words files s lines → TakesFront old new (text_of lines) → Q words files line
  of_front s lines outcome (count, fits, takes) =
      let here = subst (λ (t : List ℕ). StandsIn t line) (sym (taken old new line (take count (text_of lines)) wrote takes)) wrote.stands in
      let whole = stands_on (take count (text_of lines)) (drop count (text_of lines)) line here in
      law words files s lines outcome line (subst (λ (t : List ℕ). StandsIn t line) (take-append-drop count (text_of lines)) whole) says

  not_written : new ≡ old → ⊥
  not_written same =
      none_stands line (subst (λ (t : List ℕ). StandsIn t line) (sym (taken old new line [] wrote (same ∙ TakesAll-nil old))) wrote.stands)

  by_status : (s : Status) → AnswersRun words files s old new → Q words files line
  by_status statuses.AllSafe answers = of_all statuses.AllSafe answers
  by_status statuses.SomeUnproved answers = of_all statuses.SomeUnproved answers
  by_status statuses.Refused answers = of_all statuses.Refused answers
  by_status statuses.Usage answers = of_all statuses.Usage answers
  by_status statuses.RejectedCertificate answers = absurd answers
  by_status statuses.ReadFault answers = absurd (not_written answers)
  by_status statuses.Memory answers = absurd (not_written answers)
  by_status statuses.WriteFault (s, lines, outcome, takes) = of_front s lines outcome takes

pub told_of_lines : (Q : List (List ℕ) → List File → List ℕ → Type 0) → AreWritten Q → (o : Option (List File)) (words : List (List ℕ)) (status : Status)
    (old new : Option (List ℕ)) → IfSome o (λ files. AnswersRun words files status old new)
    → IfSome o (λ files. (line : List ℕ) → WroteLine old new line → SaysSafe line → Q words files line)
told_of_lines Q law None words status old new told = tt
told_of_lines Q law (Some files) words status old new told = λ line wrote says. by_status Q law words files old new line wrote says status told

pub all_safe_told : AreAllKept → (o : Option (List File)) (words : List (List ℕ)) (status : Status) (old new : Option (List ℕ))
    → IfSome o (λ files. AnswersRun words files status old new) → IfSome o (λ files. status ≡ statuses.AllSafe → (AsksForSample words → ⊥) → KeepsProtocol words files)
all_safe_told law None words status old new told = tt
all_safe_told law (Some files) words status old new told = λ is none.
    let safe = subst (λ (s : Status). AnswersRun words files s old new) is told in
    law words files safe.0 safe.1 none
