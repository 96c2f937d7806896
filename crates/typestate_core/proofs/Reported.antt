-- From the analysis and what is told of it to the outcome: it is told by all facts of the analysis.
use Rattle.std.proofs.Common.{◌≡◌, ◌∙◌, ◌<◌, ◌≤◌, ℕ, Bool, true, false, Contains, List, [], ◌∷◌, length, Result, Ok, Err, IfOk, ap, refl, subst}
use Rattle.failure.specs.declared.Failure.{Failure}
use Rattle.failure.specs.declared.Failure.TheVariants.{Cause}
use Rattle.jvm_model.specs.declared.automaton.Automaton.{Automaton}
use Rattle.jvm_model.specs.declared.number.MethodNo.{MethodNo}
use Rattle.jvm_model.specs.declared.reason.Reason.TheVariants.{CertificateTooLarge}
use Rattle.jvm_model.specs.Programs.{Program}
use Rattle.machine_bytecode.specs.Objects.{Subject}
use Rattle.ground.specs.Findings.{Findings}
use Rattle.certificate_lines.specs.declared.line.Line.{Line}
use Rattle.certificate_spec.specs.Certificates.{IsCertificateOf}
use Rattle.certificates.specs.declared.fault.CertificateFault.{CertificateFault}
use Rattle.certificates.specs.declared.fault.CertificateFault.TheVariants.{TooLarge}
use Rattle.certificates.specs.Texts.{IsWriteEnd, most_bytes, text}
use Rattle.command_words.specs.declared.request.Mode.{Mode}
use Rattle.command_words.specs.Requests.{Wanted, is_certificate, is_trace}
use Rattle.report_analysis.specs.Analyses.{IsAnalysis}
use Rattle.lowering_supply.specs.Supplied.{IsSupplied}
use Rattle.points_to_rules.specs.Facts.{Fact}
use Rattle.report_spec.specs.Traces.{IsTracedReport}
use Rattle.report_spec.specs.Verdicts.{Asked}
use Rattle.run_spec.specs.declared.status.Status.{Status}
use Rattle.run_spec.specs.declared.status.Status.TheVariants as statuses
use Rattle.run_spec.specs.Lines.{no_file, refused_line}
use Rattle.run_spec.specs.Outcomes.{AnalysisOutcome, ToldOutcome, analysed, certified, report_status, reported, too_large}
use Rattle.typestate_core.specs.declared.answer.Answer.{Answer}
use Rattle.typestate_core.specs.Answers.{OfInputs, Says, lines_of}
use Rattle.typestate_core.specs.Numbers.{asked_by}
use Rattle.typestate_core.specs.Output.{lines_in}
use Rattle.typestate_core.proofs.TextLines.{certificate_cut}

-- a program with a property and an entry
abbrev run : Program → Automaton → ℕ → Subject
run p a entry = record { program = p; property = a; entry = entry }

pub analysis_told : {E : Type 0} (r : Result Answer E) (w : Wanted) (a : Automaton) (p : Program) (entry : MethodNo) (limit : ℕ) (g : Findings)
    → limit ≡ w.pair_limit → IsAnalysis p (IsSupplied p) entry limit g
    → IfOk r (λ x. ToldOutcome (run g.program a entry.0) g.facts (asked_by w) w.mode x.status (lines_of x))
    → IfOk r (λ x. OfInputs w a (λ i. AnalysisOutcome i p entry x.status (lines_of x)))
analysis_told (Err e) w a p entry limit g limit_is at_limit says = tt
analysis_told (Ok x) w a p entry limit g limit_is at_limit says = λ stubs classes.
    let analysis : IsAnalysis p (IsSupplied p) entry w.pair_limit g = subst (λ (n : ℕ). IsAnalysis p (IsSupplied p) entry n g) limit_is at_limit in
    let of_program = subst (λ (q : Program). ToldOutcome (run q a entry.0) g.facts (asked_by w) w.mode x.status (lines_of x)) analysis.program says in
    analysed analysis.found g.facts analysis.solution (record { least = analysis.least; unrefused = analysis.unrefused }) of_program

-- a report, where no certificate is asked for
pub report_told : {E : Type 0} (r : Result Answer E) (x : Subject) (facts : List Fact) (w : Asked) (mode : Mode) (trace : Bool) → trace ≡ is_trace mode → is_certificate mode ≡ false
    → IfOk r (λ a. (all_safe : Bool) × IsTracedReport x (IsSupplied x.program) (Contains facts) w trace (lines_of a) all_safe × (a.status ≡ report_status all_safe))
    → IfOk r (λ a. ToldOutcome x facts w mode a.status (lines_of a))
report_told (Err e) x facts w mode trace trace_is unasked says = tt
report_told (Ok a) x facts w mode trace trace_is unasked (all_safe, report, is) =
    reported all_safe unasked (subst (λ (t : Bool). IsTracedReport x (IsSupplied x.program) (Contains facts) w t (lines_of a) all_safe) trace_is report) is

-- what holds of each mode that asks for a certificate holds of one
pub of_mode : {E : Type 0} (r : Result Answer E) (x : Subject) (facts : List Fact) (w : Asked) (mode : Mode) → is_certificate mode ≡ true
    → IfOk r (λ a. (m : Mode) → is_certificate m ≡ true → ToldOutcome x facts w m a.status (lines_of a))
    → IfOk r (λ a. ToldOutcome x facts w mode a.status (lines_of a))
of_mode (Err e) x facts w mode asked says = tt
of_mode (Ok a) x facts w mode asked says = says mode asked

-- ---- a certificate

module _ (x : Subject) (facts : List Fact) (w : Asked) (certificate : List Line) (all_safe : Bool)
    (of : IsCertificateOf x (IsSupplied x.program) (Contains facts) w certificate all_safe) (these : List Line) (same : these ≡ certificate) where
  -- that was written
  pub certified_told : (bytes : List ℕ) → bytes ≡ text these → length bytes ≤ most_bytes → (status : Status) → status ≡ report_status all_safe → (mode : Mode)
      → is_certificate mode ≡ true → ToldOutcome x facts w mode status (lines_in bytes)
  certified_told bytes wrote room status is mode asked =
      let whole : bytes ≡ text certificate = wrote ∙ ap text same in
      certified certificate all_safe asked of (subst (λ (bs : List ℕ). length bs ≤ most_bytes) whole room) (certificate_cut certificate bytes whole) is

-- there is one fault
pub only_fault : (fault : CertificateFault) → fault ≡ TooLarge
only_fault TooLarge = refl

-- that is too large
pub large_told : {E : Type 0} (r : Result Answer E) (x : Subject) (facts : List Fact) (w : Asked) (certificate : List Line) (all_safe : Bool)
    → IsCertificateOf x (IsSupplied x.program) (Contains facts) w certificate all_safe → (these : List Line) → these ≡ certificate
    → (failure : Failure CertificateFault) → IsWriteEnd these failure → failure ≡ Cause TooLarge
    → IfOk r (λ a. Says a statuses.Refused (refused_line no_file 0 CertificateTooLarge ∷ []))
    → IfOk r (λ a. (mode : Mode) → is_certificate mode ≡ true → ToldOutcome x facts w mode a.status (lines_of a))
large_told (Err e) x facts w certificate all_safe of these same failure end is says = tt
large_told (Ok a) x facts w certificate all_safe of these same failure end is says = λ mode asked.
    let over : most_bytes < length (text these) = subst (λ (f : Failure CertificateFault). IsWriteEnd these f) is end in
    too_large certificate all_safe asked of (subst (λ (ls : List Line). most_bytes < length (text ls)) same over)
    (record { status_is = says.status_is; lines_are = says.lines_are })
