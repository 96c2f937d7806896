-- Of an input in which nothing is missing and nothing is refused the outcome is a report: each level goes on to the next one, and the last one reports.
use Rattle.std.proofs.Common.{◌≡◌, ◌⊎◌, inl, inr, ℕ, Bool, true, false, List, Some, Contains, refl, sym, subst}
use Rattle.ts_outside.specs.Files.{File}
use Rattle.jvm_model.specs.declared.automaton.Automaton.{Automaton}
use Rattle.jvm_model.specs.declared.number.MethodNo.{MethodNo}
use Rattle.jvm_model.specs.Programs.{Program}
use Rattle.jvm_model.specs.Subtypes.{class_named}
use Rattle.lowering_supply.specs.OneAnswer.{one_answer}
use Rattle.lowering_supply.specs.Supplied.{IsSupplied}
use Rattle.points_to_rules.specs.Facts.{Fact}
use Rattle.report_spec.specs.AllFacts.{AreAllFacts}
use Rattle.certificate_spec.specs.Certificates.{IsCertificateOf}
use Rattle.run_spec.specs.declared.status.Status.{Status}
use Rattle.run_spec.specs.declared.status.Status.TheVariants.{AllSafe, SomeUnproved}
use Rattle.run_spec.specs.Inputs.{HaveDifferentNames, Input}
use Rattle.run_spec.specs.Outcomes.{report_status, asked_of, run_of, AnalysisOutcome, pair_limit, refused_method, analysed, ToldOutcome, reported, certified, too_large, Outcome, PropertyOutcome}
use Rattle.run_spec.specs.WholeInputs.{HasLargeCertificate, IsWholeInput}
use Rattle.run_spec.proofs.Levels.{past_class, past_entry, past_link, past_folder, past_stubs, past_property, past_words}
use Rattle.run_spec.proofs.OneAnalysis.{many_or_few, refused_or_solved}
use Rattle.run_spec.proofs.OneFolder.{files_differ}
use Rattle.run_spec.proofs.ReadFiles.{read_are}

by_report : (s : Status) (all_safe : Bool) → s ≡ report_status all_safe → (s ≡ AllSafe) ⊎ (s ≡ SomeUnproved)
by_report s true is = inl is
by_report s false is = inr is

module _ (words : List (List ℕ)) (files : List File) (w : IsWholeInput words files) (small : HasLargeCertificate words files → ⊥) where
  abbrev i : Input
  i = w.run.input

  abbrev p : Program
  p = w.x.program

  abbrev entry : MethodNo
  entry = record { 0 = w.x.entry }

  is_told : (s : Status) (l : List (List ℕ)) (facts : List Fact) → AreAllFacts p (IsSupplied p) entry facts → ToldOutcome (run_of i p entry) facts (asked_of i) i.wanted.mode s l → (s ≡ AllSafe) ⊎ (s ≡ SomeUnproved)
  is_told s l facts of_all (reported all_safe unasked report status) = by_report s all_safe status
  is_told s l facts of_all (certified certificate all_safe asked is fits cut status) = by_report s all_safe status
  is_told s l facts of_all (too_large certificate all_safe asked is over ends) = absurd (small (record {
    x = w.x;
    run = w.run;
    asked = asked;
    facts = facts;
    of_all = of_all;
    certificate = certificate;
    all_safe = all_safe;
    is = subst (λ (a : Automaton). IsCertificateOf (record { program = p; property = a; entry = w.x.entry }) (IsSupplied p) (Contains facts) (asked_of i) certificate all_safe)
        w.run.property is;
    over = over;
  }))

  solved : (s : Status) (l : List (List ℕ)) → AnalysisOutcome i p entry s l → (s ≡ AllSafe) ⊎ (s ≡ SomeUnproved)
  solved s l (pair_limit many ends) = absurd (many_or_few p (IsSupplied p) (one_answer p) entry i.wanted.pair_limit w.facts many.1 w.solution.least)
  solved s l (refused_method r is ends) = absurd (refused_or_solved p (IsSupplied p) (one_answer p) entry i.wanted.pair_limit r w.facts is w.solution)
  solved s l (analysed found facts is of_all next) = is_told s l facts of_all next

-- the levels of a whole input lead to its analysis
past_levels : (words : List (List ℕ)) (files : List File) (s : Status) (l : List (List ℕ)) → HaveDifferentNames files → (w : IsWholeInput words files)
    → Outcome words files s l → (all : List (List ℕ)) × AnalysisOutcome w.run.input w.x.program (record { 0 = w.x.entry }) s all
past_levels words files s l differ w o =
    let i = w.run.input in
    let is = w.run.is_input in
    let p = w.x.program in
    let of_words = past_words s l words files i.wanted is.asks o in
    let all = of_words.0 in
    let of_files = subst (λ (fs : List File). PropertyOutcome fs i.wanted s all) (read_are i.wanted.mode files is.of_tree) of_words.1 in
    let of_property = past_property s all files i.wanted is.property_bytes i.property is.property_held is.property of_files in
    let of_stubs = past_stubs s all files i.wanted i.property i.stubs i.wanted.stubs refl is.stubs of_property in
    let of_folder = past_folder s all files differ i is.classes of_stubs in
    let of_link = past_link s all i (files_differ files differ i.classes is.classes) p w.run.links of_folder in
    let of_entry = past_entry s all i p of_link.0.members (record { 0 = w.x.entry }) w.run.entry of_link.1 in
    let there = subst (λ (a : Automaton). class_named p a.class_name ≡ Some w.class) (sym w.run.property) w.is_class in
    (all, past_class s all i p (record { 0 = w.x.entry }) w.class there of_entry)

pub whole_is_reported : (words : List (List ℕ)) (files : List File) (s : Status) (l : List (List ℕ)) → HaveDifferentNames files → IsWholeInput words files
    → (HasLargeCertificate words files → ⊥) → Outcome words files s l → (s ≡ AllSafe) ⊎ (s ≡ SomeUnproved)
whole_is_reported words files s l differ w small o =
    let there = past_levels words files s l differ w o in
    solved words files w small s there.0 there.1
