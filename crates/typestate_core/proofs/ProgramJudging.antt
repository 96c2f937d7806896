-- From what was found of the program to the outcome of its levels: linking, the entry, the property's class, and the analysis.
use Rattle.std.proofs.Common.{◌≡◌, ◌↔◌, ◌∙◌, ℕ, Bool, false, List, [], ◌∷◌, Some, None, Ok, Err, Result, IfOk, IsTrue, refl, sym, subst}
use Rattle.std.proofs.lemmas.Bool.{false≢true}
use Rattle.failure.specs.declared.Failure.{Failure}
use Rattle.failure.specs.declared.Failure.TheVariants.{Cause, OutOfMemory}
use Rattle.jvm_model.specs.declared.automaton.Automaton.{Automaton}
use Rattle.jvm_model.specs.declared.number.ClassNo.{ClassNo}
use Rattle.jvm_model.specs.declared.number.MethodNo.{MethodNo}
use Rattle.jvm_model.specs.declared.program.NamedClass.{NamedClass}
use Rattle.jvm_model.specs.declared.reason.Reason.TheVariants.{NoEntry, MissingClass, PairLimit}
use Rattle.jvm_model.specs.declared.reason.Refusal.{Refusal}
use Rattle.jvm_model.specs.declared.stub.StubClass.{StubClass}
use Rattle.jvm_model.specs.LinkedPrograms.{IsProgram}
use Rattle.jvm_model.specs.Linking.{Links}
use Rattle.jvm_model.specs.Programs.{Program}
use Rattle.jvm_model.specs.Subtypes.{class_named}
use Rattle.program_model.specs.declared.link_failure.LinkFault.{LinkFault}
use Rattle.program_model.specs.declared.link_failure.LinkFault.TheVariants as links
use Rattle.program_model.specs.Numbers.{name_at, IsClassNumber}
use Rattle.program_linking.specs.LinkAnswers.{IsLinkAnswer}
use Rattle.hierarchy.proofs.ClassPlaces.{class_of_number, not_named}
use Rattle.command_words.specs.Requests.{Wanted}
use Rattle.entry_points.specs.Entries.{IsEntry, NamesMethod}
use Rattle.lowering_supply.specs.Supplied.{IsSupplied}
use Rattle.points_to_rules.specs.declared.solve_fault.SolveFault.{SolveFault}
use Rattle.points_to_rules.specs.declared.solve_fault.SolveFault.TheVariants as solve_faults
use Rattle.points_to_rules.specs.Solutions.{IsSolveEnd}
use Rattle.run_spec.specs.declared.status.Status.{Status}
use Rattle.run_spec.specs.declared.status.Status.TheVariants as statuses
use Rattle.run_spec.specs.Inputs.{Input, all_stubs}
use Rattle.run_spec.specs.Lines.{no_file, refused_line}
use Rattle.run_spec.specs.Outcomes.{AnalysisOutcome, ClassOutcome, EndsWith, EntryOutcome, LinkOutcome, pair_limit, refused_method, no_class, has_class, no_entry, has_entry, unlinked, linked}
use Rattle.typestate_core.specs.declared.answer.Answer.{Answer}
use Rattle.typestate_core.specs.Answers.{OfInputs, Says, lines_of}
use Rattle.typestate_core.specs.Ends.{SaysEnd}
use Rattle.typestate_core.proofs.Options.{if_ok}

-- What is said of the answer.
abbrev Told : {E : Type 0} → Result Answer E → (Status → List (List ℕ) → Type 0) → Type 0
Told r Q = IfOk r (λ a. Q a.status (lines_of a))

-- Something is refused in one line.
abbrev SaysLine : {E : Type 0} → Result Answer E → List ℕ → Type 0
SaysLine r line = IfOk r (λ a. Says a statuses.Refused (line ∷ []))

said : {E : Type 0} (r : Result Answer E) (line : List ℕ) (Q : Status → List (List ℕ) → Type 0) → SaysLine r line
    → ((s : Status) (l : List (List ℕ)) → EndsWith s l statuses.Refused line → Q s l) → Told r Q
said r line Q says h =
    if_ok r (λ (a : Answer). Says a statuses.Refused (line ∷ [])) (λ (a : Answer). Q a.status (lines_of a)) says
    (λ a s. h a.status (lines_of a) (record { status_is = s.status_is; lines_are = s.lines_are }))

-- ---- linking

module _ {E : Type 0} (r : Result Answer E) (i : Input) (all : List StubClass) (all_are : all ≡ all_stubs i.stubs) where
  pub unlinked_told : (text : List ℕ) (failure : Failure LinkFault) (refusal : Refusal) → IsLinkAnswer i.classes all (Err failure)
      → failure ≡ Cause (links.Refused refusal)
      → text ≡ refusal.file → SaysLine r (refused_line text refusal.offset refusal.reason) → Told r (LinkOutcome i)
  unlinked_told text failure refusal answer is text_is says =
      said r (refused_line text refusal.offset refusal.reason) (LinkOutcome i) says (λ s l ends.
      let refused : IsLinkAnswer i.classes all (Err (Cause (links.Refused refusal))) =
      subst (λ (f : Failure LinkFault). IsLinkAnswer i.classes all (Err f)) is answer in
      unlinked refusal (subst (λ (xs : List StubClass). Links i.classes xs (Err refusal)) all_are refused)
      (subst (λ (t : List ℕ). EndsWith s l statuses.Refused (refused_line t refusal.offset refusal.reason)) text_is ends))

  -- Of each input that is asked for this and has this property.
  abbrev ToldOfEntry : Bool → Program → Answer → Type 0
  ToldOfEntry named p x =
      OfInputs i.wanted i.property (λ j. IsTrue named ↔ NamesMethod j.classes i.wanted.class i.wanted.method → EntryOutcome j p x.status (lines_of x))

  pub linked_told : (named : Bool) (files : List NamedClass) (p : Program) → files ≡ i.classes
      → IsTrue named ↔ NamesMethod files i.wanted.class i.wanted.method → Links i.classes all (Ok p) → IsProgram p
      → IfOk r (λ x. OfInputs i.wanted i.property (λ j.
      IsTrue named ↔ NamesMethod j.classes i.wanted.class i.wanted.method → EntryOutcome j p x.status (lines_of x)))
      → Told r (LinkOutcome i)
  linked_told named files p same names links program told =
      if_ok r (ToldOfEntry named p) (λ (x : Answer). LinkOutcome i x.status (lines_of x)) told (λ x outcome.
      linked p (subst (λ (xs : List StubClass). Links i.classes xs (Ok p)) all_are links) program
      (outcome i.stubs i.classes (subst (λ (xs : List NamedClass). IsTrue named ↔ NamesMethod xs i.wanted.class i.wanted.method) same names)))

-- ---- the entry

module _ {E : Type 0} (r : Result Answer E) (w : Wanted) (a : Automaton) (p : Program) where
  -- What is said of each input that is asked for this and has this property.
  abbrev ToldOf : (Input → Status → List (List ℕ) → Type 0) → Answer → Type 0
  ToldOf Q x = OfInputs w a (λ i. Q i x.status (lines_of x))

  -- The same where it is known whether one of the class files has a method of the entry's name.
  abbrev ToldOfFiles : Bool → Answer → Type 0
  ToldOfFiles named x = OfInputs w a (λ i. IsTrue named ↔ NamesMethod i.classes w.class w.method → EntryOutcome i p x.status (lines_of x))

  pub has_entry_told : (named : Bool) (entry : MethodNo) → IsEntry p w.class w.method entry.0
      → IfOk r (λ x. OfInputs w a (λ i. ClassOutcome i p entry x.status (lines_of x)))
      → IfOk r (λ x. OfInputs w a (λ i. IsTrue named ↔ NamesMethod i.classes w.class w.method → EntryOutcome i p x.status (lines_of x)))
  has_entry_told named entry is told =
      if_ok r (ToldOf (λ i s l. ClassOutcome i p entry s l)) (ToldOfFiles named) told (λ x outcome stubs classes names. has_entry entry is (outcome stubs classes))

  pub no_entry_told : (named : Bool) → named ≡ false → ((entry : ℕ) → IsEntry p w.class w.method entry → ⊥) → SaysLine r (refused_line no_file 0 NoEntry)
      → IfOk r (λ x. OfInputs w a (λ i. IsTrue named ↔ NamesMethod i.classes w.class w.method → EntryOutcome i p x.status (lines_of x)))
  no_entry_told named not_named none says =
      if_ok r (λ (x : Answer). Says x statuses.Refused (refused_line no_file 0 NoEntry ∷ [])) (ToldOfFiles named) says (λ x s stubs classes names.
      no_entry none (λ names_one. false≢true (sym not_named ∙ names.1 names_one)) (record { status_is = s.status_is; lines_are = s.lines_are }))

  said_of : (line : List ℕ) (Q : Input → Status → List (List ℕ) → Type 0) → SaysLine r line
      → ((stubs : List StubClass) (classes : List NamedClass) (s : Status) (l : List (List ℕ)) → EndsWith s l statuses.Refused line
      → Q (record { wanted = w; property = a; stubs = stubs; classes = classes }) s l) → IfOk r (ToldOf Q)
  said_of line Q says h =
      if_ok r (λ (x : Answer). Says x statuses.Refused (line ∷ [])) (ToldOf Q) says
      (λ x s stubs classes. h stubs classes x.status (lines_of x) (record { status_is = s.status_is; lines_are = s.lines_are }))

  -- ---- the property's class

  pub no_class_told : (entry : MethodNo) (name text : List ℕ) → name ≡ a.class_name → text ≡ w.property
      → ((n : ℕ) → IsClassNumber p n → name_at p n ≡ name → ⊥) → SaysLine r (refused_line text 0 MissingClass)
      → IfOk r (λ x. OfInputs w a (λ i. ClassOutcome i p entry x.status (lines_of x)))
  no_class_told entry name text name_is text_is nowhere says =
      said_of (refused_line text 0 MissingClass) (λ i s l. ClassOutcome i p entry s l) says (λ stubs classes s l ends.
      no_class (subst (λ (x : List ℕ). class_named p x ≡ None) name_is (not_named p name nowhere))
      (subst (λ (t : List ℕ). EndsWith s l statuses.Refused (refused_line t 0 MissingClass)) text_is ends))

  pub has_class_told : (entry : MethodNo) (class : ClassNo) → IsProgram p → IsClassNumber p class.0 → name_at p class.0 ≡ a.class_name
      → IfOk r (λ x. OfInputs w a (λ i. AnalysisOutcome i p entry x.status (lines_of x)))
      → IfOk r (λ x. OfInputs w a (λ i. ClassOutcome i p entry x.status (lines_of x)))
  has_class_told entry class program within name told =
      if_ok r (ToldOf (λ i s l. AnalysisOutcome i p entry s l)) (ToldOf (λ i s l. ClassOutcome i p entry s l)) told (λ x outcome stubs classes.
      let (c, at) = class_of_number p program class.0 within in
      has_class c (subst (λ (x : List ℕ). class_named p x ≡ Some c) name at.named) (outcome stubs classes))

  -- ---- the analysis

  pub end_told : (entry : MethodNo) (failure : Failure SolveFault) → IsSolveEnd p (IsSupplied p) entry w.pair_limit failure → IfOk r (λ x. SaysEnd x failure)
      → IfOk r (λ x. OfInputs w a (λ i. AnalysisOutcome i p entry x.status (lines_of x)))
  end_told entry (Cause (solve_faults.PairLimit pairs)) end says =
      said_of (refused_line no_file 0 PairLimit) (λ i s l. AnalysisOutcome i p entry s l) says (λ stubs classes s l ends. pair_limit (refl, end.1) ends)
  end_told entry (Cause (solve_faults.Refused refusal)) end says =
      said_of (refused_line refusal.file refusal.offset refusal.reason) (λ i s l. AnalysisOutcome i p entry s l) says
      (λ stubs classes s l ends. refused_method refusal end ends)
  end_told entry (Cause solve_faults.TooMany) end says =
      if_ok r (λ (x : Answer). ⊥) (ToldOf (λ i s l. AnalysisOutcome i p entry s l)) says (λ x no. absurd no)
  end_told entry OutOfMemory end says =
      if_ok r (λ (x : Answer). ⊥) (ToldOf (λ i s l. AnalysisOutcome i p entry s l)) says (λ x no. absurd no)
