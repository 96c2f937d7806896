-- From what each check found to the outcome of its level.
use Rattle.std.proofs.Common.{◌≡◌, ◌⊎◌, ◌∙◌, ℕ, ◌<◌, List, [], ◌∷◌, take, Option, Some, None, Result, IfSome, IfOk, option_map, inl, inr, sym, ap, subst, refl}
use Rattle.ts_outside.specs.Files.{File, file_at}
use Rattle.failure.specs.declared.Failure.{Failure}
use Rattle.failure.specs.declared.Failure.TheVariants.{Cause}
use Rattle.jvm_model.specs.declared.automaton.Automaton.{Automaton}
use Rattle.jvm_model.specs.declared.program.NamedClass.{NamedClass}
use Rattle.jvm_model.specs.declared.reason.Reason.TheVariants.{BadToml, BadProperty, BadStub}
use Rattle.jvm_model.specs.declared.reason.Refusal.{Refusal}
use Rattle.jvm_model.specs.declared.stub.StubClass.{StubClass}
use Rattle.class_folder.specs.ClassFiles.{AreClassFiles, IsFolderFailure}
use Rattle.class_folder.specs.declared.fault.FolderFault.{FolderFault}
use Rattle.class_folder.specs.declared.fault.FolderFault.TheVariants as folders
use Rattle.command_words.specs.declared.fault.UsageFault.{UsageFault}
use Rattle.command_words.specs.declared.request.Mode.{Mode}
use Rattle.command_words.specs.declared.request.Mode.TheVariants as modes
use Rattle.command_words.specs.Requests.{Wanted, AsksFor, IsUsageFailure}
use Rattle.property_file.specs.declared.property_failure.PropertyFault.{PropertyFault}
use Rattle.property_file.specs.declared.property_failure.PropertyFault.TheVariants as properties
use Rattle.property_file.specs.PropertyFile.{IsPropertyFile}
use Rattle.property_file.specs.Refusals.{IsPropertyRefusal}
use Rattle.stub_file.specs.declared.stub_failure.StubFault.{StubFault}
use Rattle.stub_file.specs.declared.stub_failure.StubFault.TheVariants as stub_faults
use Rattle.stub_file.specs.StubFile.{IsStubFile, IsStubRefusal}
use Rattle.run_spec.specs.declared.status.Status.{Status}
use Rattle.run_spec.specs.declared.status.Status.TheVariants as statuses
use Rattle.run_spec.specs.Inputs.{AsksForSample, Input, IsOfTree}
use Rattle.run_spec.specs.Lines.{missing_line, refused_line, usage_line}
use Rattle.run_spec.specs.Outcomes.{EndsWith, FolderOutcome, LinkOutcome, Outcome, PropertyOutcome, StubOutcome, files_read, lines_written, unusable, usable, property_no_document, broken_property, has_property, no_stub_file, stubs_no_document, broken_stubs, no_stubs, has_stubs, refused_folder, has_classes}
use Rattle.run_spec.proofs.OneRequest.{AsksFor-same, asked_or_wrong}
use Rattle.run_spec.proofs.ReadFiles.{read_are, written_are}
use Rattle.typestate_core.specs.declared.answer.Answer.{Answer}
use Rattle.typestate_core.specs.Answers.{IsOnSample, Says, lines_of}
use Rattle.typestate_core.specs.ReadingOrder.{LeavesTree}
use Rattle.typestate_core.proofs.Options.{at_some, if_ok, if_some}
use Rattle.typestate_core.proofs.Wholes.{whole_of, document_whole, property_whole, broken_whole, stubs_whole, broken_stubs_whole}

-- What is said of the answer, where the tree tells its files.
abbrev Told : {E : Type 0} → Option (List File) → Result Answer E → (List File → Status → List (List ℕ) → Type 0) → Type 0
Told o r Q = IfOk r (λ a. IfSome o (λ files. Q files a.status (lines_of a)))

-- The answer is one line.
abbrev pub SaysLine : {E : Type 0} → Result Answer E → Status → List ℕ → Type 0
SaysLine r is line = IfOk r (λ a. Says a is (line ∷ []))

pub said : {E : Type 0} (o : Option (List File)) (r : Result Answer E) (is : Status) (line : List ℕ) (Q : List File → Status → List (List ℕ) → Type 0) → SaysLine r is line
    → ((files : List File) → o ≡ Some files → (s : Status) (l : List (List ℕ)) → EndsWith s l is line → Q files s l) → Told o r Q
said o r is line Q says h =
    if_ok r (λ (a : Answer). Says a is (line ∷ [])) (λ (a : Answer). IfSome o (λ files. Q files a.status (lines_of a))) says
    (λ a s. if_some o (λ files. Q files a.status (lines_of a)) (λ files e.
    h files e a.status (lines_of a) (record { status_is = s.status_is; lines_are = s.lines_are })))

pub goes_on : {E : Type 0} (o o1 : Option (List File)) (r : Result Answer E) (P Q : List File → Status → List (List ℕ) → Type 0) → o1 ≡ o → Told o1 r P
    → ((files : List File) → o ≡ Some files → (s : Status) (l : List (List ℕ)) → P files s l → Q files s l) → Told o r Q
goes_on o o1 r P Q same told h =
    if_ok r (λ (a : Answer). IfSome o1 (λ files. P files a.status (lines_of a))) (λ (a : Answer). IfSome o (λ files. Q files a.status (lines_of a))) told
    (λ a t. if_some o (λ files. Q files a.status (lines_of a)) (λ files e.
    h files e a.status (lines_of a) (at_some o1 (λ (fs : List File). P fs a.status (lines_of a)) files (same ∙ e) t)))

-- ---- the words

pub usage_told : {E : Type 0} (o : Option (List File)) (r : Result Answer E) (words : List (List ℕ)) (failure : Failure UsageFault) (fault : UsageFault)
    → failure ≡ Cause fault → IsUsageFailure words failure → SaysLine r statuses.Usage (usage_line fault) → Told o r (Outcome words)
usage_told o r words failure fault is bad says =
    said o r statuses.Usage (usage_line fault) (Outcome words) says (λ files e s l ends. unusable fault (subst (IsUsageFailure words) is bad) ends)

on_tree : (words : List (List ℕ)) (w : Wanted) (files : List File) (s : Status) (l : List (List ℕ)) → IsOfTree w.mode → AsksFor words w → PropertyOutcome files w s l
    → Outcome words files s l
on_tree words w files s l plain asks outcome =
    usable w l asks (subst (λ (fs : List File). PropertyOutcome fs w s l) (sym (read_are w.mode files plain)) outcome) (sym (written_are w.mode l plain))

pub plain_mode : (mode : Mode) → (mode ≡ modes.Report) ⊎ (mode ≡ modes.Trace) ⊎ (mode ≡ modes.Certificate) → IsOfTree mode
plain_mode mode (inl is) = subst IsOfTree (sym is) tt
plain_mode mode (inr (inl is)) = subst IsOfTree (sym is) tt
plain_mode mode (inr (inr is)) = subst IsOfTree (sym is) tt

-- words that are of the tree ask for no sample, and leave no tree
pub no_sample : (words : List (List ℕ)) (w : Wanted) → IsOfTree w.mode → AsksFor words w → AsksForSample words → ⊥
no_sample words w plain asks (v, other, count, is) = subst IsOfTree (ap (λ (k : Wanted). k.mode) (AsksFor-same words w v asks other) ∙ is) plain

pub not_left : (words : List (List ℕ)) (w : Wanted) → IsOfTree w.mode → AsksFor words w → LeavesTree words → ⊥
not_left words w plain asks (inl misused) = misused w asks
not_left words w plain asks (inr sample) = no_sample words w plain asks sample

-- and words with a fault ask for none
pub no_sample_asked : (words : List (List ℕ)) (failure : Failure UsageFault) (fault : UsageFault) → failure ≡ Cause fault → IsUsageFailure words failure
    → AsksForSample words → ⊥
no_sample_asked words failure fault is bad (w, asks, count, is_sample) = asked_or_wrong words w fault asks (subst (IsUsageFailure words) is bad)

pub usable_told : {E : Type 0} (o : Option (List File)) (r : Result Answer E) (words : List (List ℕ)) (w : Wanted) → IsOfTree w.mode → AsksFor words w
    → Told o r (λ files s l. PropertyOutcome files w s l) → Told o r (Outcome words)
usable_told o r words w plain asks told =
    goes_on o o r (λ files s l. PropertyOutcome files w s l) (Outcome words) refl told (λ files e s l outcome. on_tree words w files s l plain asks outcome)

-- ---- the sample

on_sample : (words : List (List ℕ)) (w : Wanted) (count : ℕ) (files : List File) (s : Status) (l : List (List ℕ)) → w.mode ≡ modes.Sample count → AsksFor words w
    → IsOnSample w count s l → Outcome words files s l
on_sample words w count files s l is asks told =
    usable w told.0 asks (subst (λ (mode : Mode). PropertyOutcome (files_read mode files) w s told.0) (sym is) told.1)
    (told.2 ∙ ap (λ (mode : Mode). lines_written mode told.0) (sym is))

pub sample_told : {E : Type 0} (o : Option (List File)) (r : Result Answer E) (words : List (List ℕ)) (w : Wanted) (count : ℕ) → w.mode ≡ modes.Sample count
    → AsksFor words w → IfOk r (λ a. IsOnSample w count a.status (lines_of a)) → Told o r (Outcome words)
sample_told o r words w count is asks told =
    if_ok r (λ (a : Answer). IsOnSample w count a.status (lines_of a)) (λ (a : Answer). IfSome o (λ files. Outcome words files a.status (lines_of a))) told
    (λ a t. if_some o (λ files. Outcome words files a.status (lines_of a)) (λ files e. on_sample words w count files a.status (lines_of a) is asks t))

-- ---- a file that was read up to a limit

-- The first bytes of the file of the name, where the tree tells its files.
abbrev pub IsRead : Option (List File) → List ℕ → ℕ → List ℕ → Type 0
IsRead o name n bytes = IfSome o (λ held. option_map (take n) (file_at held name) ≡ Some bytes)

pub read_of : (o : Option (List File)) (name : List ℕ) (n : ℕ) (bytes : List ℕ) (files : List File) → IsRead o name n bytes → o ≡ Some files
    → (whole : List ℕ) × (file_at files name ≡ Some whole) × (take n whole ≡ bytes)
read_of o name n bytes files read e =
    whole_of (file_at files name) n bytes (at_some o (λ held. option_map (take n) (file_at held name) ≡ Some bytes) files e read)

-- ---- the property file

module _ {E : Type 0} (o : Option (List File)) (r : Result Answer E) (w : Wanted) where
  abbrev OfProperty : List File → Status → List (List ℕ) → Type 0
  OfProperty files s l = PropertyOutcome files w s l

  pub no_document_told : (text bytes : List ℕ) (n : ℕ) (failure : Failure PropertyFault) → 1048576 < n → IsRead o w.property n bytes
      → failure ≡ Cause properties.BadToml → IsPropertyRefusal bytes failure → text ≡ w.property → SaysLine r statuses.Refused (refused_line text 0 BadToml)
      → Told o r (λ files s l. PropertyOutcome files w s l)
  no_document_told text bytes n failure past read is bad text_is says =
      said o r statuses.Refused (refused_line text 0 BadToml) OfProperty says (λ files e s l ends.
      let k = read_of o w.property n bytes files read e in
      property_no_document k.0 k.1 (document_whole n k.0 bytes past k.2 (subst (IsPropertyRefusal bytes) is bad))
      (subst (λ (t : List ℕ). EndsWith s l statuses.Refused (refused_line t 0 BadToml)) text_is ends))

  pub broken_property_told : (text bytes : List ℕ) (n : ℕ) (failure : Failure PropertyFault) (key : List ℕ) → 1048576 < n → IsRead o w.property n bytes
      → failure ≡ Cause (properties.BadProperty key) → IsPropertyRefusal bytes failure → text ≡ w.property → SaysLine r statuses.Refused (refused_line text 0 BadProperty)
      → Told o r (λ files s l. PropertyOutcome files w s l)
  broken_property_told text bytes n failure key past read is bad text_is says =
      said o r statuses.Refused (refused_line text 0 BadProperty) OfProperty says (λ files e s l ends.
      let k = read_of o w.property n bytes files read e in
      broken_property k.0 key k.1 (broken_whole n k.0 bytes key past k.2 (subst (IsPropertyRefusal bytes) is bad))
      (subst (λ (t : List ℕ). EndsWith s l statuses.Refused (refused_line t 0 BadProperty)) text_is ends))

  pub property_told : (o1 : Option (List File)) (bytes : List ℕ) (n : ℕ) (a : Automaton) → 1048576 < n → o1 ≡ o → IsRead o w.property n bytes → IsPropertyFile bytes a
      → Told o1 r (λ files s l. StubOutcome files w a s l) → Told o r (λ files s l. PropertyOutcome files w s l)
  property_told o1 bytes n a past same read gives told =
      goes_on o o1 r (λ files s l. StubOutcome files w a s l) OfProperty same told (λ files e s l outcome.
      let k = read_of o w.property n bytes files read e in
      has_property k.0 a k.1 (property_whole n k.0 bytes a past k.2 gives) outcome)

-- ---- the stub file

module _ {E : Type 0} (o : Option (List File)) (r : Result Answer E) (w : Wanted) (a : Automaton) where
  abbrev OfStubs : List File → Status → List (List ℕ) → Type 0
  OfStubs files s l = StubOutcome files w a s l

  pub no_stubs_told : (stubs : List StubClass) → w.stubs ≡ None → stubs ≡ [] → Told o r (λ files s l. FolderOutcome files w a stubs s l)
      → Told o r (λ files s l. StubOutcome files w a s l)
  no_stubs_told stubs none empty told =
      goes_on o o r (λ files s l. FolderOutcome files w a stubs s l) OfStubs refl told (λ files e s l outcome.
      no_stubs none (subst (λ (xs : List StubClass). FolderOutcome files w a xs s l) empty outcome))

  pub no_stub_file_told : (name text : List ℕ) → w.stubs ≡ Some name → IfSome o (λ held. file_at held name ≡ None) → text ≡ name → SaysLine r statuses.Usage (missing_line text)
      → Told o r (λ files s l. StubOutcome files w a s l)
  no_stub_file_told name text given missing text_is says =
      said o r statuses.Usage (missing_line text) OfStubs says (λ files e s l ends.
      no_stub_file name given (at_some o (λ held. file_at held name ≡ None) files e missing)
      (subst (λ (t : List ℕ). EndsWith s l statuses.Usage (missing_line t)) text_is ends))

  pub stubs_no_document_told : (name text bytes : List ℕ) (n : ℕ) (failure : Failure StubFault) → 1048576 < n → w.stubs ≡ Some name → IsRead o name n bytes
      → failure ≡ Cause stub_faults.BadToml → IsStubRefusal name bytes failure → text ≡ name → SaysLine r statuses.Refused (refused_line text 0 BadToml)
      → Told o r (λ files s l. StubOutcome files w a s l)
  stubs_no_document_told name text bytes n failure past given read is bad text_is says =
      said o r statuses.Refused (refused_line text 0 BadToml) OfStubs says (λ files e s l ends.
      let k = read_of o name n bytes files read e in
      stubs_no_document name k.0 given k.1 (document_whole n k.0 bytes past k.2 (subst (IsStubRefusal name bytes) is bad))
      (subst (λ (t : List ℕ). EndsWith s l statuses.Refused (refused_line t 0 BadToml)) text_is ends))

  pub broken_stubs_told : (name text bytes : List ℕ) (n : ℕ) (failure : Failure StubFault) (class : Option ℕ) → 1048576 < n → w.stubs ≡ Some name → IsRead o name n bytes
      → failure ≡ Cause (stub_faults.BadStub class) → IsStubRefusal name bytes failure → text ≡ name → SaysLine r statuses.Refused (refused_line text 0 BadStub)
      → Told o r (λ files s l. StubOutcome files w a s l)
  broken_stubs_told name text bytes n failure class past given read is bad text_is says =
      said o r statuses.Refused (refused_line text 0 BadStub) OfStubs says (λ files e s l ends.
      let k = read_of o name n bytes files read e in
      broken_stubs name k.0 class given k.1 (broken_stubs_whole n k.0 bytes name class past k.2 (subst (IsStubRefusal name bytes) is bad))
      (subst (λ (t : List ℕ). EndsWith s l statuses.Refused (refused_line t 0 BadStub)) text_is ends))

  pub stubs_told : (o1 : Option (List File)) (name bytes : List ℕ) (n : ℕ) (stubs : List StubClass) → 1048576 < n → o1 ≡ o → w.stubs ≡ Some name → IsRead o name n bytes
      → IsStubFile name bytes stubs → Told o1 r (λ files s l. FolderOutcome files w a stubs s l) → Told o r (λ files s l. StubOutcome files w a s l)
  stubs_told o1 name bytes n stubs past same given read gives told =
      goes_on o o1 r (λ files s l. FolderOutcome files w a stubs s l) OfStubs same told (λ files e s l outcome.
      let k = read_of o name n bytes files read e in
      has_stubs name k.0 stubs given k.1 (stubs_whole n k.0 bytes name stubs past k.2 gives) outcome)

-- ---- the class files

module _ {E : Type 0} (o : Option (List File)) (r : Result Answer E) (w : Wanted) (a : Automaton) (stubs : List StubClass) where
  abbrev OfFolder : List File → Status → List (List ℕ) → Type 0
  OfFolder files s l = FolderOutcome files w a stubs s l

  pub refused_folder_told : (text : List ℕ) (failure : Failure FolderFault) (refusal : Refusal) → IfSome o (λ files. IsFolderFailure files failure)
      → failure ≡ Cause (folders.Refused refusal) → text ≡ refusal.file → SaysLine r statuses.Refused (refused_line text refusal.offset refusal.reason)
      → Told o r (λ files s l. FolderOutcome files w a stubs s l)
  refused_folder_told text failure refusal bad is text_is says =
      said o r statuses.Refused (refused_line text refusal.offset refusal.reason) OfFolder says (λ files e s l ends.
      refused_folder refusal (subst (IsFolderFailure files) is (at_some o (λ held. IsFolderFailure held failure) files e bad))
      (subst (λ (t : List ℕ). EndsWith s l statuses.Refused (refused_line t refusal.offset refusal.reason)) text_is ends))

  -- the input with these class files
  abbrev input_with : List NamedClass → Input
  input_with classes = record { wanted = w; property = a; stubs = stubs; classes = classes }

  pub classes_told : (classes : List NamedClass) → IfSome o (λ files. AreClassFiles files classes)
      → IfOk r (λ x. LinkOutcome (record { wanted = w; property = a; stubs = stubs; classes = classes }) x.status (lines_of x))
      → Told o r (λ files s l. FolderOutcome files w a stubs s l)
  classes_told classes are told =
      if_ok r (λ (x : Answer). LinkOutcome (input_with classes) x.status (lines_of x)) (λ (x : Answer). IfSome o (λ files. FolderOutcome files w a stubs x.status (lines_of x))) told
      (λ x outcome. if_some o (λ files. FolderOutcome files w a stubs x.status (lines_of x)) (λ files e.
      has_classes classes (at_some o (λ held. AreClassFiles held classes) files e are) outcome))
