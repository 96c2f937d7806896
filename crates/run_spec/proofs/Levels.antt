-- What a level of an outcome goes on to: where its checks pass, the outcome is that of the next level, of what was read or made.
use Rattle.std.proofs.Common.{◌≡◌, ◌≢◌, ◌∙◌, ℕ, inl, inr, List, [], Option, Some, None, Ok, Err, Result, AllPairs, refl, sym, ap, subst}
use Rattle.std.proofs.lemmas.Option.{same_Some, none-some}
use Rattle.ts_outside.specs.Files.{File, file_at}
use Rattle.failure.specs.declared.Failure.TheVariants.{Cause}
use Rattle.jvm_model.specs.declared.automaton.Automaton.{Automaton}
use Rattle.jvm_model.specs.declared.number.MethodNo.{MethodNo}
use Rattle.jvm_model.specs.declared.program.NamedClass.{NamedClass}
use Rattle.jvm_model.specs.declared.reason.Refusal.{Refusal}
use Rattle.jvm_model.specs.declared.stub.StubClass.{StubClass}
use Rattle.jvm_model.specs.LinkedPrograms.{IsProgram, MembersDiffer}
use Rattle.jvm_model.specs.Linking.{Links}
use Rattle.jvm_model.specs.Programs.{Class, Program}
use Rattle.jvm_model.specs.Subtypes.{class_named}
use Rattle.class_folder.specs.ClassFiles.{AreClassFiles}
use Rattle.command_words.specs.Requests.{Wanted, AsksFor}
use Rattle.entry_points.specs.Entries.{IsEntry}
use Rattle.program_laws.proofs.Links.{one_answer}
use Rattle.property_file.specs.PropertyFile.{IsPropertyFile}
use Rattle.property_file.specs.Refusals.{IsBrokenFile}
use Rattle.property_file.proofs.Broken.{IsNoDocument-not, IsBrokenFile-not}
use Rattle.property_file.proofs.Whole.{IsPropertyFile-same}
use Rattle.stub_file.specs.declared.stub_failure.StubFault.{StubFault}
use Rattle.stub_file.specs.declared.stub_failure.StubFault.TheVariants as stub_faults
use Rattle.stub_file.specs.StubFile.{IsStubFile, IsStubRefusal}
use Rattle.stub_file.proofs.OneAnswer.{IsStubFile-unique, not_both, one_reason}
use Rattle.toml_tables.specs.Documents.{IsNoDocument}
use Rattle.run_spec.specs.declared.status.Status.{Status}
use Rattle.run_spec.specs.Inputs.{AreStubs, HaveDifferentNames, Input, all_stubs}
use Rattle.run_spec.specs.Outcomes.{AnalysisOutcome, ClassOutcome, no_class, has_class, EntryOutcome, no_entry, other_shape, has_entry, LinkOutcome, unlinked, linked, FolderOutcome, refused_folder, has_classes, StubOutcome, no_stub_file, stubs_no_document, broken_stubs, no_stubs, has_stubs, PropertyOutcome, no_property, property_no_document, broken_property, has_property, Outcome, unusable, usable, files_read, lines_written}
use Rattle.run_spec.proofs.OneEntry.{entry_same}
use Rattle.run_spec.proofs.OneFolder.{AreClassFiles-same, classes_or_refused}
use Rattle.run_spec.proofs.OneRequest.{AsksFor-same, asked_or_wrong}

-- ---- what is read or made is one

bytes_same : (files : List File) (name b c : List ℕ) → file_at files name ≡ Some b → file_at files name ≡ Some c → b ≡ c
bytes_same files name b c x y = same_Some b c (sym x ∙ y)

-- a program and a refusal are not the same answer
made_or_refused : (p : Program) (r : Refusal) (answer : Result Program Refusal) → answer ≡ Ok p → answer ≡ Err r → ⊥
made_or_refused p r answer x y = cc

same_made : (p q : Program) (answer : Result Program Refusal) → answer ≡ Ok p → answer ≡ Ok q → p ≡ q
same_made p q answer x y = cc

same_refused : (r q : Refusal) (answer : Result Program Refusal) → answer ≡ Err r → answer ≡ Err q → r ≡ q
same_refused r q answer x y = cc

module _ (stubs : List StubClass) (classes : List NamedClass) (differ : AllPairs (λ f g. f.file ≢ g.file) classes) where
  abbrev Gives : Result Program Refusal → Type 0
  Gives answer = Links classes (all_stubs stubs) answer

  pub program_same : (p q : Program) → Gives (Ok p) → Gives (Ok q) → p ≡ q
  program_same p q x y = same_made p q (Ok p) refl (one_answer classes (all_stubs stubs) (Ok p) (Ok q) differ x y)

  pub link_refusal_same : (r q : Refusal) → Gives (Err r) → Gives (Err q) → r ≡ q
  link_refusal_same r q x y = same_refused r q (Err r) refl (one_answer classes (all_stubs stubs) (Err r) (Err q) differ x y)

  pub linked_or_not : (p : Program) (r : Refusal) → Gives (Ok p) → Gives (Err r) → ⊥
  linked_or_not p r x y = made_or_refused p r (Ok p) refl (one_answer classes (all_stubs stubs) (Ok p) (Err r) differ x y)

-- ---- a stub file, and why it is refused

module _ (name bytes : List ℕ) where
  pub stubs_or_refused : (stubs : List StubClass) (fault : StubFault) → IsStubFile name bytes stubs → IsStubRefusal name bytes (Cause fault) → ⊥
  stubs_or_refused stubs fault x y = let memory = not_both name bytes stubs (Cause fault) x y in cc

  pub document_or_broken : (class : Option ℕ) → IsNoDocument bytes → IsStubRefusal name bytes (Cause (stub_faults.BadStub class)) → ⊥
  document_or_broken class x y =
      elim (one_reason name bytes (Cause stub_faults.BadToml) (Cause (stub_faults.BadStub class)) x y) [
        | inl memory ↦ elim memory [
          | inl e ↦ cc
          | inr e ↦ cc
        ]
        | inr e ↦ cc
      ]

-- ---- the levels

module _ (s : Status) (l : List (List ℕ)) where
  pub past_class : (i : Input) (p : Program) (entry : MethodNo) (class : Class) → class_named p i.property.class_name ≡ Some class
      → ClassOutcome i p entry s l → AnalysisOutcome i p entry s l
  past_class i p entry class is (no_class none ends) = absurd (none-some class (sym none ∙ is))
  past_class i p entry class is (has_class other is2 next) = next

  pub past_entry : (i : Input) (p : Program) → MembersDiffer p → (entry : MethodNo) → IsEntry p i.wanted.class i.wanted.method entry.0
      → EntryOutcome i p s l → ClassOutcome i p entry s l
  past_entry i p members entry is (no_entry none no_name ends) = absurd (none entry.0 is)
  past_entry i p members entry is (other_shape none named ends) = absurd (none entry.0 is)
  past_entry i p members entry is (has_entry other is2 next) =
      subst (λ (e : MethodNo). ClassOutcome i p e s l) (entry_same p members i.wanted.class i.wanted.method other entry is2 is) next

  pub past_link : (i : Input) → AllPairs (λ f g. f.file ≢ g.file) i.classes → (p : Program) → Links i.classes (all_stubs i.stubs) (Ok p)
      → LinkOutcome i s l → IsProgram p × EntryOutcome i p s l
  past_link i differ p is (unlinked r is2 ends) = absurd (linked_or_not i.stubs i.classes differ p r is is2)
  past_link i differ p is (linked q is2 program next) =
      subst (λ (k : Program). IsProgram k × EntryOutcome i k s l) (program_same i.stubs i.classes differ q p is2 is) (program, next)

  pub past_folder : (files : List File) → HaveDifferentNames files → (i : Input) → AreClassFiles files i.classes
      → FolderOutcome files i.wanted i.property i.stubs s l → LinkOutcome i s l
  past_folder files differ i are (refused_folder r is ends) = absurd (classes_or_refused files differ i.classes r are is)
  past_folder files differ i are (has_classes others are2 next) =
      subst (λ (cs : List NamedClass). LinkOutcome (record i { classes = cs }) s l) (AreClassFiles-same files differ others i.classes are2 are) next

  -- with a stub file of this name
  module _ (files : List File) (w : Wanted) (a : Automaton) where
    past_stub_file : (name bytes : List ℕ) (stubs : List StubClass) → w.stubs ≡ Some name → file_at files name ≡ Some bytes → IsStubFile name bytes stubs
        → StubOutcome files w a s l → FolderOutcome files w a stubs s l
    past_stub_file name bytes stubs asked held are (no_stub_file other asked2 none ends) =
        absurd (none-some bytes (sym none ∙ ap (file_at files) (same_Some other name (sym asked2 ∙ asked)) ∙ held))
    past_stub_file name bytes stubs asked held are (stubs_no_document other bytes2 asked2 held2 bad ends) =
        let names = same_Some other name (sym asked2 ∙ asked) in
        let contents = bytes_same files name bytes2 bytes (ap (file_at files) (sym names) ∙ held2) held in
        absurd (stubs_or_refused name bytes stubs stub_faults.BadToml are (subst IsNoDocument contents bad))
    past_stub_file name bytes stubs asked held are (broken_stubs other bytes2 class asked2 held2 bad ends) =
        let names = same_Some other name (sym asked2 ∙ asked) in
        let contents = bytes_same files name bytes2 bytes (ap (file_at files) (sym names) ∙ held2) held in
        let named = subst (λ (n : List ℕ). IsStubRefusal n bytes2 (Cause (stub_faults.BadStub class))) names bad in
        let here = subst (λ (b : List ℕ). IsStubRefusal name b (Cause (stub_faults.BadStub class))) contents named in
        absurd (stubs_or_refused name bytes stubs (stub_faults.BadStub class) are here)
    past_stub_file name bytes stubs asked held are (no_stubs unasked next) = absurd (none-some name (sym unasked ∙ asked))
    past_stub_file name bytes stubs asked held are (has_stubs other bytes2 others asked2 held2 are2 next) =
        let names = same_Some other name (sym asked2 ∙ asked) in
        let contents = bytes_same files name bytes2 bytes (ap (file_at files) (sym names) ∙ held2) held in
        let named = subst (λ (n : List ℕ). IsStubFile n bytes2 others) names are2 in
        let both = IsStubFile-unique name bytes others stubs (subst (λ (b : List ℕ). IsStubFile name b others) contents named) are in
        subst (λ (k : List StubClass). FolderOutcome files w a k s l) both next

    past_no_stubs : w.stubs ≡ None → StubOutcome files w a s l → FolderOutcome files w a [] s l
    past_no_stubs unasked (no_stub_file name asked none ends) = absurd (none-some name (sym unasked ∙ asked))
    past_no_stubs unasked (stubs_no_document name bytes asked held bad ends) = absurd (none-some name (sym unasked ∙ asked))
    past_no_stubs unasked (broken_stubs name bytes class asked held bad ends) = absurd (none-some name (sym unasked ∙ asked))
    past_no_stubs unasked (no_stubs unasked2 next) = next
    past_no_stubs unasked (has_stubs name bytes stubs asked held are next) = absurd (none-some name (sym unasked ∙ asked))

    pub past_stubs : (stubs : List StubClass) (named : Option (List ℕ)) → w.stubs ≡ named → AreStubs files named stubs
        → StubOutcome files w a s l → FolderOutcome files w a stubs s l
    past_stubs stubs None unasked none o = subst (λ (k : List StubClass). FolderOutcome files w a k s l) (sym none) (past_no_stubs unasked o)
    past_stubs stubs (Some name) asked are o = past_stub_file name are.0 stubs asked are.1 are.2 o

  pub past_property : (files : List File) (w : Wanted) (bytes : List ℕ) (a : Automaton) → file_at files w.property ≡ Some bytes → IsPropertyFile bytes a
      → PropertyOutcome files w s l → StubOutcome files w a s l
  past_property files w bytes a held is (no_property none ends) = absurd (none-some bytes (sym none ∙ held))
  past_property files w bytes a held is (property_no_document other held2 bad ends) =
      absurd (IsNoDocument-not bytes a (subst IsNoDocument (bytes_same files w.property other bytes held2 held) bad) is)
  past_property files w bytes a held is (broken_property other key held2 bad ends) =
      absurd (IsBrokenFile-not bytes key a (subst (λ (b : List ℕ). IsBrokenFile b key) (bytes_same files w.property other bytes held2 held) bad) is)
  past_property files w bytes a held is (has_property other b held2 is2 next) =
      let here = subst (λ (k : List ℕ). IsPropertyFile k b) (bytes_same files w.property other bytes held2 held) is2 in
      subst (λ (k : Automaton). StubOutcome files w k s l) (IsPropertyFile-same bytes b a here is) next

  pub past_words : (words : List (List ℕ)) (files : List File) (w : Wanted) → AsksFor words w → Outcome words files s l
      → (all : List (List ℕ)) × PropertyOutcome (files_read w.mode files) w s all × (l ≡ lines_written w.mode all)
  past_words words files w asks (unusable fault is ends) = absurd (asked_or_wrong words w fault asks is)
  past_words words files w asks (usable v all asks2 next cut) =
      subst (λ (k : Wanted). (ls : List (List ℕ)) × PropertyOutcome (files_read k.mode files) k s ls × (l ≡ lines_written k.mode ls))
      (AsksFor-same words v w asks2 asks) (all, next, cut)
