-- Words and files give one input, and so one program, one property and one entry.
use Rattle.std.proofs.Common.{◌≡◌, ◌∙◌, ℕ, List, Option, Some, None, Ok, sym, ap, subst}
use Rattle.std.proofs.lemmas.Option.{same_Some}
use Rattle.ts_outside.specs.Files.{File, file_at}
use Rattle.jvm_model.specs.declared.number.MethodNo.{MethodNo}
use Rattle.jvm_model.specs.declared.stub.StubClass.{StubClass}
use Rattle.jvm_model.specs.LinkedPrograms.{IsProgram}
use Rattle.jvm_model.specs.Linking.{Links}
use Rattle.jvm_model.specs.Programs.{Program}
use Rattle.machine_bytecode.specs.Objects.{Subject}
use Rattle.command_words.specs.Requests.{Wanted}
use Rattle.entry_points.specs.Entries.{IsEntry}
use Rattle.property_file.specs.PropertyFile.{IsPropertyFile}
use Rattle.property_file.proofs.Whole.{IsPropertyFile-same}
use Rattle.stub_file.specs.StubFile.{IsStubFile}
use Rattle.stub_file.proofs.OneAnswer.{IsStubFile-unique}
use Rattle.run_spec.specs.Inputs.{AreStubs, HaveDifferentNames, Input, IsInput, all_stubs}
use Rattle.run_spec.specs.RunSubjects.{IsRunOf}
use Rattle.run_spec.proofs.Levels.{program_same}
use Rattle.run_spec.proofs.OneEntry.{entry_same}
use Rattle.run_spec.proofs.OneFolder.{AreClassFiles-same, files_differ}
use Rattle.run_spec.proofs.OneRequest.{AsksFor-same}

-- the stubs of a run are one list
stubs_same : (files : List File) (named : Option (List ℕ)) (stubs others : List StubClass) → AreStubs files named stubs → AreStubs files named others → stubs ≡ others
stubs_same files None stubs others none none2 = none ∙ sym none2
stubs_same files (Some name) stubs others (bytes, held, are) (bytes2, held2, are2) =
    let contents = same_Some bytes bytes2 (sym held ∙ held2) in
    IsStubFile-unique name bytes2 stubs others (subst (λ (b : List ℕ). IsStubFile name b stubs) contents are) are2

-- of what is the same, the same is made
input_made : (i j : Input) → i.wanted ≡ j.wanted → i.property ≡ j.property → i.stubs ≡ j.stubs → i.classes ≡ j.classes → i ≡ j
input_made i j wanted property stubs classes = λ k. record { wanted = wanted k; property = property k; stubs = stubs k; classes = classes k }

subject_made : (x y : Subject) → x.program ≡ y.program → x.property ≡ y.property → x.entry ≡ y.entry → x ≡ y
subject_made x y program property entry = λ k. record { program = program k; property = property k; entry = entry k }

-- words and files give one input
module _ (words : List (List ℕ)) (files : List File) (differ : HaveDifferentNames files) (i j : Input) (a : IsInput words files i) (b : IsInput words files j) where
  asked : i.wanted ≡ j.wanted
  asked = AsksFor-same words i.wanted j.wanted a.asks b.asks

  property_is : i.property ≡ j.property
  property_is =
      let held = ap (λ (w : Wanted). file_at files w.property) (sym asked) in
      let contents = same_Some b.property_bytes a.property_bytes (sym b.property_held ∙ (held ∙ a.property_held)) in
      IsPropertyFile-same a.property_bytes i.property j.property a.property (subst (λ (bytes : List ℕ). IsPropertyFile bytes j.property) contents b.property)

  stubs_are : i.stubs ≡ j.stubs
  stubs_are = stubs_same files j.wanted.stubs i.stubs j.stubs (subst (λ (w : Wanted). AreStubs files w.stubs i.stubs) asked a.stubs) b.stubs

  pub input_same : i ≡ j
  input_same = input_made i j asked property_is stubs_are (AreClassFiles-same files differ i.classes j.classes a.classes b.classes)

module _ (words : List (List ℕ)) (files : List File) (x y : Subject) (differ : HaveDifferentNames files) (program : IsProgram x.program) (a : IsRunOf words files x)
    (b : IsRunOf words files y) where
  inputs : b.input ≡ a.input
  inputs = input_same words files differ b.input a.input b.is_input a.is_input

  program_is : x.program ≡ y.program
  program_is =
      program_same a.input.stubs a.input.classes (files_differ files differ a.input.classes a.is_input.classes) x.program y.program a.links
      (subst (λ (i : Input). Links i.classes (all_stubs i.stubs) (Ok y.program)) inputs b.links)

  entry_is : x.entry ≡ y.entry
  entry_is =
      let other = subst (λ (p : Program). IsEntry p b.input.wanted.class b.input.wanted.method y.entry) (sym program_is) b.entry in
      let here = subst (λ (i : Input). IsEntry x.program i.wanted.class i.wanted.method y.entry) inputs other in
      let both = entry_same x.program program.members a.input.wanted.class a.input.wanted.method (record { 0 = x.entry }) (record { 0 = y.entry }) a.entry here in
      ap (λ (m : MethodNo). m.0) both

  pub run_same : x ≡ y
  run_same = subject_made x y program_is (sym a.property ∙ ap (λ (i : Input). i.property) (sym inputs) ∙ b.property) entry_is
