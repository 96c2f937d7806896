-- From the calls of each level to those of the level above it.
use Rattle.std.proofs.Common.{◌≡◌, ◌∙◌, ℕ, ◌<◌, Bool, true, false, List, [], ◌∷◌, ◌++◌, Option, Some, None, Result, Ok, Err, IfSome, refl, sym, ap, subst}
use Rattle.ts_outside.specs.Calls.{Called, Calls, CallsOne, all_given, given}
use Rattle.ts_outside.specs.Files.{File}
use Rattle.ts_outside.proofs.CalledMore.{calls_more}
use Rattle.failure.specs.declared.Failure.{Failure}
use Rattle.jvm_model.specs.declared.automaton.Automaton.{Automaton}
use Rattle.jvm_model.specs.declared.program.NamedClass.{NamedClass}
use Rattle.jvm_model.specs.declared.stub.StubClass.{StubClass}
use Rattle.class_folder.specs.declared.fault.FolderFault.{FolderFault}
use Rattle.class_folder.specs.ClassFiles.{AreClassFiles}
use Rattle.class_folder.specs.FolderCalls.{StopsReading, folder_questions, names_of_files}
use Rattle.class_folder.proofs.FileNames.{names_listed}
use Rattle.command_words.specs.Requests.{Wanted, AsksFor}
use Rattle.property_file.specs.PropertyFile.{IsPropertyFile}
use Rattle.stub_file.specs.StubFile.{IsStubFile}
use Rattle.run_spec.specs.declared.status.Status.{Status}
use Rattle.run_spec.specs.Inputs.{AsksForSample}
use Rattle.typestate_core.specs.declared.answer.Answer.{Answer}
use Rattle.typestate_core.specs.Answers.{reports}
use Rattle.typestate_core.specs.ReadingOrder.{AsksInOrder, FolderCalls, HasProperty, HasStubs, PropertyCalls, RunCalls, StubCalls, document_question, folder_read, folder_stops, is_report, no_calls, of_sample, property_read, property_stops, some_calls, stubs_read, stubs_stop, without_stubs}
use Rattle.typestate_core.proofs.Judging.{IsRead, SaysLine, read_of}
use Rattle.typestate_core.proofs.Options.{if_some}
use Rattle.typestate_core.proofs.Wholes.{property_whole, stubs_whole}

-- an answer of one line is no report, where its status is none
pub no_report : {E : Type 0} (r : Result Answer E) (is : Status) (line : List ℕ) → is_report is ≡ false → SaysLine r is line → reports r ≡ false
no_report (Ok a) is line quiet says = ap is_report says.status_is ∙ quiet
no_report (Err failure) is line quiet says = refl

-- ---- the class files

pub folder_calls : (files : Option (List File)) (old new : Option (List Called)) (report : Bool) (classes : List NamedClass) → IfSome files (λ held. AreClassFiles held classes)
    → Calls old new (all_given (folder_questions (names_of_files classes))) → AsksInOrder old new (FolderCalls files report)
folder_calls files old new report classes are calls =
    (all_given (folder_questions (names_of_files classes)), calls, folder_read (names_of_files classes) (names_listed files classes are) refl)

pub folder_ends : (files : Option (List File)) (old new : Option (List Called)) (report : Bool) (failure : Failure FolderFault)
    → (calls : List Called) × Calls old new calls × StopsReading files calls failure → report ≡ false → AsksInOrder old new (FolderCalls files report)
folder_ends files old new report failure (calls, are, stops) quiet = (calls, are, folder_stops failure stops quiet)

-- ---- the stub file

module _ (files : Option (List File)) (old new : Option (List Called)) (w : Wanted) (report : Bool) where
  pub no_stub_calls : w.stubs ≡ None → AsksInOrder old new (FolderCalls files report) → AsksInOrder old new (StubCalls files w report)
  no_stub_calls none (calls, are, order) = (calls, are, without_stubs none order)

  pub stubs_end : (name : List ℕ) (is_given : Bool) → w.stubs ≡ Some name → CallsOne old new (document_question name) is_given → report ≡ false
      → AsksInOrder old new (StubCalls files w report)
  stubs_end name is_given named one quiet = (record { asked = document_question name; is_given = is_given } ∷ [], one, stubs_stop name named is_given refl quiet)

  pub stubs_go_on : (now : Option (List Called)) (after : Option (List File)) (name bytes : List ℕ) (n : ℕ) (stubs : List StubClass) → 1048576 < n → after ≡ files
      → w.stubs ≡ Some name → IsRead files name n bytes → IsStubFile name bytes stubs → CallsOne old now (document_question name) true
      → AsksInOrder now new (FolderCalls after report) → AsksInOrder old new (StubCalls files w report)
  stubs_go_on now after name bytes n stubs past same named read gives one (rest, are, order) =
      let has : HasStubs files name = if_some files _ (λ held e. let k = read_of files name n bytes held read e in (k.0, stubs, k.1, stubs_whole n k.0 bytes name stubs past k.2 gives)) in (
        given (document_question name) ∷ rest,
        calls_more old now new (given (document_question name) ∷ []) rest one are,
        stubs_read name rest named has (subst (λ (o : Option (List File)). FolderCalls o report rest) same order) refl,
      )

-- ---- the property file

module _ (files : Option (List File)) (old new : Option (List Called)) (w : Wanted) (report : Bool) where
  pub property_ends : (is_given : Bool) → CallsOne old new (document_question w.property) is_given → report ≡ false → AsksInOrder old new (PropertyCalls files w report)
  property_ends is_given one quiet = (record { asked = document_question w.property; is_given = is_given } ∷ [], one, property_stops is_given refl quiet)

  pub property_goes_on : (now : Option (List Called)) (after : Option (List File)) (bytes : List ℕ) (n : ℕ) (a : Automaton) → 1048576 < n → after ≡ files
      → IsRead files w.property n bytes → IsPropertyFile bytes a → CallsOne old now (document_question w.property) true
      → AsksInOrder now new (StubCalls after w report) → AsksInOrder old new (PropertyCalls files w report)
  property_goes_on now after bytes n a past same read gives one (rest, are, order) =
      let has : HasProperty files w.property = if_some files _ (λ held e. let k = read_of files w.property n bytes held read e in (k.0, a, k.1, property_whole n k.0 bytes a past k.2 gives)) in (
        given (document_question w.property) ∷ rest,
        calls_more old now new (given (document_question w.property) ∷ []) rest one are,
        property_read rest has (subst (λ (o : Option (List File)). StubCalls o w report rest) same order) refl,
      )

-- ---- the words

-- nothing was asked for
none_asked : (old : Option (List Called)) → Calls old old []
none_asked None = refl
none_asked (Some calls) = ap Some (sym (append_nothing calls))
  where
    append_nothing : (xs : List Called) → xs ++ [] ≡ xs
    append_nothing [] = refl
    append_nothing (x ∷ xs) = ap (λ (ys : List Called). x ∷ ys) (append_nothing xs)

pub no_run_calls : (words : List (List ℕ)) (files : Option (List File)) (old : Option (List Called)) (report : Bool) → report ≡ false → AsksInOrder old old (RunCalls words files report)
no_run_calls words files old report quiet = ([], none_asked old, no_calls refl quiet)

pub run_calls : (words : List (List ℕ)) (files : Option (List File)) (old new : Option (List Called)) (report : Bool) (w : Wanted) → AsksFor words w
    → AsksInOrder old new (PropertyCalls files w report) → AsksInOrder old new (RunCalls words files report)
run_calls words files old new report w asks (calls, are, order) = (calls, are, some_calls w asks order)

pub sample_calls : (words : List (List ℕ)) (files : Option (List File)) (old : Option (List Called)) (report : Bool) → AsksForSample words
    → AsksInOrder old old (RunCalls words files report)
sample_calls words files old report asks = ([], none_asked old, of_sample asks refl)

-- ---- where the lines of a report cannot be written, no report is claimed

folder_quiet : (files : Option (List File)) (report : Bool) (calls : List Called) → FolderCalls files report calls → FolderCalls files false calls
folder_quiet files report calls (folder_read names are is) = folder_read names are is
folder_quiet files report calls (folder_stops failure stops quiet) = folder_stops failure stops refl

stubs_quiet : (files : Option (List File)) (w : Wanted) (report : Bool) (calls : List Called) → StubCalls files w report calls → StubCalls files w false calls
stubs_quiet files w report calls (without_stubs none order) = without_stubs none (folder_quiet files report calls order)
stubs_quiet files w report calls (stubs_stop name named is_given is quiet) = stubs_stop name named is_given is refl
stubs_quiet files w report calls (stubs_read name rest named has order is) = stubs_read name rest named has (folder_quiet files report rest order) is

property_quiet : (files : Option (List File)) (w : Wanted) (report : Bool) (calls : List Called) → PropertyCalls files w report calls → PropertyCalls files w false calls
property_quiet files w report calls (property_stops is_given is quiet) = property_stops is_given is refl
property_quiet files w report calls (property_read rest has order is) = property_read rest has (stubs_quiet files w report rest order) is

pub run_quiet : (words : List (List ℕ)) (files : Option (List File)) (old new : Option (List Called)) (report : Bool) → AsksInOrder old new (RunCalls words files report)
    → AsksInOrder old new (RunCalls words files false)
run_quiet words files old new report (calls, are, no_calls is quiet) = (calls, are, no_calls is refl)
run_quiet words files old new report (calls, are, of_sample asks is) = (calls, are, of_sample asks is)
run_quiet words files old new report (calls, are, some_calls w asks order) = (calls, are, some_calls w asks (property_quiet files w report calls order))
