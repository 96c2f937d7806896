-- The walk over the names of the listing, by its calls: each name of those before was asked for and given.
use Rattle.std.proofs.Common.{◌≡◌, ◌∙◌, ℕ, Bool, true, false, List, [], ◌∷◌, ◌++◌, map, Option, IfSome, String, Global, string_bytes, refl, sym, ap, subst}
use Rattle.std.proofs.lemmas.List.{map-append, map-id}
use Rattle.failure.specs.declared.Failure.{Failure}
use Rattle.failure.specs.declared.Failure.TheVariants.{Cause, OutOfMemory}
use Rattle.jvm_model.specs.declared.program.NamedClass.{NamedClass}
use Rattle.ts_outside.specs.Calls.{Called, Calls, CallsOne, Question, all_given, given, listing}
use Rattle.ts_outside.specs.Files.{File, IsListing}
use Rattle.ts_outside.proofs.CalledMore.{calls_more}
use Rattle.class_folder.specs.declared.fault.FolderFault.{FolderFault}
use Rattle.class_folder.specs.declared.fault.FolderFault.TheVariants.{Refused, Missing, Unreadable}
use Rattle.class_folder.specs.FolderCalls.{AreNames, EndsFile, EndsListing, StopsReading, at_file, at_listing, file_question, folder_questions, names_of_files}
use Rattle.class_folder.specs.Reading.{AreListed, IsFileFailure}
use Rattle.class_folder.proofs.Options.{at_some, if_some}
use Rattle.class_folder.proofs.Walk.{names_at_turn}

-- a text, as its bytes
abbrev bytes : String Global → List ℕ
bytes = string_bytes {Z = Global}

-- What was asked for in the walk, and what the class files are named by.
pub record HasAsked (start now : Option (List Called)) (done : List (String Global)) (classes : List NamedClass) : Type 0 where
  pub calls : Calls start now (all_given (folder_questions (map bytes done)))
  pub named : names_of_files classes ≡ map bytes done

-- one file more is asked for
questions_more : (names : List (List ℕ)) (name : List ℕ) → all_given (folder_questions names) ++ given (file_question name) ∷ [] ≡ all_given (folder_questions (names ++ name ∷ []))
questions_more names name =
    sym (ap (λ (questions : List Question). all_given (listing ∷ questions)) (map-append file_question names (name ∷ []))
    ∙ ap (λ (calls : List Called). given listing ∷ calls) (map-append given (map file_question names) (file_question name ∷ [])))

pub asks_one_more : (start now after : Option (List Called)) (done : List (String Global)) (name : String Global) (old new : List NamedClass)
    → HasAsked start now done old → CallsOne now after (file_question (bytes name)) true → names_of_files new ≡ names_of_files old ++ bytes name ∷ []
    → HasAsked start after (done ++ name ∷ []) new
asks_one_more start now after done name old new asked one named =
    let names : map bytes (done ++ name ∷ []) ≡ map bytes done ++ bytes name ∷ [] = map-append bytes done (name ∷ []) in
    record {
      calls = subst (Calls start after) (questions_more (map bytes done) (bytes name) ∙ ap (λ (ns : List (List ℕ)). all_given (folder_questions ns)) (sym names))
          (calls_more start now after (all_given (folder_questions (map bytes done))) (given (file_question (bytes name)) ∷ []) asked.calls one);
      named = named ∙ (ap (λ (ns : List (List ℕ)). ns ++ bytes name ∷ []) asked.named ∙ sym names);
    }

-- ---- the ends

-- the calls of a reading that fails
abbrev pub Stops : Option (List File) → Option (List Called) → Option (List Called) → Failure FolderFault → Type 0
Stops files old new failure = (calls : List Called) × Calls old new calls × StopsReading files calls failure

pub stops_listing : (files : Option (List File)) (old new : Option (List Called)) (failure : Failure FolderFault)
    → (is_given : Bool) × EndsListing failure is_given × CallsOne old new listing is_given → Stops files old new failure
stops_listing files old new failure (is_given, ends, one) =
    (record { asked = listing; is_given = is_given } ∷ [], one, at_listing is_given ends refl)

pub stops_file : (files : Option (List File)) (start now after : Option (List Called)) (all done rest : List (String Global)) (name : String Global) (classes : List NamedClass)
    (failure : Failure FolderFault)
    → IfSome files (λ held. AreListed held (map bytes all)) → all ≡ done ++ name ∷ rest → HasAsked start now done classes
    → (is_given : Bool) × EndsFile failure (bytes name) is_given × CallsOne now after (file_question (bytes name)) is_given → Stops files start after failure
stops_file files start now after all done rest name classes failure listed is asked (is_given, ends, one) =
    let last : List Called = record { asked = file_question (bytes name); is_given = is_given } ∷ [] in
    let before : List Called = all_given (folder_questions (map bytes done)) in
    let names : AreNames files (map bytes done ++ bytes name ∷ map bytes rest) =
    if_some files _ (λ held e.
    subst (λ (ns : List (List ℕ)). IsListing held ns) (names_at_turn all done rest name is) (at_some files (λ held. AreListed held (map bytes all)) held e listed).listing) in
    (before ++ last, calls_more start now after before last asked.calls one, at_file (map bytes done) (map bytes rest) (bytes name) names is_given ends refl)

pub asked_all : (start now : Option (List Called)) (all done : List (String Global)) (classes : List NamedClass) → map (λ (y : String Global). y) done ≡ all
    → HasAsked start now done classes → Calls start now (all_given (folder_questions (names_of_files classes)))
asked_all start now all done classes is asked =
    subst (λ (ns : List (List ℕ)). Calls start now (all_given (folder_questions ns))) (sym asked.named) asked.calls

-- ---- a file that is no class file

pub ends_file : (name content : List ℕ) (size : ℕ) (failure : Failure FolderFault) → IsFileFailure name content size failure → EndsFile failure name true
ends_file name content size (Cause (Refused r)) h = (h.0, refl)
ends_file name content size (Cause (Missing other)) h = absurd h
ends_file name content size (Cause Unreadable) h = absurd h
ends_file name content size OutOfMemory h = tt
