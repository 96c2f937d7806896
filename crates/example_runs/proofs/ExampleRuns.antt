-- The words and the files of the examples are those of runs of their programs.
use Rattle.std.proofs.Common.{◌≡◌, ℕ, true, List, [], ◌∷◌, length, leb, refl}
use Rattle.std.specs.List.{list_all}
use Rattle.jvm_model.specs.Code.{CodeBody}
use Rattle.jvm_model.specs.Spelling.{spell}
use Rattle.machine_bytecode.specs.Executions.{Errs}
use Rattle.machine_bytecode.specs.Objects.{Subject}
use Rattle.command_words.specs.Requests.{AsksFor}
use Rattle.property_file.specs.PropertyFile.{IsPropertyFile}
use Rattle.run_spec.specs.RunSubjects.{IsRunOf}
use Rattle.example_machine.proofs.Runs.{body_fits}
use Rattle.example_runs.specs.Examples.{EndsIn, class_with_main, folder_with, default_words, made_by_entry, made_by_make, main_code, next_code, object_in_array_folder, one_read_file, put_into_array, read_after_close_folder, read_then_close_file, read_then_close_folder, second_read_folder, two_objects_folder, two_reads_folder, words}
use Rattle.example_runs.proofs.ClassChecks.{member_fits}
use Rattle.example_runs.proofs.ClassFiles.{are_class_files}
use Rattle.example_runs.proofs.Ends.{after_close, after_close_ends, after_close_errs, in_array_ends, next_object_ends, opened_next, then_close, then_close_ends, twice, twice_ends, twice_errs}
use Rattle.example_runs.proofs.Entry.{is_entry}
use Rattle.example_runs.proofs.Linked.{links, named}
use Rattle.example_runs.proofs.Properties.{one_read_is, read_then_close_is, with_reads}
use Rattle.example_runs.proofs.Runs.{x}
use Rattle.example_runs.proofs.Words.{asks, asks_by_default, wanted_with}

module _ (main : CodeBody) (nexts property : List ℕ) (fits : body_fits main ≡ true) (each : list_all member_fits (class_with_main main).methods ≡ true)
    (few : leb (length (spell (class_with_main main))) 4194304 ≡ true) (is_property : IsPropertyFile property (with_reads nexts)) where
  is_run : (given : List (List ℕ)) (stages : ℕ) → AsksFor given (wanted_with stages) → IsRunOf given (folder_with (class_with_main main) property) (x main nexts fits)
  is_run given stages asked = record {
    input = record { wanted = wanted_with stages; property = with_reads nexts; stubs = []; classes = named main ∷ [] };
    is_input = record {
      asks = asked;
      of_tree = tt;
      property_bytes = property;
      property_held = refl;
      property = is_property;
      stubs = refl;
      classes = are_class_files main property each few;
    };
    property = refl;
    links = links main;
    entry = is_entry main;
  }

  by_first_stage : IsRunOf words (folder_with (class_with_main main) property) (x main nexts fits)
  by_first_stage = is_run words 1 asks

  by_default : IsRunOf default_words (folder_with (class_with_main main) property) (x main nexts fits)
  by_default = is_run default_words 4 asks_by_default

-- ---- by the first stage

two_reads_run : IsRunOf words two_reads_folder (x (main_code twice) opened_next refl)
two_reads_run = by_first_stage (main_code twice) opened_next read_then_close_file refl refl refl read_then_close_is

second_read_run : IsRunOf words second_read_folder (x (main_code twice) (1 ∷ 2 ∷ 2 ∷ []) refl)
second_read_run = by_first_stage (main_code twice) (1 ∷ 2 ∷ 2 ∷ []) one_read_file refl refl refl one_read_is

read_after_close_run : IsRunOf words read_after_close_folder (x (main_code after_close) opened_next refl)
read_after_close_run = by_first_stage (main_code after_close) opened_next read_then_close_file refl refl refl read_then_close_is

pub two_reads_end : (s : Subject) × IsRunOf words two_reads_folder s × EndsIn s (made_by_entry s) (0 ∷ [])
two_reads_end = (x (main_code twice) opened_next refl, two_reads_run, twice_ends opened_next)

pub second_read_errs : (s : Subject) × IsRunOf words second_read_folder s × Errs s (made_by_entry s)
second_read_errs = (x (main_code twice) (1 ∷ 2 ∷ 2 ∷ []) refl, second_read_run, twice_errs)

pub second_read_ends : (s : Subject) × IsRunOf words second_read_folder s × EndsIn s (made_by_entry s) (2 ∷ [])
second_read_ends = (x (main_code twice) (1 ∷ 2 ∷ 2 ∷ []) refl, second_read_run, twice_ends (1 ∷ 2 ∷ 2 ∷ []))

pub read_after_close_errs : (s : Subject) × IsRunOf words read_after_close_folder s × Errs s (made_by_entry s)
read_after_close_errs = (x (main_code after_close) opened_next refl, read_after_close_run, after_close_errs)

pub read_after_close_ends : (s : Subject) × IsRunOf words read_after_close_folder s × EndsIn s (made_by_entry s) (2 ∷ [])
read_after_close_ends = (x (main_code after_close) opened_next refl, read_after_close_run, after_close_ends)

-- ---- by all stages

pub second_read_errs_by_default : (s : Subject) × IsRunOf default_words second_read_folder s × Errs s (made_by_entry s)
second_read_errs_by_default = (x (main_code twice) (1 ∷ 2 ∷ 2 ∷ []) refl, by_default (main_code twice) (1 ∷ 2 ∷ 2 ∷ []) one_read_file refl refl refl one_read_is, twice_errs)

pub read_after_close_errs_by_default : (s : Subject) × IsRunOf default_words read_after_close_folder s × Errs s (made_by_entry s)
read_after_close_errs_by_default =
    (x (main_code after_close) opened_next refl, by_default (main_code after_close) opened_next read_then_close_file refl refl refl read_then_close_is, after_close_errs)

pub read_then_close_ends : (s : Subject) × IsRunOf default_words read_then_close_folder s × EndsIn s (made_by_entry s) (1 ∷ [])
read_then_close_ends =
    (x (main_code then_close) opened_next refl, by_default (main_code then_close) opened_next read_then_close_file refl refl refl read_then_close_is, then_close_ends)

pub two_objects_end : (s : Subject) × IsRunOf default_words two_objects_folder s × EndsIn s (made_by_make s) (1 ∷ 0 ∷ [])
two_objects_end = (x (next_code []) opened_next refl, by_default (next_code []) opened_next read_then_close_file refl refl refl read_then_close_is, next_object_ends)

pub object_in_array_ends : (s : Subject) × IsRunOf default_words object_in_array_folder s × EndsIn s (made_by_make s) (1 ∷ 0 ∷ [])
object_in_array_ends =
    (x (next_code put_into_array) opened_next refl, by_default (next_code put_into_array) opened_next read_then_close_file refl refl refl read_then_close_is, in_array_ends)
