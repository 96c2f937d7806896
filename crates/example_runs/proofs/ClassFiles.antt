-- The class file of an example is the one of its folder.
use Rattle.std.proofs.Common.{codes, ◌≡◌, ℕ, ◌≤◌, true, List, [], ◌∷◌, length, leb, refl, arith, leb-true}
use Rattle.std.specs.List.{list_all}
use Rattle.std.proofs.lemmas.List.Sorted.{IsPermutation-refl}
use Rattle.jvm_model.specs.Code.{CodeBody}
use Rattle.jvm_model.specs.Spelling.{spell}
use Rattle.class_folder.specs.ClassFiles.{AreClassFiles}
use Rattle.example_runs.specs.Examples.{class_with_main, folder_with}
use Rattle.example_runs.proofs.ClassChecks.{class_fits, member_fits, sound}
use Rattle.example_runs.proofs.Linked.{named, sorted}

pub are_class_files : (main : CodeBody) (property : List ℕ) → list_all member_fits (class_with_main main).methods ≡ true → leb (length (spell (class_with_main main))) 4194304 ≡ true
    → AreClassFiles (folder_with (class_with_main main) property) (named main ∷ [])
are_class_files main property each few =
    let small : length (spell (class_with_main main)) ≤ 4194304 = leb-true _ _ few in
    record {
      names = codes "F.class" ∷ [];
      listing = record { each = IsPermutation-refl _; order = sorted (codes "F.class" ∷ []) refl };
      number = omega arith;
      read = record {
        each = (
          record {
            file = refl;
            bytes = spell (class_with_main main);
            held = refl;
            spelled = record { spelling = record { fits = class_fits main each; spelled = refl }; oldest = omega arith; newest = omega arith; size = small };
            sound = sound main;
          },
          tt,
        );
        size = omega (arith, small);
      };
    }
