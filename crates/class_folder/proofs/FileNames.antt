-- The names of the class files that were read are those of the listing. The crates above cite it.
use Rattle.std.proofs.Common.{◌≡◌, List, [], ◌∷◌, ℕ, Option, IfSome, ap, refl, sym, subst}
use Rattle.std.specs.List.{AllZip}
use Rattle.ts_outside.specs.Files.{File, IsListing}
use Rattle.jvm_model.specs.declared.program.NamedClass.{NamedClass}
use Rattle.class_folder.specs.ClassFiles.{AreClassFiles, IsClassFile}
use Rattle.class_folder.specs.FolderCalls.{AreNames, names_of_files}
use Rattle.class_folder.proofs.Options.{at_some, if_some}

named_by : (files : List File) (names : List (List ℕ)) (classes : List NamedClass) → AllZip (IsClassFile files) names classes → names ≡ names_of_files classes
named_by files [] [] each = refl
named_by files [] (c ∷ classes) each = absurd each
named_by files (name ∷ names) [] each = absurd each
named_by files (name ∷ names) (c ∷ classes) each =
    let rest = named_by files names classes each.1 in
    (λ i. sym each.0.file i ∷ rest i)

pub names_listed : (files : Option (List File)) (classes : List NamedClass) → IfSome files (λ held. AreClassFiles held classes) → AreNames files (names_of_files classes)
names_listed files classes are =
    if_some files _ (λ held e.
    let is = at_some files (λ held. AreClassFiles held classes) held e are in
    subst (IsListing held) (named_by held is.names classes is.read.each) is.listing)
