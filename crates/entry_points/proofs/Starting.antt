-- A method that can start a program is one that its class declares; and there is only one of a name and a descriptor.
use Rattle.std.proofs.Common.{◌≡◌, ◌∙◌, ℕ, List, Some, None, Option, IfNone}
use Rattle.std.specs.List.{slice_get}
use Rattle.jvm_model.specs.declared.number.MethodNo.{MethodNo}
use Rattle.jvm_model.specs.LinkedPrograms.{IsProgram}
use Rattle.jvm_model.specs.Programs.{Method, Program}
use Rattle.jvm_model.specs.Soundness.{plain_descriptor}
use Rattle.hierarchy.proofs.ClassPlaces.{IsNowhere, class_of_method}
use Rattle.entry_points.specs.Entries.{IsEntry, IsStarting, with_strings, plain, strings_descriptor}

-- where no method of either descriptor can start the program, it has no entry
pub none_starts : (p : Program) (class method : List ℕ) → ((n : ℕ) → IsStarting p class method strings_descriptor n → ⊥) → (r : Option MethodNo)
    → IfNone r ((n : ℕ) → IsStarting p class method plain_descriptor n → ⊥) → IfNone r ((n : ℕ) → IsEntry p class method n → ⊥)
none_starts p class method strings (Some m) bare = tt
none_starts p class method strings None bare = by
  where
    by : (n : ℕ) → IsEntry p class method n → ⊥
    by n (with_strings s) = strings n s
    by n (plain none s) = bare n s

-- no method stands in a class that is not there
pub no_class : (p : Program) → IsProgram p → (class : List ℕ) → IsNowhere p class → (n : ℕ) (m : Method) → slice_get p.methods n ≡ Some m → m.class ≡ class → ⊥
no_class p program class nowhere n m stands of_class =
    let owner = class_of_method p program n m stands in
    nowhere owner.0 owner.1 (owner.2 ∙ of_class)
