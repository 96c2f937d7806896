-- The entry of an example: its method `main`, since no other method of the class takes an array of strings.
use Rattle.std.proofs.Common.{codes, ◌≡◌, ℕ, [], ◌∷◌, true, refl}
use Rattle.jvm_model.specs.Code.{CodeBody}
use Rattle.jvm_model.specs.Lookups.{Signature}
use Rattle.entry_points.specs.Entries.{IsEntry, IsStarting, plain, strings_descriptor}
use Rattle.example_machine.proofs.Searches.{differ, no_method, none_declared}
use Rattle.example_runs.specs.Examples.{class_with_main, method_with}
use Rattle.example_runs.proofs.Linked.{program}

abbrev with_strings : Signature
with_strings = record { name = codes "main"; descriptor = strings_descriptor }

none_with_strings : (main : CodeBody) → no_method (codes "F" ∷ []) with_strings (program main) ≡ true
none_with_strings main = refl

no_other : (main : CodeBody) (other : ℕ) → IsStarting (program main) (codes "F") (codes "main") strings_descriptor other → ⊥
no_other main other s =
    none_declared (program main) (codes "F" ∷ []) with_strings (λ n m. m.signature ≡ with_strings) (λ n m at is. is) (none_with_strings main) (codes "F") refl other
    (record { method = s.found; stands = s.stands; of_class = s.of_class; is = s.named })

pub is_entry : (main : CodeBody) → IsEntry (program main) (codes "F") (codes "main") 0
is_entry main = plain (no_other main) (record {
  found = _;
  stands = refl;
  of_class = refl;
  named = refl;
  static = refl;
  coded = record {
    method = _;
    stands = refl;
    file = class_with_main main;
    place = 0;
    member = method_with 9 8 6 main;
    of_file = refl;
    code = record { owner = method_with 9 8 6 main; there = refl; has_code = refl };
  };
  no_initialiser = differ (codes "main") (codes "<clinit>") refl;
})
