use Rattle.std.proofs.Common.{◌≡◌, true, map, string_bytes}
use Rattle.std.specs.Ordering.{nat_cmp}
use Rattle.std.specs.Cmp.Lexicographic.{slice_cmp}
use Rattle.std.proofs.lemmas.List.Sums.{AllPass-from_list_all, list_all-from_AllPass}
use Rattle.std.proofs.lemmas.Map.Views.{All-map-IsPermutation}
use Rattle.ts_outside.specs.Files.{is_class_name}
use Rattle.ts_outside.proofs.HeldLemmas.{IsSorted-map}
use Rattle.ts_outside.proofs.walk.Walk.sorted_names.Goals as goal

pub returns : goal.returns
returns c =
    let found = AllPass-from_list_all is_class_name (map string_bytes c.args.self.names.items) c.args.self.named in
    let sorted = All-map-IsPermutation string_bytes (λ name. is_class_name name ≡ true) _ _ c.sort.ensures.permutation found in
    record {
      class_names = record {
        named = list_all-from_AllPass is_class_name (map string_bytes c.sort.new.self.items) sorted;
        order = IsSorted-map string_bytes (slice_cmp nat_cmp) _ c.in_ok-sort.ensures.sorted;
      };
    }
