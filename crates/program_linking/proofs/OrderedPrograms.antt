-- Programs of the same classes in another order meet the same demands, but for those on cycles.
use Rattle.std.proofs.Common.{List, map}
use Rattle.std.specs.List.Sorted.{IsPermutation}
use Rattle.std.proofs.lemmas.List.Sorted.{IsPermutation-map, IsPermutation-sym, Contains-permutation}
use Rattle.jvm_model.specs.declared.program.Origin.{Origin}
use Rattle.jvm_model.specs.Linking.{Demand, differs, is_there, of_kind, no_cycle, Meets, IsOrder, program_from, class_from}
use Rattle.jvm_model.specs.Programs.{Class}
use Rattle.program_linking.specs.Claims.{IsFlat}
use Rattle.program_linking.proofs.KnownClasses.{SameDemands}

one_way : (all order : List Origin) → IsPermutation all order → IsPermutation order all → (d : Demand) → IsFlat d → Meets (program_from all) d → Meets (program_from order) d
one_way all order there back (differs earlier name) flat h = h
one_way all order there back (is_there name) flat h =
    Contains-permutation _ _ name
    (IsPermutation-map (λ (c : Class). c.name) (map class_from all) (map class_from order) (IsPermutation-map class_from all order there)) h
one_way all order there back (of_kind kind name) flat h = λ c has named.
    h c (Contains-permutation (map class_from order) (map class_from all) c (IsPermutation-map class_from order all back) has) named
one_way all order there back (no_cycle name) flat h = absurd flat

pub ordered_same : (all order : List Origin) → IsOrder all order → SameDemands (program_from all) (program_from order)
ordered_same all order is =
    let back = IsPermutation-sym all order is.same in
    record { to = one_way all order is.same back; from = one_way order all back is.same }
