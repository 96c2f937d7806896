-- As many parts of facts are pairs as are counted.
use Rattle.std.proofs.Common.{◌≡◌, suc, List, [], ◌∷◌, length, refl, ap}
use Rattle.least_sets.specs.Parts.{parts_of}
use Rattle.points_to_rules.specs.Facts.{Fact, may_hold, may_run, may_call, may_write}
use Rattle.points_to_rules.specs.Solutions.{pair_of, pairs_in}

pub count_pairs : (facts : List Fact) → length (parts_of pair_of facts) ≡ pairs_in facts
count_pairs [] = refl
count_pairs (may_hold h s ∷ facts) = ap suc (count_pairs facts)
count_pairs (may_run m ∷ facts) = count_pairs facts
count_pairs (may_call at m ∷ facts) = count_pairs facts
count_pairs (may_write m field ∷ facts) = count_pairs facts
