-- Lists by their places, for the crates that take these lemmas from here.
use Rattle.std.proofs.Common.{◌≡◌, List, ◌∷◌, ◌⊎◌}
use Rattle.std.specs.List.{Contains}
use Rattle.list_laws.proofs.Members.{contains_cases as contained_cases, contains_later as contained_later}
pub use Rattle.list_laws.proofs.Members.{contains_none, contains_first}
pub use Rattle.list_laws.proofs.Places.{place_of, contains_at, in_front, to_front, front_push, set_at as at_set, set_other as past_set, stands_below, all_at}

-- membership by the first element and the others
pub contains_later : {X : Type 0} (y : X) (xs : List X) (x : X) → Contains xs x → Contains (y ∷ xs) x
contains_later y xs x there = contained_later y x xs there

pub contains_cases : {X : Type 0} (y : X) (xs : List X) (x : X) → Contains (y ∷ xs) x → (y ≡ x) ⊎ Contains xs x
contains_cases y xs x there = contained_cases y x xs there
