-- An element of several lists, one after another, is one of some list.
use Rattle.std.proofs.Common.{◌⊎◌, inl, inr, List, [], ◌∷◌, Contains, flat_map}
use Rattle.std.proofs.lemmas.List.Elements.{Contains-append_cases}
use Rattle.list_laws.proofs.Members.{contains_first, contains_later, contains_none}

pub record IsAmong {X Y : Type 0} (f : X → List Y) (xs : List X) (y : Y) : Type 0 where
  pub of : X
  pub there : Contains xs of
  pub gives : Contains (f of) y

pub among_flat : {X Y : Type 0} (f : X → List Y) (xs : List X) (y : Y) → Contains (flat_map f xs) y → IsAmong f xs y
among_flat f [] y there = absurd (contains_none y there)
among_flat {X = X} {Y = Y} f (x ∷ xs) y there = by (among_flat f xs y) (Contains-append_cases (f x) (flat_map f xs) y there)
  where
    by : (Contains (flat_map f xs) y → IsAmong f xs y) → Contains (f x) y ⊎ Contains (flat_map f xs) y → IsAmong f (x ∷ xs) y
    by rest (inl here) = record { of = x; there = contains_first x xs; gives = here }
    by rest (inr more) = let r = rest more in record { of = r.of; there = contains_later x r.of xs r.there; gives = r.gives }
